-- How fast a scan is (this profile's).
use Rattle.std.specs.Prelude.{ℕ, ◌*◌, ◌/◌, ◌==◌, if◌then◌else◌}

-- how many of something came in a second, cut, of so many in so many thousandths; none where no time passed
abbrev pub per_second : ℕ → ℕ → ℕ
per_second count millis = if millis == 0 then 0 else count * 1000 / millis
