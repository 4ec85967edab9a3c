-- The seven ledgers of a house.
use Rattle.std.specs.Prelude.{ℕ, ◌≡◌, nat_lt, if◌then◌else◌}
use Rattle.std.specs.declared.sync.ledger.Blank.{Blank}

-- How many parts a ledger has: those of the seats and of decoded frames one, those of written and discarded
-- frames one for each output, and one more.
abbrev pub parts_at : ℕ → ℕ
parts_at index = if nat_lt index 5 then 1 else 9

-- a blank that opens the ledger at an index
abbrev pub IsAt : (ℕ → ℕ) → ℕ → Blank → Type 0
IsAt names index blank = (blank.name ≡ names index) × (blank.parts ≡ parts_at index)
