use Rattle.std.proofs.Common.{◌≡◌, ◌≤◌, ℕ, List, ◌++◌, encode_utf8_all}
use Rattle.std.specs.Fmt.{HasWritten, IsPlainFormatter}
use Rattle.std.specs.Char.Escape.{escape_default}
use Rattle.std.specs.Char.Iter.{escape_rest, escape_left, escape_end}
use Rattle.settings.proofs.one_line.write_shown.Given as goal

abbrev pub invariant-parts : goal.invariant-parts
invariant-parts g l =
    (escape_end l.escape ≤ 10)
    × (IsPlainFormatter l.initial.f
    → (done : List ℕ) × HasWritten g.W.Write.write_str_gives l.initial.f done l.f
    × (done ++ encode_utf8_all (escape_rest l.escape) ≡ encode_utf8_all (escape_default l.fn.character)))

abbrev pub decreases-parts : goal.decreases-parts
decreases-parts g l = escape_left l.escape
