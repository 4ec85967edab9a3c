use Rattle.std.proofs.Common.{flat_map, encode_utf8_all}
use Rattle.std.specs.Fmt.{HasWritten, IsPlainFormatter}
use Rattle.settings.specs.OneLines.{shown}
use Rattle.settings.proofs.one_line.write_line.Given as goal

abbrev pub invariant-loop-character : goal.invariant-loop-character
invariant-loop-character g l =
    IsPlainFormatter l.initial.f
    → HasWritten g.W.Write.write_str_gives l.initial.f (encode_utf8_all (flat_map shown l.yielded)) l.f
