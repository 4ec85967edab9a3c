use Rattle.std.specs.Prelude.{◌≡◌, ℕ, length, min}
use Rattle.std.specs.Str.Lines.{lines}
use Rattle.kept_state.proofs.OneLine.{LeadsOn}
use Rattle.kept_state.proofs.telling.tell_lines.Given as goal

abbrev pub invariant-told : goal.invariant-told
invariant-told g l =
    (count : ℕ) × (l.refused ≡ min count 18446744073709551615)
    × LeadsOn g.H.Hearer.hears (lines l.text) l.initial.hearer (length l.yielded) l.course count l.hearer
