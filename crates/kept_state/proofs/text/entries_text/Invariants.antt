use Rattle.std.proofs.Common.{◌≡◌, ◌≤◌, string_bytes, drop, length}
use Rattle.kept_state.specs.Texts.{entries_text}
use Rattle.kept_state.proofs.text.entries_text.Given as goal

abbrev pub invariant-loop-left : goal.invariant-loop-left
invariant-loop-left l = (l.left ≤ length l.entries) × (string_bytes l.text ≡ entries_text (drop l.left l.entries))

abbrev pub decreases-loop-left : goal.decreases-loop-left
decreases-loop-left l = l.left
