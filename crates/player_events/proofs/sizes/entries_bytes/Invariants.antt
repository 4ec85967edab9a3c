use Rattle.std.proofs.Common.{◌≡◌, ◌+◌, ◌-◌, ◌^◌, ℕ, List, length, map, take}
use Rattle.std.specs.Prelude.{min, sum_by}
use Rattle.shelf.specs.Entries.{entry_texts}
use Rattle.player_events.proofs.sizes.entries_bytes.Given as goal

abbrev pub invariant-loop-entry : goal.invariant-loop-entry
invariant-loop-entry l = l.bytes ≡ min (sum_by (λ (e : List ℕ × List ℕ). length e.0 + length e.1) (map entry_texts (take l.entry-index l.entries))) (2 ^ 64 - 1)
