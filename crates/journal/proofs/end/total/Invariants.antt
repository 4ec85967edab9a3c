use Rattle.std.specs.Prelude.{◌≡◌, min, take}
use Rattle.std.specs.List.{sum_by}
use Rattle.journal.specs.End as ends
use Rattle.journal.proofs.end.total.Given as goal

abbrev pub invariant-outputs : goal.invariant-outputs
invariant-outputs l = l.sum ≡ min (sum_by (ends.frames l.fate) (take l.output-index l.outputs)) 18446744073709551615
