use Rattle.std.specs.Prelude.{◌≡◌, ◌++◌, is_some, map}
use Rattle.std.specs.Vec.Iter.{into_iter_items}
use Rattle.stalled_outputs.proofs.gates.gates_of.Given as goal

abbrev pub invariant-patient : goal.invariant-patient
invariant-patient g l =
    (goal.iterator-patient g).can_next l.through-iterator × (goal.iterator-patient g).is_finite l.through-iterator
    × (map is_some l.outputs.items ≡ map is_some l.yielded) × (l.yielded ++ into_iter_items l.through-iterator ≡ l.fn.patient.items)
