use Rattle.std.specs.Prelude.{◌≡◌, is_some, length, map, take}
use Rattle.stalled_outputs.proofs.paths.output_paths.Given as goal

abbrev pub invariant-outputs : goal.invariant-outputs
invariant-outputs g l =
    (length l.writers.items ≡ l.output-index)
    × (map is_some l.patient.items ≡ map (λ o. is_some o.patience) (take l.output-index l.outputs))
