use Rattle.std.specs.Prelude.{◌≡◌, map, take}
use Rattle.serving.proofs.summary.end_line.Given as goal

abbrev pub invariant-outputs : goal.invariant-outputs
invariant-outputs g l = l.results.items ≡ map (λ o. o.result) (take l.output-index l.outputs)
