use Rattle.std.proofs.Common.{refl}
use Rattle.crew_steps.specs.Feeding.{TakesNone}
use Rattle.crew_steps.proofs.Eaches.{each_refl}
use Rattle.crew_steps.proofs.Pushes.{each_none, none_refl}
use Rattle.crew_steps.proofs.decoder.Decoder.fill_rings.Goals as goal

pub loop-init : goal.loop-init
loop-init g c = record { kept = each_refl TakesNone _ none_refl; rate = refl }

pub loop-preserved : goal.loop-preserved
loop-preserved g c = record { kept = each_none _ _ _ c.loop.invariant.kept c.push_all-pushed.ensures.kept; rate = c.loop.invariant.rate }

pub returns-then-are_among-clause-kept : goal.returns-then-are_among-clause-kept
returns-then-are_among-clause-kept g c = each_none _ _ _ c.loop.invariant.kept c.push_all-pushed.ensures.kept
