use Rattle.std.proofs.Common.{rules, All, arith, subst, sym, ◌∙◌}
use Rattle.std.proofs.lemmas.List.{take_all}
use Rattle.crew_steps.specs.Feeding.{OwesNothing, TakesNone}
use Rattle.crew_steps.proofs.Eaches.{each_refl}
use Rattle.crew_steps.proofs.Pushes.{both, none_refl, none_set, one_more}
use Rattle.crew_steps.proofs.feeders.push_all.Goals as goal

pub loop-i-init : goal.loop-i-init
loop-i-init c = record { kept = each_refl TakesNone _ none_refl; waits = λ h k d low. absurd (omega (arith, low)) }

pub loop-i-preserved : goal.loop-i-preserved
loop-i-preserved c = record {
  kept = none_set _ c.loop-i.feeders.items c.loop-i.i c.index_mut.result.now c.push_one.new.feeder (search rules) c.index_mut.ensures.value c.push_one.ensures.kept c.loop-i.invariant.kept;
  waits = λ h. let flags = both c.loop-i.pushed.waits c.push_one.result.waits (sym c.joined-pushed.ensures.waits ∙ h) in
      one_more OwesNothing c.loop-i.feeders.items c.loop-i.i c.push_one.new.feeder (search rules) (c.loop-i.invariant.waits flags.0) (c.push_one.ensures.waits flags.1);
}

pub returns-clause-waits : goal.returns-clause-waits
returns-clause-waits c = λ h. subst (All OwesNothing) (take_all c.loop-i.i c.loop-i.feeders.items (search rules)) (c.loop-i.invariant.waits h)
