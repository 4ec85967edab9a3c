use Rattle.std.proofs.Common.{◌≡◌, All, false, take}
use Rattle.crew_steps.specs.Each.{Each}
use Rattle.crew_steps.specs.Feeding.{OwesNothing, TakesNone}
use Rattle.crew_steps.proofs.feeders.push_all.Given as goal

abbrev pub invariant-loop-i : goal.invariant-loop-i
invariant-loop-i l = record {
  kept : Each TakesNone l.initial.feeders.items l.feeders.items;
  waits : l.pushed.waits ≡ false → All OwesNothing (take l.i l.feeders.items);
}
