use Rattle.crew_steps.specs.Each.{EachAt}
use Rattle.crew_steps.specs.Feeding.{TakesItsOwn, fed_frames}
use Rattle.crew_steps.proofs.Indices.{SoFar}
use Rattle.crew_steps.proofs.feeders.take_all.Given as goal

abbrev pub invariant-loop-i : goal.invariant-loop-i
invariant-loop-i g l = EachAt (SoFar (TakesItsOwn (fed_frames l.feed l.frames)) l.i) 0 l.initial.feeders.items l.feeders.items
