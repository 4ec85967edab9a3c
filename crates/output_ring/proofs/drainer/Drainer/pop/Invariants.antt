use Rattle.std.proofs.Common.{◌≡◌, ◌-◌, ◌++◌, length}
use Rattle.output_ring.specs.Rings.{Comes, came_of, fates_of, hand_of, most_of, popped_of}
use Rattle.output_ring.proofs.drainer.Drainer.pop.Given as goal

abbrev pub invariant-loop-count : goal.invariant-loop-count
invariant-loop-count l = record {
  comes : Comes l.initial.self l.self;
  count : length (came_of l.initial.self l.self) ≡ l.count;
  order : popped_of l.self ≡ fates_of l.self ++ hand_of l.self;
}

-- how much room the hand has still
abbrev pub decreases-loop-count : goal.decreases-loop-count
decreases-loop-count l = most_of l.self - length (hand_of l.self)
