use Rattle.std.proofs.Common.{◌≡◌, take}
use Rattle.queue_slots.specs.Keys.{Forgets, ids_of}
use Rattle.queue_slots.proofs.index.Index.forget.Given as goal

abbrev pub invariant-loop-slot : goal.invariant-loop-slot
invariant-loop-slot l =
    record {
      keys : Forgets l.initial.self.keys l.self.keys (ids_of (take l.slot-index l.slots));
      last : l.self.last ≡ l.initial.self.last;
    }
