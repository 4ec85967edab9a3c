use Rattle.std.proofs.Common.{◌≡◌, take}
use Rattle.queue_slots.specs.Keys.{ids_of, Notes}
use Rattle.queue_slots.proofs.index.Index.note.Given as goal

abbrev pub invariant-loop-slot : goal.invariant-loop-slot
invariant-loop-slot l =
    record {
      keys : Notes l.initial.self.keys l.self.keys (ids_of (take l.slot-index l.slots)) l.key;
      last : l.self.last ≡ l.initial.self.last;
    }
