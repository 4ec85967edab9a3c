-- What contracts see of a sequence in blocks.
use Rattle.std.specs.Prelude.{◌≡◌, ◌≤◌, ◌<◌, ◌+◌, ◌*◌, List, length, vec_len, vec_capacity}
use Rattle.queue_slots.specs.declared.entry.Slot.{Slot}
use Rattle.queue_slots.specs.declared.blocks.Blocks.TheInside.{Inside}
use Rattle.queue_slots.specs.Blocks.{joined, IsPaired}

abbrev pub sequence : Inside → List Slot
sequence q = joined q.blocks.items

pub record IsSequence (q : Inside) : Type 0 where
  pub len : length (joined q.blocks.items) ≡ q.len
  pub paired : IsPaired q.blocks.items
  pub enough : 0 < q.len → q.len + 512 ≤ 128 * (vec_len q.blocks + vec_len q.spare)
  pub room : vec_len q.blocks + vec_len q.spare ≤ vec_capacity q.blocks
  pub spare_room : vec_len q.blocks + vec_len q.spare ≤ vec_capacity q.spare
