-- What contracts see of a block.
use Rattle.std.specs.Prelude.{◌≤◌, List, length, vec_capacity}
use Rattle.queue_slots.specs.declared.entry.Slot.{Slot}
use Rattle.queue_slots.specs.declared.block.Block.TheInside.{Inside}
use Rattle.queue_slots.specs.Blocks.{shown_as, IsWithin}

abbrev pub shown : Inside → List Slot
shown b = shown_as b.alike b.top b.marked b.slots.items

pub record IsBlock (b : Inside) : Type 0 where
  pub room : 256 ≤ vec_capacity b.slots
  pub len : length b.slots.items ≤ 256
  pub within : IsWithin b.top b.marked (shown b)
