use Rattle.std.proofs.Common.{◌≡◌, map, drop}
use Rattle.idle_notes.specs.Channels.{data_of, has_room}
use Rattle.idle_notes.proofs.channels.Channels.has_room.Given as goal

abbrev pub invariant-loop-member : goal.invariant-loop-member
invariant-loop-member l = has_room l.name (map data_of l.member-items) ≡ has_room l.name (map data_of (drop l.member-index l.member-items))
