use Rattle.std.proofs.Common.{◌≡◌, map, take}
use Rattle.idle_notes.specs.Channels.{data_of}
use Rattle.idle_notes.proofs.channels.copies.Given as goal

abbrev pub invariant-loop-member : goal.invariant-loop-member
invariant-loop-member l = map data_of l.copies.items ≡ map data_of (take l.member-index l.members)
