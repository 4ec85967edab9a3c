use Rattle.std.proofs.Common.{◌≡◌, map, drop}
use Rattle.idle_notes.specs.Channels.{data_of, member_of}
use Rattle.idle_notes.proofs.channels.find_member.Given as goal

abbrev pub invariant-loop-member : goal.invariant-loop-member
invariant-loop-member l = member_of l.client (map data_of l.members) ≡ member_of l.client (map data_of (drop l.member-index l.members))
