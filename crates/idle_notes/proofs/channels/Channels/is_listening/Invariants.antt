use Rattle.std.proofs.Common.{◌≡◌, map, drop}
use Rattle.idle_notes.specs.Channels.{data_of, is_listening}
use Rattle.idle_notes.proofs.channels.Channels.is_listening.Given as goal

abbrev pub invariant-loop-member : goal.invariant-loop-member
invariant-loop-member l = is_listening l.client (map data_of l.member-items) ≡ is_listening l.client (map data_of (drop l.member-index l.member-items))
