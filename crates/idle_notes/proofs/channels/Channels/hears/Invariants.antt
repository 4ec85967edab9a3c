use Rattle.std.proofs.Common.{◌≡◌, map, drop}
use Rattle.idle_notes.specs.Channels.{data_of, hears}
use Rattle.idle_notes.proofs.channels.Channels.hears.Given as goal

abbrev pub invariant-loop-member : goal.invariant-loop-member
invariant-loop-member l = hears l.name (map data_of l.member-items) ≡ hears l.name (map data_of (drop l.member-index l.member-items))
