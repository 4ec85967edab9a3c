use Rattle.std.proofs.Common.{◌≡◌, map, take}
use Rattle.std.specs.List.{flat_map}
use Rattle.idle_notes.specs.declared.channels.Member.{Member}
use Rattle.idle_notes.proofs.channels.Channels.channels.Given as goal

abbrev pub invariant-loop-member : goal.invariant-loop-member
invariant-loop-member l = map (λ name. name.now) l.names.items ≡ flat_map (λ (m : Member). m.names.items) (take l.member-index l.member-items)
