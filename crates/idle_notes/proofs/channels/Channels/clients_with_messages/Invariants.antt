use Rattle.std.proofs.Common.{◌≡◌, ◌==◌, ◌++◌, not, length, map, drop}
use Rattle.std.specs.List.{filter}
use Rattle.idle_notes.specs.Channels.{MemberData, data_of, messages_of}
use Rattle.idle_notes.proofs.channels.Channels.clients_with_messages.Given as goal

abbrev pub invariant-loop-member : goal.invariant-loop-member
invariant-loop-member l =
    l.clients.items ++ map (λ (m : MemberData). m.client) (filter (λ (m : MemberData). not (length (messages_of m.client l.self) == 0)) (map data_of (drop l.member-index l.member-items)))
    ≡ map (λ (m : MemberData). m.client) (filter (λ (m : MemberData). not (length (messages_of m.client l.self) == 0)) (map data_of l.member-items))
