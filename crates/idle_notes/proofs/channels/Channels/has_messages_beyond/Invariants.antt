use Rattle.std.proofs.Common.{◌≡◌, ◌==◌, not, length, map, drop}
use Rattle.std.specs.List.{filter, list_any}
use Rattle.idle_notes.specs.Channels.{MemberData, data_of, messages_of}
use Rattle.idle_notes.proofs.channels.Channels.has_messages_beyond.Given as goal

abbrev pub invariant-loop-member : goal.invariant-loop-member
invariant-loop-member l =
    list_any (λ client. not (list_any (λ known. known == client) l.clients)) (map (λ (m : MemberData). m.client) (filter (λ (m : MemberData). not (length (messages_of m.client l.self) == 0)) (map data_of l.member-items)))
    ≡ list_any (λ client. not (list_any (λ known. known == client) l.clients)) (map (λ (m : MemberData). m.client) (filter (λ (m : MemberData). not (length (messages_of m.client l.self) == 0)) (map data_of (drop l.member-index l.member-items))))
