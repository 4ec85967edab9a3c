use Rattle.std.proofs.Common.{◌≡◌, ◌≤◌, ◌++◌, map, take, drop, count_by, vec_len}
use Rattle.std.specs.List.{All}
use Rattle.idle_notes.specs.declared.channels.Member.{Member}
use Rattle.idle_notes.specs.declared.channels.Message.{Message}
use Rattle.idle_notes.specs.Channels.{data_of, given, receives}
use Rattle.idle_notes.proofs.channels.deliver.Given as goal

abbrev pub invariant-loop-member : goal.invariant-loop-member
invariant-loop-member l =
    record {
      done : map data_of l.members ≡ map (given l.message) (take l.member-index (map data_of l.initial.members)) ++ drop l.member-index (map data_of l.initial.members);
      rest : drop l.member-index l.members ≡ drop l.member-index l.initial.members;
      same : All (λ (copy : Message). copy ≡ l.message) l.copies.items;
      enough : count_by (λ (member : Member). receives l.message.channel (data_of member)) (drop l.member-index l.initial.members) ≤ vec_len l.copies;
    }
