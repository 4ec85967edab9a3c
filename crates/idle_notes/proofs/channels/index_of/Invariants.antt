use Rattle.std.proofs.Common.{◌≡◌, ◌+◌, ◌==◌, drop}
use Rattle.std.specs.List.{position_or_len}
use Rattle.idle_notes.proofs.channels.index_of.Given as goal

abbrev pub invariant-loop-member : goal.invariant-loop-member
invariant-loop-member l =
    record {
      index : l.index ≡ l.member-index;
      first : position_or_len (λ member. member.client == l.client) l.members ≡ l.member-index + position_or_len (λ member. member.client == l.client) (drop l.member-index l.members);
    }
