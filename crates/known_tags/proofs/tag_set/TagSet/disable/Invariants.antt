use Rattle.std.proofs.Common.{◌≡◌, ◌<◌, drop}
use Rattle.known_tags.specs.Bits.{members}
use Rattle.known_tags.specs.Sets.{disabled}
use Rattle.known_tags.proofs.tag_set.TagSet.disable.Given as goal

-- what the names that are left make of the bits is what all make of those at the start
abbrev pub invariant-loop-tag : goal.invariant-loop-tag
invariant-loop-tag l =
    record {
      small : l.bits < 1024;
      rest : disabled (drop l.tag-index l.named) (members l.bits) ≡ disabled l.named (members l.initial.bits);
    }
