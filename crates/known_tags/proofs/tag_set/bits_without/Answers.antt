use Rattle.std.proofs.Common.{◌-◌, ◌∙◌, ap, bit_and}
use Rattle.known_tags.specs.Bits.{members}
use Rattle.known_tags.proofs.TenTags.{members-left}
use Rattle.known_tags.proofs.tag_set.bits_without.Goals as goal

pub returns-clause-members : goal.returns-clause-members
returns-clause-members c =
    ap (λ bit. members (bit_and c.args.bits (1023 - bit))) c.bit.ensures.bit ∙ members-left c.args.name c.args.bits c.requires
