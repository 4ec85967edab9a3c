use Rattle.std.proofs.Common.{◌∙◌, ap, bit_or}
use Rattle.std.proofs.lemmas.Nat.{or_lt}
use Rattle.known_tags.specs.Bits.{members}
use Rattle.known_tags.proofs.TenTags.{members-joined}
use Rattle.known_tags.proofs.tag_set.bits_with.Goals as goal

pub returns-clause-members : goal.returns-clause-members
returns-clause-members c =
    ap (λ bit. members (bit_or c.args.bits bit)) c.bit.ensures.bit ∙ members-joined c.args.name c.args.bits c.requires

pub returns-clause-small : goal.returns-clause-small
returns-clause-small c = or_lt 10 c.args.bits c.bit.result c.requires c.bit.ensures.small
