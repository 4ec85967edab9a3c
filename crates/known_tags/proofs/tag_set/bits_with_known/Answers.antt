use Rattle.std.proofs.Common.{◌∙◌, sym}
use Rattle.known_tags.specs.Bits.{members}
use Rattle.known_tags.proofs.NamedTags.{one-joins, none-known-joins}
use Rattle.known_tags.proofs.tag_set.bits_with_known.Goals as goal

pub returns-in-Some-clause-members : goal.returns-in-Some-clause-members
returns-in-Some-clause-members c =
    c.bits_with.ensures.members ∙ one-joins c.args.tag c.in-Some.name (members c.args.bits) (sym c.base.ensures ∙ c.in-Some.is)

pub returns-in-None-clause-members : goal.returns-in-None-clause-members
returns-in-None-clause-members c = none-known-joins c.args.tag c.args.bits (sym c.base.ensures ∙ c.in-None.is)
