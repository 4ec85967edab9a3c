use Rattle.std.proofs.Common.{◌∙◌, sym, ap, filter, not}
use Rattle.known_tags.specs.Bits.{members}
use Rattle.known_tags.specs.Sets.{is_base}
use Rattle.known_tags.proofs.NamedTags.{none-leaves}
use Rattle.known_tags.proofs.tag_set.bits_without_known.Goals as goal

pub returns-in-Some-clause-members : goal.returns-in-Some-clause-members
returns-in-Some-clause-members c =
    c.bits_without.ensures.members ∙ ap (λ base. filter (λ name. not (is_base name base)) (members c.args.bits)) c.in-Some.ensures

pub returns-in-None-clause-members : goal.returns-in-None-clause-members
returns-in-None-clause-members c = none-leaves c.args.tag (members c.args.bits) (sym c.base.ensures ∙ c.in-None.is)
