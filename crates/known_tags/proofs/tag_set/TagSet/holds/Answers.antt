use Rattle.std.proofs.Common.{◌∙◌, ap, sym}
use Rattle.known_tags.specs.Sets.{has}
use Rattle.known_tags.proofs.TenTags.{has-members}
use Rattle.known_tags.proofs.tag_set.TagSet.holds.Goals as goal

pub returns : goal.returns
returns c = c.is_among.ensures ∙ sym (has-members c.self.inside.bits c.args.name) ∙ ap (λ set. has c.args.name set) c.self.view_is
