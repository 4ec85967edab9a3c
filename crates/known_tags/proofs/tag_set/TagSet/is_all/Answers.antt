use Rattle.std.proofs.Common.{◌∙◌, sym, ap}
use Rattle.known_tags.specs.Sets.{is_all}
use Rattle.known_tags.proofs.TenTags.{all-set, is_all-whole}
use Rattle.known_tags.proofs.tag_set.TagSet.is_all.Goals as goal

pub returns-clause-value : goal.returns-clause-value
returns-clause-value c = all-set c.self.inside.bits c.self.invariant ∙ ap (λ set. is_all set) c.self.view_is

pub returns-clause-all : goal.returns-clause-all
returns-clause-all c =
    let same = all-set c.self.inside.bits c.self.invariant ∙ ap (λ set. is_all set) c.self.view_is in
    ((λ h. (is_all-whole c.args.self).0 (sym same ∙ h)), (λ h. same ∙ (is_all-whole c.args.self).1 h))
