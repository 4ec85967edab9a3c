use Rattle.std.proofs.Common.{rules}
use Rattle.known_tags.proofs.TenTags.{same-bits}
use Rattle.known_tags.proofs.tag_set.TagSetPartialEq.eq.Goals as goal

pub returns : goal.returns
returns c = same-bits _ _ _ c.args.self.now c.args.other.now c.eq.ensures (search rules) (search rules) (search rules) (search rules)
