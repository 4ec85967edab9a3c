use Rattle.std.proofs.Common.{refl}
use Rattle.known_tags.specs.Bits.{members}
use Rattle.known_tags.proofs.tag_set.TagSet.base.Goals as goal

pub returns : goal.returns
unfolding members
returns c = refl
