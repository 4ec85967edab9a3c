use Rattle.std.proofs.Common.{◌∙◌, ap, arith}
use Rattle.known_tags.specs.Bits.{members}
use Rattle.known_tags.specs.Sets.{enabled}
use Rattle.known_tags.proofs.NamedTags.{enabled-step, enabled-done}
use Rattle.known_tags.proofs.tag_set.TagSet.enable.Goals as goal

pub loop-tag-preserved : goal.loop-tag-preserved
loop-tag-preserved c =
    record {
      small = c.bits_with_known-bits.ensures.small;
      rest =
          enabled-step c.args.named.now c.loop-tag.tag-index _ (members c.loop-tag.bits) (members c.bits_with_known-bits.result) _ (omega arith)
          c.bits_with_known-bits.ensures.members c.loop-tag.invariant.rest;
    }

pub returns : goal.returns
returns c =
    enabled-done c.args.named.now c.loop-tag.tag-index c.loop-tag.bits _ (omega arith) c.loop-tag.invariant.rest
    ∙ ap (λ set. enabled c.args.named.now set) c.self.view_is
