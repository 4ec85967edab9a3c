use Rattle.std.proofs.Common.{◌∙◌, ap, arith}
use Rattle.known_tags.specs.Bits.{members}
use Rattle.known_tags.specs.Sets.{disabled}
use Rattle.known_tags.proofs.NamedTags.{disabled-step, disabled-done}
use Rattle.known_tags.proofs.tag_set.TagSet.disable.Goals as goal

pub loop-tag-preserved : goal.loop-tag-preserved
loop-tag-preserved c =
    record {
      small = c.bits_without_known-bits.ensures.small;
      rest =
          disabled-step c.args.named.now c.loop-tag.tag-index _ (members c.loop-tag.bits) (members c.bits_without_known-bits.result) _ (omega arith)
          c.bits_without_known-bits.ensures.members c.loop-tag.invariant.rest;
    }

pub returns : goal.returns
returns c =
    disabled-done c.args.named.now c.loop-tag.tag-index (members c.loop-tag.bits) _ (omega arith) c.loop-tag.invariant.rest
    ∙ ap (λ set. disabled c.args.named.now set) c.self.view_is
