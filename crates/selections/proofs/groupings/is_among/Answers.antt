use Rattle.std.proofs.Common.{◌∙◌}
use Rattle.selections.proofs.SameTags.{among}
use Rattle.selections.proofs.groupings.is_among.Goals as goal

pub returns : goal.returns
returns c = c.contains.ensures.value ∙ among c.args.tags.now c.args.tag
