use Rattle.selections.proofs.DistinctTags.{distinct}
use Rattle.selections.proofs.groupings.no_tag_is_there_twice.Goals as goal

pub returns : goal.returns
returns c = distinct
