use Rattle.song_search.proofs.Truths.{meets-Decides}
use Rattle.song_search.proofs.search.meets_is_truth.Goals as goal

pub returns : goal.returns
returns c = meets-Decides
