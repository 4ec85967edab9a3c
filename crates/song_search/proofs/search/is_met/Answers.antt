use Rattle.song_search.proofs.Truths.{is_meets}
use Rattle.song_search.proofs.search.is_met.Goals as goal

pub returns : goal.returns
returns c = is_meets _ _ _ _ c.in-Ok.ensures.truth
