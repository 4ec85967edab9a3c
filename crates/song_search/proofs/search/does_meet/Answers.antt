use Rattle.song_search.proofs.Truths.{is_meets}
use Rattle.song_search.proofs.search.does_meet.Goals as goal

pub returns-in-Ok : goal.returns-in-Ok
returns-in-Ok c = is_meets _ _ _ _ c.in-Ok.ensures.truth
