use Rattle.song_queue.proofs.Runs.{states_follow}
use Rattle.song_queue.proofs.laws.states_follow_pasts.Goals as goal

pub returns : goal.returns
returns c = states_follow
