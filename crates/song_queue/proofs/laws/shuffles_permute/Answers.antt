use Rattle.song_queue.proofs.Shuffles.{shuffles_permute}
use Rattle.song_queue.proofs.laws.shuffles_permute.Goals as goal

pub returns : goal.returns
returns c = shuffles_permute
