use Rattle.song_queue.proofs.Ids.{pasts_keep_queues}
use Rattle.song_queue.proofs.laws.pasts_keep_queues.Goals as goal

pub returns : goal.returns
returns c = pasts_keep_queues
