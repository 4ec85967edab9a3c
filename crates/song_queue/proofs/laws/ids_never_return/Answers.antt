use Rattle.song_queue.proofs.Ids.{ids_never_return}
use Rattle.song_queue.proofs.laws.ids_never_return.Goals as goal

pub returns : goal.returns
returns c = ids_never_return
