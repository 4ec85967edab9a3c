use Rattle.song_queue.proofs.Ids.{ids_are_distinct}
use Rattle.song_queue.proofs.laws.ids_are_distinct.Goals as goal

pub returns : goal.returns
returns c = ids_are_distinct
