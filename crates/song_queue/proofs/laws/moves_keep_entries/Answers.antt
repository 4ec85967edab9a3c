use Rattle.song_queue.proofs.Moves.{moves_keep_entries}
use Rattle.song_queue.proofs.laws.moves_keep_entries.Goals as goal

pub returns : goal.returns
returns c = moves_keep_entries
