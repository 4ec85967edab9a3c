use Rattle.song_queue.proofs.Patches.{patch-changed}
use Rattle.song_queue.proofs.laws.patches_give_present.Goals as goal

pub returns : goal.returns
returns c = patch-changed
