use Rattle.song_queue.proofs.Parity.{parity_tells_changes}
use Rattle.song_queue.proofs.laws.parity_tells_changes.Goals as goal

pub returns : goal.returns
returns c = parity_tells_changes
