use Rattle.song_queue.proofs.Runs.{after_edit}
use Rattle.song_queue.proofs.laws.edits_follow_past.Goals as goal

pub returns : goal.returns
returns c = λ max_len max_version max_id past edit above some. after_edit max_len max_version max_id above past edit some
