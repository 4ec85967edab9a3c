use Rattle.mpd_session.specs.Answers.{Answers}
use Rattle.mpd_session.proofs.Outputs.{joined}
use Rattle.mpd_session.proofs.laws.outputs_join.Goals as goal

pub returns : goal.returns
returns g c = λ asker. joined (Answers g.S.Shelf.standing g.S.Shelf.failed asker)
