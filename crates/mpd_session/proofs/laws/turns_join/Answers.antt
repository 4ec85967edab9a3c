use Rattle.mpd_session.specs.Answers.{Answers}
use Rattle.mpd_session.proofs.Cuts.{turns_both}
use Rattle.mpd_session.proofs.laws.turns_join.Goals as goal

pub returns : goal.returns
returns g c = λ asker. turns_both (Answers g.S.Shelf.standing g.S.Shelf.failed asker) c.any_cut.ensures
