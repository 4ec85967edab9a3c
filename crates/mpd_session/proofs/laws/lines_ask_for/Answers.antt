use Rattle.mpd_session.proofs.Parts.{asks}
use Rattle.mpd_session.proofs.laws.lines_ask_for.Goals as goal

pub returns : goal.returns
returns c = asks c.parts_are_taken.ensures
