use Rattle.mpd_session.proofs.Cuts.{in_any_cut}
use Rattle.mpd_session.proofs.laws.any_cut_of_bytes.Goals as goal

pub returns : goal.returns
returns c = in_any_cut c.any_cut.ensures
