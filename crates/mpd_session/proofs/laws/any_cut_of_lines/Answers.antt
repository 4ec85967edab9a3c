use Rattle.mpd_session.proofs.Gathers.{gather_append}
use Rattle.mpd_session.proofs.laws.any_cut_of_lines.Goals as goal

pub returns : goal.returns
returns c = gather_append
