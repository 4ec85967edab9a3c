use Rattle.mpd_text.proofs.CutLaws.{split_append}
use Rattle.mpd_text.proofs.lines.splitter.any_cut.Goals as goal

pub returns : goal.returns
returns c = split_append
