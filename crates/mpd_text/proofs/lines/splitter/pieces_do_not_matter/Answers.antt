use Rattle.mpd_text.proofs.CutLaws.{pieces_split}
use Rattle.mpd_text.proofs.lines.splitter.pieces_do_not_matter.Goals as goal

pub returns : goal.returns
returns c = pieces_split
