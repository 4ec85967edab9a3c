use Rattle.mpd_text.proofs.ScanGrammar.{is_read}
use Rattle.mpd_text.proofs.lines.quoting.some_reading.Goals as goal

pub returns : goal.returns
returns c = is_read
