use Rattle.mpd_text.proofs.GrammarScan.{spelled_is_read, faulty_is_refused}
use Rattle.mpd_text.proofs.lines.quoting.one_reading.Goals as goal

pub returns : goal.returns
returns c = record { words = spelled_is_read; fault = faulty_is_refused }
