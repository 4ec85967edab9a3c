use Rattle.mpd_text.proofs.QuotedWords.{is_quoted, spelled, few_read, many_refused}
use Rattle.mpd_text.proofs.lines.quoted.words_read_quotes.Goals as goal

pub returns : goal.returns
returns c = record { word = is_quoted; spelled = spelled; read = few_read; refused = many_refused }
