use Rattle.std.proofs.Common.{string_bytes, arith}
use Rattle.std.proofs.lemmas.Grind.{common_steps}
use Rattle.mpd_text.proofs.QuotedWords.{one_read}
use Rattle.mpd_text.proofs.lines.quoted.quote.Goals as goal

pub returns-clause-alone : goal.returns-clause-alone
returns-clause-alone c = one_read c.args.text.now (string_bytes c.push.new.self) (grind (arith, common_steps))
