use Rattle.mpd_text.proofs.ExactWords.{exact_found, exact_fault, exact_only}
use Rattle.mpd_text.proofs.lines.quoting.words.Goals as goal

pub returns-clause-found : goal.returns-clause-found
returns-clause-found c = exact_found c.args.line.now c.read_words.result c.read_words.ensures

pub returns-clause-fault : goal.returns-clause-fault
returns-clause-fault c = exact_fault c.args.line.now c.read_words.result c.read_words.ensures

pub returns-clause-only : goal.returns-clause-only
returns-clause-only c = exact_only c.args.line.now c.read_words.result c.read_words.ensures
