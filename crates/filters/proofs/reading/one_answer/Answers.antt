use Rattle.filters.proofs.Exact.{has_one_answer}
use Rattle.filters.proofs.reading.one_answer.Goals as goal

pub returns : goal.returns
returns c = has_one_answer
