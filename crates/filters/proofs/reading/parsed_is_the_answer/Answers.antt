use Rattle.filters.proofs.Exact.{parsed_answers}
use Rattle.filters.proofs.reading.parsed_is_the_answer.Goals as goal

pub returns : goal.returns
returns c = parsed_answers
