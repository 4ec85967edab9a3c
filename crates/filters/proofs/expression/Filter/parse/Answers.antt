use Rattle.std.proofs.Common.{List, ℕ, subst}
use Rattle.filters.specs.Machine.{parsed, Reads}
use Rattle.filters.proofs.Exact.{read_answers, read_only, reads_or}
use Rattle.filters.proofs.expression.Filter.parse.Goals as goal

pub returns-clause-answer : goal.returns-clause-answer
returns-clause-answer c = read_answers c.args.vocabulary c.args.text.now c.read.result (subst (λ (t : List ℕ). Reads c.read.result (parsed c.args.vocabulary t)) c.as_bytes.ensures.value c.read.ensures)

pub returns-clause-only : goal.returns-clause-only
returns-clause-only c = read_only c.args.vocabulary c.args.text.now c.read.result (subst (λ (t : List ℕ). Reads c.read.result (parsed c.args.vocabulary t)) c.as_bytes.ensures.value c.read.ensures)

pub returns-clause-exact : goal.returns-clause-exact
returns-clause-exact c = reads_or c.read.result (parsed c.args.vocabulary c.args.text.now) (subst (λ (t : List ℕ). Reads c.read.result (parsed c.args.vocabulary t)) c.as_bytes.ensures.value c.read.ensures)
