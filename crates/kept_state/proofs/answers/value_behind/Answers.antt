use Rattle.kept_state.proofs.Behind.{strip_behind}
use Rattle.kept_state.proofs.answers.value_behind.Goals as goal

pub returns : goal.returns
returns c = strip_behind c.args.key.now c.args.line.now c.strip_prefix.result c.strip_prefix.ensures.cases
