use Rattle.command_laws.proofs.BaseAnswers.{base_list_has_the_texts}
use Rattle.command_laws.proofs.answering.base_list_has_the_texts.Goals as goal

pub returns : goal.returns
returns c = base_list_has_the_texts
