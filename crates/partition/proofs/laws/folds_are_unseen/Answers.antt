use Rattle.partition.proofs.Folds.{folds_are_unseen}
use Rattle.partition.proofs.laws.folds_are_unseen.Goals as goal

pub returns : goal.returns
returns c = λ limit setup library history_steps above told. folds_are_unseen limit setup library history_steps above told
