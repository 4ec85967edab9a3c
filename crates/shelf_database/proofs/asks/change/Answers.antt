use Rattle.shelf_database.proofs.AskLemmas.{told}
use Rattle.shelf_database.proofs.asks.change.Goals as goal

pub returns-in-Err-clause-ran : goal.returns-in-Err-clause-ran
returns-in-Err-clause-ran g c = λ clean. (c.in-Err.error, c.in-Err.ensures.runs clean, told c.fault.result c.in-Err.error c.fault.ensures.named c.fault.ensures.memory)
