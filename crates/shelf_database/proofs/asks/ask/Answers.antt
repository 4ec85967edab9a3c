use Rattle.shelf_database.proofs.AskLemmas.{told}
use Rattle.shelf_database.proofs.asks.ask.Goals as goal

pub returns-in-Err-clause-refused : goal.returns-in-Err-clause-refused
returns-in-Err-clause-refused g c = λ clean. (c.in-Err.error, c.in-Err.ensures.err clean, told c.fault.result c.in-Err.error c.fault.ensures.named c.fault.ensures.memory)
