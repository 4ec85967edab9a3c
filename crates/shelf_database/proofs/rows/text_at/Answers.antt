use Rattle.shelf_database.proofs.FaultLemmas.{within}
use Rattle.shelf_database.proofs.rows.text_at.Goals as goal

pub returns-in-Err-clause-fault : goal.returns-in-Err-clause-fault
returns-in-Err-clause-fault c = λ is value text utf8.
    c.in-Err.ensures.kind (λ memory. let other = c.fault.ensures.memory memory in cc) (within c.args.row.now c.args.at value text) (value, text, utf8)
