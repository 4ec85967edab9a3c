use Rattle.queue_laws.proofs.Edits.{add_id_tells_the_id, edits_keep_the_others, shuffles_take_numbers}
use Rattle.queue_laws.proofs.laws.edits_keep_the_others.Goals as goal

pub returns-clause-edits : goal.returns-clause-edits
returns-clause-edits c = edits_keep_the_others

pub returns-clause-told : goal.returns-clause-told
returns-clause-told c = add_id_tells_the_id

pub returns-clause-drawn : goal.returns-clause-drawn
returns-clause-drawn c = shuffles_take_numbers
