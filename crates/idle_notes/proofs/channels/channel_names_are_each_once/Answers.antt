use Rattle.idle_notes.proofs.Heard.{names-rise, names-heard}
use Rattle.idle_notes.proofs.channels.channel_names_are_each_once.Goals as goal

pub returns-clause-order : goal.returns-clause-order
returns-clause-order c = names-rise

pub returns-clause-names : goal.returns-clause-names
returns-clause-names c = names-heard
