use Rattle.library_laws.proofs.Delivery.{messages_are_read, messages_are_read_once, messages_are_sent}
use Rattle.library_laws.proofs.messages.messages_are_read_once.Goals as goal

pub returns-clause-sent : goal.returns-clause-sent
returns-clause-sent c = messages_are_sent

pub returns-clause-read : goal.returns-clause-read
returns-clause-read c = messages_are_read

pub returns-clause-once : goal.returns-clause-once
returns-clause-once c = messages_are_read_once
