use Rattle.notice_laws.proofs.Clients as clients
use Rattle.notice_laws.proofs.laws.messages_are_told_of.Goals as goal

pub returns : goal.returns
returns c = clients.messages_are_told
