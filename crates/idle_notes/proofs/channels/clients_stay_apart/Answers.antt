use Rattle.idle_notes.proofs.Apart.{differ-subscribed, differ-unsubscribed, differ-sent, differ-emptied, differ-left}
use Rattle.idle_notes.proofs.channels.clients_stay_apart.Goals as goal

pub returns-clause-subscribed : goal.returns-clause-subscribed
returns-clause-subscribed c = differ-subscribed

pub returns-clause-unsubscribed : goal.returns-clause-unsubscribed
returns-clause-unsubscribed c = differ-unsubscribed

pub returns-clause-sent : goal.returns-clause-sent
returns-clause-sent c = differ-sent

pub returns-clause-emptied : goal.returns-clause-emptied
returns-clause-emptied c = differ-emptied

pub returns-clause-left : goal.returns-clause-left
returns-clause-left c = differ-left
