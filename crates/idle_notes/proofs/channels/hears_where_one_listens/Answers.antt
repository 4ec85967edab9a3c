use Rattle.idle_notes.proofs.Apart.{hears-is}
use Rattle.idle_notes.proofs.channels.hears_where_one_listens.Goals as goal

pub returns : goal.returns
returns c = hears-is
