use Rattle.std.proofs.Common.{arith}
use Rattle.idle_notes.specs.Channels.{unsubscribed, without_name}
use Rattle.idle_notes.proofs.Members.{changes-at, stays-at}
use Rattle.idle_notes.proofs.channels.remove_name.Goals as goal

pub returns-then-index-members : goal.returns-then-index-members
unfolding unsubscribed
returns-then-index-members c =
    changes-at c.args.client (without_name c.args.name.now) c.args.members.now c.index_of-index.result c.keep_other_names.new.member c.index-members-index.result c.index_of-index.ensures.index (omega arith) c.keep_other_names.ensures

pub returns-else-index-members : goal.returns-else-index-members
unfolding unsubscribed
returns-else-index-members c =
    stays-at c.args.client (without_name c.args.name.now) c.args.members.now c.index_of-index.result c.index_of-index.ensures.index (omega arith)
