use Rattle.std.proofs.Common.{◌∙◌, sym, ap, arith}
use Rattle.idle_notes.specs.Channels.{emptied, messages_in, without_messages}
use Rattle.idle_notes.proofs.Members.{found-at, absent-at, changes-at, stays-at}
use Rattle.idle_notes.proofs.channels.take_messages.Goals as goal

pub returns-then-index-members-clause-messages : goal.returns-then-index-members-clause-messages
returns-then-index-members-clause-messages c =
    c.take_all.ensures.messages ∙ sym (ap messages_in (found-at c.args.client c.args.members.now c.index_of-index.result c.index-members-index.result c.index_of-index.ensures.index (omega arith)))

pub returns-then-index-members-clause-after : goal.returns-then-index-members-clause-after
unfolding emptied
returns-then-index-members-clause-after c =
    changes-at c.args.client without_messages c.args.members.now c.index_of-index.result c.take_all.new.member c.index-members-index.result c.index_of-index.ensures.index (omega arith) c.take_all.ensures.after

pub returns-clause-messages : goal.returns-clause-messages
returns-clause-messages c =
    c.new.ensures.items ∙ sym (ap messages_in (absent-at c.args.client c.args.members.now c.index_of-index.result c.index_of-index.ensures.index (omega arith)))

pub returns-clause-after : goal.returns-clause-after
unfolding emptied
returns-clause-after c =
    stays-at c.args.client without_messages c.args.members.now c.index_of-index.result c.index_of-index.ensures.index (omega arith)
