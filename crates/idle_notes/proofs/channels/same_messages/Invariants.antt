use Rattle.std.proofs.Common.{◌≡◌, take}
use Rattle.idle_notes.proofs.channels.same_messages.Given as goal

abbrev pub invariant-loop-message : goal.invariant-loop-message
invariant-loop-message l = l.copies.items ≡ take l.message-index l.messages
