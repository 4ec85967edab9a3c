use Rattle.std.proofs.Common.{◌≡◌, ◌++◌, drop}
use Rattle.std.specs.List.{flat_map}
use Rattle.status_commands.specs.Messages.{message_lines}
use Rattle.status_commands.proofs.messages.push_messages.Given as goal

abbrev pub invariant-loop-message : goal.invariant-loop-message
invariant-loop-message l =
    l.lines ++ flat_map message_lines (drop l.message-index l.messages) ≡ l.initial.lines ++ flat_map message_lines l.messages
