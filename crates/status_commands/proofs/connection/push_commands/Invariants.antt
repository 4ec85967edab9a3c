use Rattle.std.proofs.Common.{◌≡◌, ◌++◌, drop}
use Rattle.std.specs.List.{flat_map}
use Rattle.status_commands.specs.Connection.{command_line}
use Rattle.status_commands.proofs.connection.push_commands.Given as goal

abbrev pub invariant-loop-name : goal.invariant-loop-name
invariant-loop-name l =
    l.answer ++ flat_map (λ name. command_line l.set l.forbidden name.now) (drop l.name-index l.names)
    ≡ l.initial.answer ++ flat_map (λ name. command_line l.set l.forbidden name.now) l.names
