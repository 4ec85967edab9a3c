use Rattle.std.proofs.Common.{◌≡◌, ◌++◌, take}
use Rattle.std.specs.List.{flat_map}
use Rattle.idle_notes.specs.Names.{line_in}
use Rattle.idle_notes.proofs.sets.push_each.Given as goal

abbrev pub invariant-loop-subsystem : goal.invariant-loop-subsystem
invariant-loop-subsystem l = l.answer ≡ l.initial.answer ++ flat_map (line_in l.set) (take l.subsystem-index l.subsystems)
