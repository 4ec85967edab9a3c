use Rattle.std.proofs.Common.{◌≡◌, drop, fold}
use Rattle.idle_notes.specs.Sets.{none, with_one}
use Rattle.command_arguments.proofs.readers.set_of.Given as goal

abbrev pub invariant-loop-subsystem : goal.invariant-loop-subsystem
invariant-loop-subsystem l = fold with_one l.set (drop l.subsystem-index l.named) ≡ fold with_one none l.named
