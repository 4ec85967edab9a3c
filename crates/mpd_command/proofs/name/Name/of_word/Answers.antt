use Rattle.std.proofs.Common.{ap}
use Rattle.std.specs.Option.{option_map}
use Rattle.mpd_command.specs.Names.{name_of}
use Rattle.mpd_command.specs.declared.name.Name.{Name}
use Rattle.mpd_command.proofs.name.Name.of_word.Goals as goal
use Prim.Native.Nat.{ℕ}

abbrev named : ℕ → Name
named index = record { index = index }

pub returns-in-Some : goal.returns-in-Some
unfolding name_of
returns-in-Some c = ap (option_map named) c.in-Some.ensures

pub returns-in-None : goal.returns-in-None
unfolding name_of
returns-in-None c = ap (option_map named) c.in-None.ensures
