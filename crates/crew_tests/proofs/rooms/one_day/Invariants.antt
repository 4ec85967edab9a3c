use Rattle.house.specs.Blanks.{names_in}
use Rattle.crew_tests.proofs.rooms.one_day.Given as goal

abbrev pub ghosts-run_day : goal.ghosts-run_day
ghosts-run_day g a = record { names = names_in a.blanks }
