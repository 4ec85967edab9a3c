use Rattle.house.specs.Blanks.{names_in}
use Rattle.server_tests.proofs.days.observed_where.Given as goal

abbrev pub ghosts-day : goal.ghosts-day
ghosts-day g a = record { names = names_in a.blanks }
