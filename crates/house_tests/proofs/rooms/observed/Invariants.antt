use Rattle.house.specs.Blanks.{names_in}
use Rattle.house_tests.proofs.rooms.observed.Given as goal

abbrev pub ghosts-evening : goal.ghosts-evening
ghosts-evening g a = record { names = names_in a.blanks }
