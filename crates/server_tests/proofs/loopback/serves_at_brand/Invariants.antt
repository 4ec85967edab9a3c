use Rattle.house.specs.Blanks.{names_in}
use Rattle.server_tests.proofs.loopback.serves_at_brand.Given as goal

abbrev pub ghosts-serves : goal.ghosts-serves
ghosts-serves g a = record { names = names_in a.blanks }
