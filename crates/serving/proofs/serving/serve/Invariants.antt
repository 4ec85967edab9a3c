use Rattle.house.specs.Blanks.{names_in}
use Rattle.serving.proofs.serving.serve.Given as goal

abbrev pub ghosts-serve_with : goal.ghosts-serve_with
ghosts-serve_with g a = record { names = names_in a.blanks }
