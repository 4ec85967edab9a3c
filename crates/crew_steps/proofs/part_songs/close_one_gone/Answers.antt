use Rattle.crew_steps.proofs.Meant.{no_song}
use Rattle.crew_steps.proofs.part_songs.close_one_gone.Goals as goal

pub returns-clause-meant : goal.returns-clause-meant
returns-clause-meant g c = λ rate meant. (no_song rate, no_song rate)
