use Rattle.library_laws.proofs.FoundSongs.{find_and_add_the_same}
use Rattle.library_laws.proofs.PickedSongs.{songs_are_picked}
use Rattle.library_laws.proofs.found.find_and_add_the_same.Goals as goal

pub returns-clause-same : goal.returns-clause-same
returns-clause-same c = find_and_add_the_same

pub returns-clause-there : goal.returns-clause-there
returns-clause-there c = songs_are_picked
