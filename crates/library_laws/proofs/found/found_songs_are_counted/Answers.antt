use Rattle.library_laws.proofs.FoundGroups.{found_songs_are_counted_by_text}
use Rattle.library_laws.proofs.FoundSongs.{found_songs_are_counted}
use Rattle.library_laws.proofs.found.found_songs_are_counted.Goals as goal

pub returns-clause-together : goal.returns-clause-together
returns-clause-together c = found_songs_are_counted

pub returns-clause-by_text : goal.returns-clause-by_text
returns-clause-by_text c = found_songs_are_counted_by_text
