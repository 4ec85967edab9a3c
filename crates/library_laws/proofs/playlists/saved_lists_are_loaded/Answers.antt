use Rattle.library_laws.proofs.StoredLists.{lists_are_shown, queues_are_saved, saved_are_loaded}
use Rattle.library_laws.proofs.playlists.saved_lists_are_loaded.Goals as goal

pub returns-clause-saved : goal.returns-clause-saved
returns-clause-saved c = queues_are_saved

pub returns-clause-shown : goal.returns-clause-shown
returns-clause-shown c = lists_are_shown

pub returns-clause-loaded : goal.returns-clause-loaded
returns-clause-loaded c = saved_are_loaded
