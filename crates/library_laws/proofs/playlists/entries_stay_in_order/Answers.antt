use Rattle.library_laws.proofs.ListEdits.{entries_are_moved, entries_are_taken_out, found_songs_join_lists}
use Rattle.library_laws.proofs.StoredLists.{songs_are_added_to_lists}
use Rattle.library_laws.proofs.playlists.entries_stay_in_order.Goals as goal

pub returns-clause-added : goal.returns-clause-added
returns-clause-added c = songs_are_added_to_lists

pub returns-clause-joined : goal.returns-clause-joined
returns-clause-joined c = found_songs_join_lists

pub returns-clause-taken : goal.returns-clause-taken
returns-clause-taken c = entries_are_taken_out

pub returns-clause-moved : goal.returns-clause-moved
returns-clause-moved c = entries_are_moved
