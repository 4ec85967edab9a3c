use Rattle.library_laws.proofs.StoredLists.{lists_are_cleared, lists_are_removed, lists_are_renamed}
use Rattle.library_laws.proofs.playlists.lists_are_kept_whole.Goals as goal

pub returns-clause-renamed : goal.returns-clause-renamed
returns-clause-renamed c = lists_are_renamed

pub returns-clause-removed : goal.returns-clause-removed
returns-clause-removed c = lists_are_removed

pub returns-clause-cleared : goal.returns-clause-cleared
returns-clause-cleared c = lists_are_cleared
