use Rattle.shelf.proofs.LineLemmas.{lines_are_single}
use Rattle.shelf.proofs.uri_list.UriList.len.Goals as goal

pub returns-clause-single : goal.returns-clause-single
returns-clause-single c = rw (← c.self.view_is) (lines_are_single _)
