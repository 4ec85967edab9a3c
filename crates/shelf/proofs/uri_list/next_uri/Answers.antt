use Rattle.shelf.proofs.LineLemmas.{next_lines, next_single}
use Rattle.shelf.proofs.uri_list.next_uri.Goals as goal

pub returns-clause-lines : goal.returns-clause-lines
returns-clause-lines c = next_lines c.args.rest.now c.split_once.result c.split_once.ensures.cases

pub returns-clause-single : goal.returns-clause-single
returns-clause-single c = next_single c.args.rest.now c.split_once.result c.split_once.ensures.cases
