use Rattle.shelf.proofs.LineLemmas.{whole_after, lines_after}
use Rattle.shelf.proofs.uri_list.UriList.push.Goals as goal

pub invariant_of-self : goal.invariant_of-self
invariant_of-self c = whole_after c.push_line.result _ _ c.args.uri.now c.self.invariant c.requires c.push_line.ensures.ok c.push_line.ensures.err

pub returns-clause-ok : goal.returns-clause-ok
returns-clause-ok c = rw (← c.self.view_is) (lines_after c.push_line.result _ _ c.args.uri.now c.self.invariant c.requires c.push_line.ensures.ok)
