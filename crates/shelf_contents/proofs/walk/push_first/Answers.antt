use Rattle.std.proofs.Common.{◌-◌, ◌++◌, take, rules, ap, ◌∙◌}
use Rattle.shelf.specs.Lines.{lines_of}
use Rattle.shelf_contents.proofs.Walks.{first_more}
use Rattle.shelf_contents.proofs.walk.push_first.Goals as goal

pub loop-left-preserved : goal.loop-left-preserved
loop-left-preserved c =
    let rest = take (c.loop-left.left - 1) (lines_of c.in-Some.more.now) in
    let step = first_more c.loop-left.list (lines_of c.loop-left.rest.now) (lines_of c.in-Some.more.now) c.in-Some.uri.now c.loop-left.left c.in-Some.ensures.lines c.loop-left-test.true in
    (search rules, ap (λ front. front ++ rest) c.in_ok-push.ensures.ok ∙ step ∙ c.loop-left.invariant.1)
