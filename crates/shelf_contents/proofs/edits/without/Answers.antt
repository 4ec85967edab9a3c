use Rattle.std.proofs.Common.{◌≡◌, ◌++◌, take, drop, suc, ap, ◌∙◌}
use Rattle.shelf.specs.Lines.{lines_of}
use Rattle.shelf_contents.proofs.Walks.{one_more}
use Rattle.shelf_contents.proofs.edits.without.Goals as goal

pub returns : goal.returns
returns c =
    let list = c.args.list.now in
    let position = c.args.position in
    let front : c.push_first.new.list ≡ take position list = c.in_ok-push_first.ensures ∙ ap (λ uris. uris ++ take position (lines_of c.text.result.now)) c.new-rest.ensures ∙ ap (take position) c.text.ensures.uris in
    let back : lines_of c.behind_first.result.now ≡ drop (suc position) list =
    c.behind_first.ensures ∙ ap (drop 1) (c.behind.ensures ∙ ap (drop position) c.text-2.ensures.uris) ∙ one_more list position in
    c.in_ok-push_all.ensures ∙ ap (λ uris. uris ++ lines_of c.behind_first.result.now) front ∙ ap (λ uris. take position list ++ uris) back
