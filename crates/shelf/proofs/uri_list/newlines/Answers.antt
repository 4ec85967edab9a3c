use Rattle.std.proofs.Common.{◌≡◌, ◌==◌, count_by, rules, ◌∙◌}
use Rattle.shelf.proofs.LineLemmas.{lines_counted}
use Rattle.shelf.proofs.uri_list.newlines.Goals as goal

pub returns : goal.returns
returns c =
    let counted : c.count.result ≡ count_by (λ b. b == 10) c.args.text.now = search rules in
    counted ∙ lines_counted c.args.text.now
