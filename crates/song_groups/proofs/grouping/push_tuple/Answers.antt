use Rattle.std.proofs.Common.{◌∙◌, ◌++◌, ap, List, ℕ}
use Rattle.std.proofs.lemmas.Result.{on_ok_weaker}
use Rattle.song_groups.proofs.TupleLists.{changed}
use Rattle.song_groups.proofs.grouping.push_tuple.Goals as goal

pub returns : goal.returns
returns c =
    on_ok_weaker c.push_labelled.result (λ e. e ∙ ap (λ (lines : List ℕ). c.args.answer.now ++ lines)
    (changed c.args.labels.now c.args.before.now c.args.tuple.now c.texts_from.result.now c.texts_from-2.result.now c.unchanged-start.result c.unchanged-start.ensures c.texts_from.ensures c.texts_from-2.ensures))
    c.push_labelled.ensures
