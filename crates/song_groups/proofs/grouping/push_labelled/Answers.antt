use Rattle.std.proofs.Common.{rules}
use Rattle.std.proofs.lemmas.Slice.Zip.{zip_end}
use Rattle.song_groups.proofs.TupleLists.{lines_end}
use Rattle.song_groups.proofs.grouping.push_labelled.Goals as goal

pub returns : goal.returns
returns c =
    lines_end _ c.args.labels.now c.args.texts.now _ _
    (zip_end c.args.labels.now c.args.texts.now c.loop-label.yielded c.into_iter-label-iterator.result c.loop-label.label-iterator c.next.new.self c.next.result (search rules) (search rules) c.loop-label.yielded_by c.in-None.is c.next.ensures.steps)
    c.loop-label.invariant
