use Rattle.std.proofs.Common.{rules}
use Rattle.std.proofs.lemmas.Slice.Zip.{zip_end}
use Rattle.song_groups.proofs.TupleLists.{all_shared}
use Rattle.song_groups.proofs.grouping.shared.Goals as goal

pub returns : goal.returns
returns c =
    all_shared _ c.loop-a.shared c.args.before.now c.args.tuple.now
    (zip_end c.args.before.now c.args.tuple.now c.loop-a.yielded c.into_iter-a-iterator.result c.loop-a.a-iterator c.next.new.self c.next.result (search rules) (search rules) c.loop-a.yielded_by c.in-None.is c.next.ensures.steps)
    c.loop-a.invariant.counted c.loop-a.invariant.same
