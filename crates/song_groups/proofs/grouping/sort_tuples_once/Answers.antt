use Rattle.std.proofs.lemmas.List.Filters.{dedup_is}
use Rattle.song_groups.proofs.TupleLists.{sorts_tuples}
use Rattle.song_groups.proofs.grouping.sort_tuples_once.Goals as goal

pub returns : goal.returns
returns c = rw (dedup_is _ _ _ c.dedup.ensures.filtered) (sorts_tuples _ _ c.sort_unstable.ensures.permutation c.sort_unstable.ensures.sorted)
