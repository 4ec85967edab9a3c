use Rattle.song_groups.proofs.Orders.{one_order}
use Rattle.song_groups.proofs.sorting.one_order.Goals as goal

pub returns : goal.returns
returns c = one_order
