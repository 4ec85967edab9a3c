use Rattle.song_groups.proofs.Shared.{stands}
use Rattle.song_groups.proofs.grouping.stands_where_it_differs.Goals as goal

pub returns : goal.returns
returns c = stands
