use Rattle.song_groups.proofs.GroupLists.{counts_each_once}
use Rattle.song_groups.proofs.counting.each_song_counts_once.Goals as goal

pub returns : goal.returns
returns c = counts_each_once
