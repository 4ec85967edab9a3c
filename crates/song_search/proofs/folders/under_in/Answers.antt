use Rattle.std.proofs.Common.{rules, subst, sym}
use Rattle.std.proofs.lemmas.Fn.{always_returns_same}
use Rattle.std.proofs.lemmas.List.{take_rest}
use Rattle.mpd_text.specs.Songs.Song.{SongData}
use Rattle.song_db.specs.Library.{InByteOrder}
use Rattle.song_search.specs.Truth.{is_under}
use Rattle.song_search.proofs.Between.{before, under_is, under_order}
use Rattle.song_search.proofs.folders.under_in.Goals as goal

pub returns-clause-songs : goal.returns-clause-songs
returns-clause-songs c =
    under_is c.args.folder.now c.args.songs.now _ c.partition_point-start.result c.partition_point-end.result c.requires
    (take_rest c.args.songs.now c.partition_point-start.result) c.partition_point-start.ensures.bound c.partition_point-end.ensures.bound
    (c.partition_point-start.ensures.partitioned (before c.args.folder.now) (always_returns_same _ _ _ (λ a r f called. search rules)))
    (c.partition_point-end.ensures.partitioned (λ (s : SongData). is_under c.args.folder.now s.uri) (always_returns_same _ _ _ (λ a r f called. search rules)))

pub returns-clause-order : goal.returns-clause-order
returns-clause-order c = subst InByteOrder (sym (returns-clause-songs c)) (under_order c.args.folder.now c.args.songs.now c.requires)
