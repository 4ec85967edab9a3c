use Rattle.std.proofs.Common.{rules}
use Rattle.std.proofs.lemmas.Fn.{always_returns_same}
use Rattle.std.proofs.lemmas.List.{take_rest}
use Rattle.mpd_text.specs.Songs.Song.{SongData}
use Rattle.song_search.specs.Folders.{lies_in}
use Rattle.song_search.proofs.Walk.{passed_is}
use Rattle.song_search.proofs.folders.after_folder.Goals as goal

pub returns : goal.returns
returns c =
    passed_is c.args.folder.now c.args.songs.now _ c.partition_point-end.result (take_rest c.args.songs.now c.partition_point-end.result) c.partition_point-end.ensures.bound
    (c.partition_point-end.ensures.partitioned (λ (s : SongData). lies_in c.args.folder.now s.uri) (always_returns_same _ _ _ (λ a r f called. search rules)) c.requires)
