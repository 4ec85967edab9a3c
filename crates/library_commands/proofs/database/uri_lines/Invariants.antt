use Rattle.std.proofs.Common.{◌≡◌, ◌++◌, drop, codes}
use Rattle.std.specs.List.{flat_map}
use Rattle.mpd_text.specs.Answers.Answer.{pair_line}
use Rattle.mpd_text.specs.Songs.Song.{SongData}
use Rattle.library_commands.proofs.database.uri_lines.Given as goal

abbrev pub invariant-loop-song : goal.invariant-loop-song
invariant-loop-song l =
    l.lines ++ flat_map (λ (song : SongData). pair_line (codes "file") song.uri) (drop l.song-index l.songs)
    ≡ flat_map (λ (song : SongData). pair_line (codes "file") song.uri) l.songs
