-- What a scan prints (this profile's).
use Rattle.std.specs.Prelude.{ℕ, List}
use Rattle.std.specs.List.{flat_map}
use Rattle.mpd_text.specs.Answers.Answer.{pair_line}
use Rattle.mpd_text.specs.Songs.Song.{SongData}
use Rattle.song_db.specs.Lines.{song_lines}
use Rattle.library_scan.specs.Contents.{name_of}
use Rattle.library_scan.specs.declared.scanned.Refused.{Refused}

-- the lines of all songs, one song after the other
abbrev pub all_song_lines : ℕ → List SongData → List ℕ
all_song_lines rate songs = flat_map (λ song. song_lines rate song) songs

-- a file that is no song, with the name of its refusal
abbrev pub refused_line : Refused → List ℕ
refused_line file = pair_line file.uri (name_of file.refusal)

-- the lines of all files that are none
abbrev pub all_refused_lines : List Refused → List ℕ
all_refused_lines refused = flat_map refused_line refused
