-- The lines that show a song and the tags of a set (MPD protocol reference, The music database; Connection
-- settings: `tagtypes`).
use Rattle.std.specs.Prelude.{ℕ, List, [], ◌++◌, codes, decimal, if◌then◌else◌}
use Rattle.std.specs.List.{flat_map}
use Rattle.mpd_text.specs.Answers.Answer.{pair_line}
use Rattle.mpd_text.specs.Songs.Song.{SongData, TagData}
use Rattle.mpd_text.specs.Songs.Tags.{tag_text}
use Rattle.mpd_text.specs.declared.songs.song.TagName.{TagName}
use Rattle.known_tags.specs.Bits.{is_set}
use Rattle.song_db.specs.Lines.{tag_line, millis, seconds_rounded, duration_text}

-- the tags that a song has of a set, in their order
abbrev pub tag_lines_of : List TagName → List TagData → List ℕ
tag_lines_of set tags = flat_map (λ name. tag_line name tags) set

-- the lines of a song, with the tags of a set alone
abbrev pub song_lines_with : List TagName → ℕ → SongData → List ℕ
song_lines_with set rate song =
    pair_line (codes "file") song.uri
    ++ (tag_lines_of set song.tags
    ++ (pair_line (codes "Time") (decimal (seconds_rounded (millis rate song.frames)))
    ++ pair_line (codes "duration") (duration_text (millis rate song.frames))))

-- the line that names a tag
abbrev pub tagtype_line : TagName → List ℕ
tagtype_line name = pair_line (codes "tagtype") (tag_text name)

-- a line for each tag of a set
abbrev pub tagtype_lines : List TagName → List ℕ
tagtype_lines set = flat_map tagtype_line set

-- the same of one tag, where its bit is set
abbrev pub tag_line_where : ℕ → List TagData → TagName → List ℕ
tag_line_where bits tags name = if is_set bits name then tag_line name tags else []

abbrev pub tagtype_line_where : ℕ → TagName → List ℕ
tagtype_line_where bits name = if is_set bits name then tagtype_line name else []
