-- The lines that show a song, and rates (MPD protocol reference, The music database; the range of rates and
-- how lengths are rounded are this profile's).
use Rattle.std.specs.Prelude.{ℕ, ◌+◌, ◌*◌, ◌/◌, ◌==◌, ◌&&◌, nat_le, List, [], ◌∷◌, ◌++◌, codes, decimal, Option, Some, None, if◌then◌else◌}
use Rattle.std.specs.List.{flat_map}
use Rattle.mpd_text.specs.Answers.Answer.{pair_line, thousandths_text}
use Rattle.mpd_text.specs.Songs.Song.{SongData, TagData}
use Rattle.mpd_text.specs.Songs.Tags.{tag_names, tag_number, tag_text}
use Rattle.mpd_text.specs.declared.songs.song.TagName.{TagName}

-- a rate is 8,000 to 192,000 frames a second
abbrev pub rate_of : ℕ → Option ℕ
rate_of frames = if nat_le 8000 frames && nat_le frames 192000 then Some frames else None

-- how long so many frames are, in whole thousandths of a second
abbrev pub millis : ℕ → ℕ → ℕ
millis rate frames = frames * 1000 / rate

-- in whole seconds, a half up
abbrev pub seconds_rounded : ℕ → ℕ
seconds_rounded millis = (millis + 500) / 1000

-- in seconds with three decimals
abbrev pub duration_text : ℕ → List ℕ
duration_text millis = thousandths_text millis

-- the first tag of a name, if there is one
abbrev pub first_tag : TagName → List TagData → Option TagData
first_tag name [] = None
first_tag name (tag ∷ tags) = if tag_number tag.name == tag_number name then Some tag else first_tag name tags

abbrev pub line_for : TagName → Option TagData → List ℕ
line_for name None = []
line_for name (Some tag) = pair_line (tag_text name) tag.text

-- the line of that tag
abbrev pub tag_line : TagName → List TagData → List ℕ
tag_line name tags = line_for name (first_tag name tags)

-- the tags that a song has, in their order
abbrev pub tag_lines : List TagData → List ℕ
tag_lines tags = flat_map (λ name. tag_line name tags) tag_names

-- the lines of a song's texts, which are the same at each rate: its URI and its tags
abbrev pub text_lines : SongData → List ℕ
text_lines song = pair_line (codes "file") song.uri ++ tag_lines song.tags

-- the lines of a length
abbrev pub length_lines : ℕ → ℕ → List ℕ
length_lines rate frames =
    pair_line (codes "Time") (decimal (seconds_rounded (millis rate frames))) ++ pair_line (codes "duration") (duration_text (millis rate frames))

-- the lines of a song: those of its texts, and then those of its length (`texts_and_length_are_the_song`)
abbrev pub song_lines : ℕ → SongData → List ℕ
song_lines rate song =
    pair_line (codes "file") song.uri
    ++ (tag_lines song.tags
    ++ (pair_line (codes "Time") (decimal (seconds_rounded (millis rate song.frames)))
    ++ pair_line (codes "duration") (duration_text (millis rate song.frames))))
