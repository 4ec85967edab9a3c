-- The lines of a song, and those of them that are hidden from a client that has chosen tags (MPD protocol
-- reference, The music database; Connection settings: `tagtypes`).
use Rattle.std.specs.Prelude.{◌≡◌, ℕ, Bool, ◌&&◌, not, List, [], ◌∷◌, ◌++◌, Option, Some, None, codes, decimal}
use Rattle.std.specs.List.{filter, flat_map, list_any}
use Rattle.std.specs.Str.{bytes_eq}
use Rattle.mpd_text.specs.Answers.Answer.{pair_line}
use Rattle.mpd_text.specs.Songs.Song.{SongData, TagData}
use Rattle.mpd_text.specs.Songs.Tags.{tag_names, tag_text}
use Rattle.mpd_text.specs.declared.songs.song.TagName.{TagName}
use Rattle.song_db.specs.Lines.{duration_text, first_tag, millis, seconds_rounded}
use Rattle.known_tags.specs.Lines.{song_lines_with}
use Rattle.known_tags.specs.Sets.{has}

-- a line of an answer: a name and a text
pub record Line : Type 0 where
  pub name : List ℕ
  pub text : List ℕ

-- the line of a name and a text
abbrev pub line : List ℕ → List ℕ → Line
line name text = record { name = name; text = text }

-- lines as they are sent, one after the other
abbrev pub text_of : List Line → List ℕ
text_of lines = flat_map (λ (it : Line). pair_line it.name it.text) lines

-- a line is hidden from a client where its name is that of a tag that is not in the client's set
abbrev pub is_hidden : List TagName → Line → Bool
is_hidden set it = list_any (λ tag. bytes_eq (tag_text tag) it.name && not (has tag set)) tag_names

-- the lines that are not
abbrev pub shown : List TagName → List Line → List Line
shown set lines = filter (λ it. not (is_hidden set it)) lines

-- two texts are these lines: the second all of them, the first those that are not hidden
abbrev pub LessTags : List TagName → List Line → List ℕ → List ℕ → Type 0
LessTags set lines less whole = (whole ≡ text_of lines) × (less ≡ text_of (shown set lines))

-- the line of a tag, where a song has it
abbrev pub lines_for : TagName → Option TagData → List Line
lines_for name None = []
lines_for name (Some tag) = line (tag_text name) tag.text ∷ []

-- the lines of a song with all its tags
abbrev pub lines_of_song : ℕ → SongData → List Line
lines_of_song rate song =
    line (codes "file") song.uri
    ∷ (flat_map (λ name. lines_for name (first_tag name song.tags)) tag_names
    ++ (line (codes "Time") (decimal (seconds_rounded (millis rate song.frames)))
    ∷ line (codes "duration") (duration_text (millis rate song.frames))
    ∷ []))

-- a set of tags, as clients have them: in the order of answers, each once
abbrev pub IsTagSet : List TagName → Type 0
IsTagSet set = set ≡ filter (λ name. has name set) tag_names

-- what is shown of a song with a set of tags are its lines, less those of the tags that are not in the set
abbrev pub SongsShowLess : Type 0
SongsShowLess =
    (set : List TagName)
    → IsTagSet set
    → (rate : ℕ) (song : SongData)
    → LessTags set (lines_of_song rate song) (song_lines_with set rate song) (song_lines_with tag_names rate song)
