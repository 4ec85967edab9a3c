-- How many songs have each text of a tag, and how long they play (MPD protocol reference, The music database:
-- `count` with `group`; that the empty text counts too, and how seconds are cut, is this profile's).
use Rattle.std.specs.Prelude.{ℕ, ◌≡◌, List, ◌++◌, length, map, codes, decimal, Option}
use Rattle.std.specs.List.{flat_map, sum_by}
use Rattle.mpd_text.specs.Answers.Answer.{pair_line}
use Rattle.mpd_text.specs.Songs.Song.{SongData}
use Rattle.mpd_text.specs.declared.songs.song.TagName.{TagName}
use Rattle.song_search.specs.Answers.{playtime}
use Rattle.mpd_text.specs.Texts.{ascending}
use Rattle.song_search.specs.declared.search.Count.{Count}
use Rattle.song_groups.specs.Columns.{texts_in, with_text}
use Rattle.song_groups.specs.declared.counting.Group.{Group}

-- how many songs there are, and how many whole seconds they take
abbrev pub count_of : ℕ → List SongData → Count
count_of rate songs = record { songs = length songs; seconds = playtime rate songs }

-- a text, and the count of the songs that have it
abbrev pub group_of : Option TagName → ℕ → List SongData → List ℕ → List ℕ × Count
group_of column rate songs text = (text, count_of rate (with_text column text songs))

-- a group for each text of a column that some song has, in byte order
abbrev pub groups : Option TagName → ℕ → List SongData → List (List ℕ × Count)
groups column rate songs = map (group_of column rate songs) (ascending (texts_in column songs))

-- the songs that the groups count are as many as there are
abbrev pub CountsEachOnce : Option TagName → ℕ → List SongData → Type 0
CountsEachOnce column rate songs = sum_by (λ (group : List ℕ × Count). group.1.songs) (groups column rate songs) ≡ length songs

-- what groups are in memory
abbrev pub groups_now : List Group → List (List ℕ × Count)
groups_now groups = map (λ group. (group.text.now, group.count)) groups

-- the lines of a group
abbrev pub group_lines : List ℕ → List ℕ × Count → List ℕ
group_lines label group =
    pair_line label group.0
    ++ (pair_line (codes "songs") (decimal group.1.songs) ++ pair_line (codes "playtime") (decimal group.1.seconds))

-- the lines of groups, one after another
abbrev pub lines_of_groups : List ℕ → List (List ℕ × Count) → List ℕ
lines_of_groups label groups = flat_map (group_lines label) groups
