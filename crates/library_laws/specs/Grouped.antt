-- What `count` shows of groups: for each text of a tag the found songs that have it (MPD protocol reference, The
-- music database: `count` with `group`; that the empty text counts too is this profile's).
use Rattle.std.specs.Prelude.{◌≡◌, ◌↔◌, ℕ, List, ◌++◌, All, Option, Some, map}
use Rattle.std.specs.List.{Contains, flat_map}
use Rattle.std.specs.List.Sorted.{IsStrictlySortedBy}
use Rattle.mpd_text.specs.Answers.Answer.{pair_line}
use Rattle.mpd_text.specs.Songs.Song.{SongData}
use Rattle.mpd_text.specs.Texts.{by_bytes}
use Rattle.mpd_text.specs.declared.songs.song.TagName.{TagName}
use Rattle.known_tags.specs.KnownTags.{read_of, text_of}
use Rattle.known_tags.specs.declared.known_tag.KnownTag.{KnownTag}
use Rattle.song_groups.specs.Columns.{text_in}
use Rattle.selections.specs.declared.asked.Counting.{Counting}
use Rattle.player_state.specs.declared.state.Library.{Library}
use Rattle.player_state.specs.declared.state.Part.{Part}
use Rattle.transitions.specs.CommandResults.{shows}
use Rattle.transitions.specs.declared.asked.Asked.{Asked}
use Rattle.transitions.specs.declared.shelf_calls.Read.{Read}
use Rattle.mpd_command.specs.declared.database.DatabaseCommand.TheVariants.{Count}
use Rattle.library_commands.specs.Database.{result_of}
use Rattle.library_laws.specs.Found.{CanBeRead, Picks, MeetsCriteria, count_lines}
use Rattle.library_laws.specs.Listed.{SomeHas}

-- a text and songs
pub record Group : Type 0 where
  pub text : List ℕ
  pub songs : List SongData

-- groups have the texts that songs have of a tag, the empty one too, in byte order and so each once, and each
-- has just the songs with its text
pub record AreGroupsOf (tag : Option TagName) (songs : List SongData) (groups : List Group) : Type 0 where
  pub rising : IsStrictlySortedBy by_bytes (map (λ (group : Group). group.text) groups)
  pub whole : (text : List ℕ) → Contains (map (λ (group : Group). group.text) groups) text ↔ SomeHas tag songs text
  pub each : All (λ (group : Group). Picks (λ song. text_in tag song ≡ group.text) songs group.songs) groups

-- the lines of a group, whose text stands under the name of the tag
abbrev pub lines_of_group : ℕ → List ℕ → Group → List ℕ
lines_of_group rate label group = pair_line label group.text ++ count_lines rate group.songs

-- `count` by a tag counts the found songs of each text that one of them has
abbrev pub CountsTheFoundByText : Type 0
CountsTheFoundByText =
    (asked : Asked) (part : Part) (library : Library) (read : Read) (counting : Counting)
    → (tag : KnownTag) (songs : List SongData)
    → counting.group ≡ Some tag
    → CanBeRead counting.criteria
    → Picks (MeetsCriteria counting.criteria) library.songs songs
    → (groups : List Group) × AreGroupsOf (read_of tag) songs groups
    × (result_of asked part library read (Count counting)
    ≡ shows asked (flat_map (lines_of_group library.rate (text_of tag)) groups))
