-- What `list` shows: the texts that the found songs have, and no others (MPD protocol reference, The music
-- database: `list`; that the empty text is not listed is this profile's).
use Rattle.std.specs.Prelude.{◌≡◌, ◌≢◌, ◌↔◌, ℕ, List, [], ◌∷◌, Option}
use Rattle.std.specs.List.{Contains, flat_map}
use Rattle.std.specs.List.Sorted.{IsStrictlySortedBy}
use Rattle.mpd_text.specs.Answers.Answer.{pair_line}
use Rattle.mpd_text.specs.Songs.Song.{SongData}
use Rattle.mpd_text.specs.Texts.{by_bytes}
use Rattle.mpd_text.specs.declared.songs.song.TagName.{TagName}
use Rattle.known_tags.specs.KnownTags.{read_of, text_of}
use Rattle.known_tags.specs.declared.known_tag.KnownTag.{KnownTag}
use Rattle.song_groups.specs.Columns.{text_in}
use Rattle.selections.specs.declared.asked.Grouping.{Grouping}
use Rattle.player_state.specs.declared.state.Library.{Library}
use Rattle.player_state.specs.declared.state.Part.{Part}
use Rattle.transitions.specs.CommandResults.{shows}
use Rattle.transitions.specs.declared.asked.Asked.{Asked}
use Rattle.transitions.specs.declared.shelf_calls.Read.{Read}
use Rattle.mpd_command.specs.declared.database.DatabaseCommand.TheVariants.{List as ListTags}
use Rattle.library_commands.specs.Database.{result_of}
use Rattle.library_laws.specs.Found.{CanBeRead, Picks, MeetsCriteria}

-- some song has this text of a tag
abbrev pub SomeHas : Option TagName → List SongData → List ℕ → Type 0
SomeHas tag songs text = (song : SongData) × Contains songs song × (text_in tag song ≡ text)

-- the texts that songs have of a tag, but the empty one: in byte order, and so each once
pub record AreTextsOf (tag : Option TagName) (songs : List SongData) (texts : List (List ℕ)) : Type 0 where
  pub rising : IsStrictlySortedBy by_bytes texts
  pub whole : (text : List ℕ) → Contains texts text ↔ ((text ≢ []) × SomeHas tag songs text)

-- `list` of one tag has a line for each text that a found song has, and no other
abbrev pub ListsTheFound : Type 0
ListsTheFound =
    (asked : Asked) (part : Part) (library : Library) (read : Read) (grouping : Grouping)
    → (tag : KnownTag) (songs : List SongData)
    → grouping.tags ≡ tag ∷ []
    → CanBeRead grouping.criteria
    → Picks (MeetsCriteria grouping.criteria) library.songs songs
    → (texts : List (List ℕ)) × AreTextsOf (read_of tag) songs texts
    × (result_of asked part library read (ListTags grouping) ≡ shows asked (flat_map (pair_line (text_of tag)) texts))
