-- What clients of the base profile are shown: all tags of each song, the texts of one tag, and no time in
-- whole seconds (MPD protocol reference, Connection settings, The music database and Querying MPD's status;
-- which forms are the base profile's is this program's choice).
use Rattle.std.specs.Prelude.{◌≡◌, ℕ, Bool, false, List, [], ◌∷◌, Some, None}
use Rattle.std.specs.List.{flat_map}
use Rattle.mpd_text.specs.Answers.Answer.{pair_line}
use Rattle.mpd_text.specs.Songs.Song.{SongData}
use Rattle.mpd_text.specs.Songs.Tags.{tag_names, tag_text}
use Rattle.mpd_text.specs.declared.songs.song.TagName.{TagName}
use Rattle.song_db.specs.Lines.{song_lines}
use Rattle.known_tags.specs.KnownTags.{base_of}
use Rattle.known_tags.specs.Lines.{song_lines_with}
use Rattle.known_tags.specs.declared.known_tag.KnownTag.{KnownTag}
use Rattle.filters.specs.Expressions.{Expression}
use Rattle.song_search.specs.Answers.{listed}
use Rattle.player_state.specs.declared.state.Client.{Client}
use Rattle.player_state.specs.declared.state.Library.{Library}
use Rattle.player_state.specs.declared.state.Part.{Part}
use Rattle.transitions.specs.CommandResults.{shows}
use Rattle.transitions.specs.Transitions.{TransitionData, transition_by}
use Rattle.transitions.specs.declared.asked.Asked.{Asked}
use Rattle.transitions.specs.declared.shelf_calls.Read.{Read}
use Rattle.mpd_command.specs.declared.command.Command.{Command}
use Rattle.mpd_command.specs.declared.command.Command.TheVariants as command
use Rattle.mpd_command.specs.declared.status.StatusCommand.TheVariants as status
use Rattle.library_commands.specs.Database.{list_texts}
use Rattle.command_laws.specs.Shown.{Shown, ShowsWorld, text_of as status_text}
use Rattle.command_laws.specs.Base.{IsBase}
use Rattle.command_laws.specs.ChosenTags.{tags_next}
use Rattle.command_laws.specs.HiddenTags.{text_of}
use Rattle.command_laws.specs.Results.{AllKnown, result_of}
use Rattle.command_laws.specs.ShownSongs.{Lines, Showing, showing_of}

-- a client that is shown all tags is shown all after a command of the base profile
abbrev pub BaseKeepsAllTags : Type 0
BaseKeepsAllTags =
    (asked : Asked) (client : Client) (it : Command)
    → IsBase it
    → asked.tags ≡ tag_names
    → tags_next asked client it ≡ tag_names

-- and then a song is shown to it with all its tags
abbrev pub BaseShowsWholeSongs : Type 0
BaseShowsWholeSongs =
    (asked : Asked)
    → asked.tags ≡ tag_names
    → (rate : ℕ) (song : SongData) → song_lines_with asked.tags rate song ≡ song_lines rate song

-- all lines are shown, where lines of songs are shown
abbrev pub IsShownWhole : Asked → Showing → TransitionData → Type 0
IsShownWhole asked (Lines lines) result = result ≡ transition_by (shows asked (text_of lines))
IsShownWhole asked _ result = Unit {0}

-- and by each command
abbrev pub BaseShowsAllLines : Type 0
BaseShowsAllLines =
    (every : AllKnown) (asked : Asked) (part : Part) (library : Library) (read : Read) (it : Command)
    → asked.tags ≡ tag_names
    → IsShownWhole asked (showing_of part library read it) (result_of every asked part library read it)

-- what a `status` of the base profile shows is what the player is, and has no line `time`
abbrev pub BaseStatusHasNoTime : Type 0
BaseStatusHasNoTime =
    (every : AllKnown) (asked : Asked) (part : Part) (library : Library) (read : Read) (everyday : Bool)
    → IsBase (command.Status (status.Status everyday))
    → (shown : Shown) × (shown.time ≡ None) × ShowsWorld false part library shown
    × (result_of every asked part library read (command.Status (status.Status everyday))
    ≡ transition_by (shows asked (status_text shown)))

-- a line for each text of a tag, under its name
abbrev pub lines_of_texts : TagName → List (List ℕ) → List ℕ
lines_of_texts name texts = flat_map (pair_line (tag_text name)) texts

-- `list` of one of the ten tags shows the texts that it has among the songs that meet a filter, in byte order
abbrev pub BaseListHasTheTexts : Type 0
BaseListHasTheTexts =
    (asked : Asked) (library : Library) (tag : KnownTag) (name : TagName) (e : Expression)
    → base_of tag ≡ Some name
    → list_texts asked library (tag ∷ []) e ≡ shows asked (lines_of_texts name (listed name e library.songs))
