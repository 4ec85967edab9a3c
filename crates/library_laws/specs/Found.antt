-- What `find`, `search`, `count`, `findadd` and `searchadd` agree on: the songs that meet a filter (MPD protocol
-- reference, The music database; how seconds are cut is this profile's).
use Rattle.std.specs.Prelude.{◌≡◌, ℕ, ◌+◌, ◌*◌, ◌/◌, nat_lt, List, [], ◌∷◌, ◌++◌, Option, Some, None, length, slice_get, if◌then◌else◌, codes, decimal}
use Rattle.std.specs.List.{flat_map, sum_by}
use Rattle.mpd_text.specs.Answers.Answer.{pair_line}
use Rattle.mpd_text.specs.Songs.Song.{SongData}
use Rattle.known_tags.specs.KnownTags.{read_of}
use Rattle.known_tags.specs.Lines.{song_lines_with}
use Rattle.filters.specs.Expressions.{Expression}
use Rattle.filters.specs.Truth.{Holds}
use Rattle.filters.specs.declared.matching.Case.{Case}
use Rattle.filters.specs.declared.matching.Case.TheVariants.{Heeded, Ignored}
use Rattle.song_groups.specs.Order.{IsStablyOrdered}
use Rattle.command_arguments.specs.declared.forms.Position.{Position}
use Rattle.command_arguments.specs.declared.forms.Window.{Window}
use Rattle.command_arguments.specs.declared.criteria.Criteria.{Criteria}
use Rattle.command_arguments.specs.declared.criteria.Criteria.TheVariants.{Meeting, Refused}
use Rattle.selections.specs.declared.asked.Counting.{Counting}
use Rattle.selections.specs.declared.asked.Selection.{Selection}
use Rattle.selections.specs.declared.sort_by.SortBy.{SortBy}
use Rattle.player_state.specs.declared.state.Library.{Library}
use Rattle.player_state.specs.declared.state.Part.{Part}
use Rattle.transitions.specs.CommandResults.{shows}
use Rattle.transitions.specs.declared.asked.Asked.{Asked}
use Rattle.transitions.specs.declared.shelf_calls.Read.{Read}
use Rattle.mpd_command.specs.declared.database.DatabaseCommand.{DatabaseCommand}
use Rattle.mpd_command.specs.declared.database.DatabaseCommand.TheVariants.{Count, Find, FindAdd, Search, SearchAdd}
use Rattle.library_commands.specs.Database.{result_of}
use Rattle.library_laws.specs.Added.{HasRoom, IsAdded, IsPosition}

-- songs are those of others of which this holds, in the order that these have
pub data Picks (Passes : SongData → Type 0) : List SongData → List SongData → Type 0 where
  none : Picks Passes [] []
  picked : {song : SongData} {songs rest : List SongData} → Passes song → Picks Passes songs rest
      → Picks Passes (song ∷ songs) (song ∷ rest)
  passed : {song : SongData} {songs rest : List SongData} → (Passes song → ⊥) → Picks Passes songs rest
      → Picks Passes (song ∷ songs) rest

-- what a filter asks of a song, where the filter can be read; without one each song is asked for
abbrev pub MeetsCriteria : Option Criteria → SongData → Type 0
MeetsCriteria None song = Unit {0}
MeetsCriteria (Some (Meeting e)) song = Holds Heeded e song
MeetsCriteria (Some (Refused text)) song = ⊥

abbrev pub CanBeRead : Option Criteria → Type 0
CanBeRead None = Unit {0}
CanBeRead (Some (Meeting e)) = Unit {0}
CanBeRead (Some (Refused text)) = ⊥

-- songs in the order that is asked for: of the library, or of a tag
abbrev pub AreInOrder : Option SortBy → List SongData → List SongData → Type 0
AreInOrder None met songs = songs ≡ met
AreInOrder (Some by) met songs = IsStablyOrdered (read_of by.tag) by.falling met songs

-- the song at each index of a window, up to its end; without a window all of them
abbrev pub IsWindow : Option Window → List SongData → List SongData → Type 0
IsWindow None songs shown = shown ≡ songs
IsWindow (Some window) songs shown =
    (index : ℕ)
    → slice_get shown index
    ≡ (if nat_lt (window.start + index) window.end then slice_get songs (window.start + index) else None)

-- the songs of a selection: those that meet the filter, in its order, as far as its window shows them
pub record AreSelected (library : Library) (case : Case) (e : Expression) (selection : Selection) (songs : List SongData) : Type 0 where
  pub met : List SongData
  pub ordered : List SongData
  pub meets : Picks (Holds case e) library.songs met
  pub order : AreInOrder selection.sort met ordered
  pub window : IsWindow selection.window ordered songs

-- the commands that show them and that add them to the queue: `find` heeds case, `search` does not
abbrev pub finding : Case → Selection → DatabaseCommand
finding Heeded selection = Find selection
finding Ignored selection = Search selection

abbrev pub adding : Case → Selection → Option Position → DatabaseCommand
adding Heeded selection position = FindAdd selection position
adding Ignored selection position = SearchAdd selection position

-- the lines of songs, as the client that asks is shown them
abbrev pub lines_of : Asked → Library → List SongData → List ℕ
lines_of asked library songs = flat_map (song_lines_with asked.tags library.rate) songs

-- `find` and `search` show the songs of a selection, and `findadd` and `searchadd` add just these, in this order
pub record FindsAndAddsTheSame : Type 0 where
  pub shown : (asked : Asked) (part : Part) (library : Library) (read : Read)
      → (case : Case) (selection : Selection) (e : Expression) (songs : List SongData)
      → selection.criteria ≡ Meeting e
      → AreSelected library case e selection songs
      → result_of asked part library read (finding case selection) ≡ shows asked (lines_of asked library songs)
  pub added : (asked : Asked) (part : Part) (library : Library) (read : Read)
      → (case : Case) (selection : Selection) (e : Expression) (songs : List SongData)
      → (named : Option Position) (position : ℕ)
      → selection.criteria ≡ Meeting e
      → AreSelected library case e selection songs
      → IsPosition part named position
      → HasRoom part (length songs)
      → IsAdded asked part position songs (result_of asked part library read (adding case selection named))

-- how long songs play together, in whole seconds: the durations that are shown of them, added and cut
abbrev pub seconds_of : ℕ → List SongData → ℕ
seconds_of rate songs = sum_by (λ (song : SongData). song.frames * 1000 / rate) songs / 1000

-- how many songs there are, and how long they play
abbrev pub count_lines : ℕ → List SongData → List ℕ
count_lines rate songs =
    pair_line (codes "songs") (decimal (length songs)) ++ pair_line (codes "playtime") (decimal (seconds_of rate songs))

-- `count` counts the songs that meet its filter, those that `find` shows, and how long they play
abbrev pub CountsTheFound : Type 0
CountsTheFound =
    (asked : Asked) (part : Part) (library : Library) (read : Read) (counting : Counting) (songs : List SongData)
    → counting.group ≡ None
    → CanBeRead counting.criteria
    → Picks (MeetsCriteria counting.criteria) library.songs songs
    → result_of asked part library read (Count counting) ≡ shows asked (count_lines library.rate songs)

-- of each library and each filter there are such songs
abbrev pub SongsArePicked : Type 0
SongsArePicked =
    (case : Case) (e : Expression) (songs : List SongData)
    → (met : List SongData) × Picks (Holds case e) songs met
