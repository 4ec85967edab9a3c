-- Stored playlists: what is saved and loaded again is the same songs, and each command leaves all lists but
-- its own as they were (MPD protocol reference, Stored playlists; that 16,384 entries find room in a list is
-- this profile's).
use Rattle.std.specs.Prelude.{◌≡◌, ◌≢◌, ℕ, ◌+◌, ◌≤◌, true, List, [], ◌∷◌, ◌++◌, All, Option, Some, None, length, map, codes}
use Rattle.std.specs.List.{flat_map}
use Rattle.mpd_text.specs.Answers.Answer.{pair_line}
use Rattle.mpd_text.specs.Songs.Song.{SongData}
use Rattle.command_arguments.specs.declared.forms.Uri.{Uri}
use Rattle.song_db.specs.Library.{song_of}
use Rattle.song_queue.specs.State.{queue_of}
use Rattle.filters.specs.Expressions.{Expression}
use Rattle.filters.specs.declared.matching.Case.TheVariants.{Ignored}
use Rattle.command_arguments.specs.declared.criteria.Criteria.TheVariants.{Meeting}
use Rattle.selections.specs.declared.asked.Selection.{Selection}
use Rattle.shelf.specs.Maps.{Maps, is_list_name}
use Rattle.shelf.specs.declared.kinds.StickerKind.{StickerKind}
use Rattle.shelf.specs.declared.kinds.StickerKind.TheVariants.{Song as OfSong, Playlist as OfPlaylist}
use Rattle.player_state.specs.declared.state.Library.{Library}
use Rattle.player_state.specs.declared.state.Part.{Part}
use Rattle.transitions.specs.declared.asked.Asked.{Asked}
use Rattle.mpd_command.specs.declared.database.DatabaseCommand.{DatabaseCommand}
use Rattle.mpd_command.specs.declared.database.DatabaseCommand.TheVariants.{SearchAddPl}
use Rattle.mpd_command.specs.declared.playlists.PlaylistCommand.{PlaylistCommand}
use Rattle.mpd_command.specs.declared.playlists.PlaylistCommand.TheVariants.{ListPlaylist, Load, PlaylistAdd, PlaylistClear, PlaylistDelete, PlaylistMove, Rename, Rm, Save}
use Rattle.library_commands.specs.Database.{question_of as question_of_library, result_of as result_of_library}
use Rattle.library_commands.specs.Playlists.{question_of, result_of}
use Rattle.library_laws.specs.Added.{HasRoom, IsAdded, songs_in}
use Rattle.library_laws.specs.Found.{AreSelected}
use Rattle.library_laws.specs.Shelves.{Gives, IsMissing, Leaves, ShelfCommand, Shows}

-- a command of stored playlists, of a client in this partition, over this library
abbrev pub asks : Asked → Part → Library → PlaylistCommand → ShelfCommand
asks asked part library it = record { question = question_of it; result = λ read. result_of asked part library read it }

-- the same of a command of the library
abbrev pub asks_library : Asked → Part → Library → DatabaseCommand → ShelfCommand
asks_library asked part library it =
    record { question = question_of_library it; result = λ read. result_of_library asked part library read it }

-- the URIs of the queue's songs, in their order
abbrev pub uris_in : Part → List (List ℕ)
uris_in part = map (λ (song : SongData). song.uri) (songs_in part)

-- URIs, a line each
abbrev pub lines_of : List (List ℕ) → List ℕ
lines_of uris = flat_map (pair_line (codes "file")) uris

-- the list of a name is these URIs now, or none; each other list and all stickers are as they were
pub record SetsList (name : List ℕ) (uris : Option (List (List ℕ))) (maps after : Maps) : Type 0 where
  pub here : after.lists name ≡ uris
  pub others : (other : List ℕ) → other ≢ name → after.lists other ≡ maps.lists other
  pub stickers : (kind : StickerKind) (target sticker : List ℕ)
      → after.stickers kind target sticker ≡ maps.stickers kind target sticker

-- a list has gone whole from a name to another, with its stickers; all else is as it was
pub record MovesList (name new : List ℕ) (maps after : Maps) : Type 0 where
  pub here : after.lists new ≡ maps.lists name
  pub gone : after.lists name ≡ None
  pub others : (other : List ℕ) → other ≢ name → other ≢ new → after.lists other ≡ maps.lists other
  pub stickers : (sticker : List ℕ) → after.stickers OfPlaylist new sticker ≡ maps.stickers OfPlaylist name sticker
  pub none_left : (sticker : List ℕ) → after.stickers OfPlaylist name sticker ≡ None
  pub other_stickers : (other sticker : List ℕ) → other ≢ name → other ≢ new
      → after.stickers OfPlaylist other sticker ≡ maps.stickers OfPlaylist other sticker
  pub songs : (uri sticker : List ℕ) → after.stickers OfSong uri sticker ≡ maps.stickers OfSong uri sticker

-- a list is gone, with its stickers; all else is as it was
pub record DropsList (name : List ℕ) (maps after : Maps) : Type 0 where
  pub gone : after.lists name ≡ None
  pub others : (other : List ℕ) → other ≢ name → after.lists other ≡ maps.lists other
  pub none_left : (sticker : List ℕ) → after.stickers OfPlaylist name sticker ≡ None
  pub other_stickers : (other sticker : List ℕ) → other ≢ name
      → after.stickers OfPlaylist other sticker ≡ maps.stickers OfPlaylist other sticker
  pub songs : (uri sticker : List ℕ) → after.stickers OfSong uri sticker ≡ maps.stickers OfSong uri sticker

-- `save` makes a list of the queue's songs, in their order, under a name that none has
abbrev pub QueuesAreSaved : Type 0
QueuesAreSaved =
    (asked : Asked) (part : Part) (library : Library) (maps : Maps) (name : List ℕ)
    → is_list_name name ≡ true
    → maps.lists name ≡ None
    → Leaves maps (asks asked part library (Save name)) (SetsList name (Some (uris_in part)) maps)

-- `listplaylist` shows a list: its URIs, in their order; of a list that is not there it is refused
pub record ListsAreShown : Type 0 where
  pub shown : (asked : Asked) (part : Part) (library : Library) (maps : Maps) (name : List ℕ) (uris : List (List ℕ))
      → is_list_name name ≡ true
      → maps.lists name ≡ Some uris
      → Gives maps (asks asked part library (ListPlaylist name)) (Shows asked (lines_of uris))
  pub missing : (asked : Asked) (part : Part) (library : Library) (maps : Maps) (name : List ℕ)
      → is_list_name name ≡ true
      → maps.lists name ≡ None
      → Gives maps (asks asked part library (ListPlaylist name)) (IsMissing asked (codes "no such playlist"))

-- the library has each of these songs under its URI
abbrev pub AreThere : Library → List SongData → Type 0
AreThere library songs = All (λ (song : SongData). song_of library.songs song.uri ≡ Some song) songs

-- what is saved is shown, by whatever client, and loaded again it is the same songs: they join the queue at its
-- end, in their order
pub record SavedAreLoaded : Type 0 where
  pub shown : (asked : Asked) (part : Part) (library : Library) (maps : Maps) (name : List ℕ)
      → is_list_name name ≡ true
      → maps.lists name ≡ None
      → Leaves maps (asks asked part library (Save name)) (λ after.
      (client : Asked) (other : Part) (now : Library)
      → Gives after (asks client other now (ListPlaylist name)) (Shows client (lines_of (uris_in part))))
  pub loaded : (asked : Asked) (part : Part) (library : Library) (maps : Maps) (name : List ℕ)
      → is_list_name name ≡ true
      → maps.lists name ≡ None
      → Leaves maps (asks asked part library (Save name)) (λ after.
      (client : Asked) (other : Part) (now : Library)
      → AreThere now (songs_in part)
      → HasRoom other (length (songs_in part))
      → Gives after (asks client other now (Load name None None))
      (IsAdded client other (length (queue_of other.queue)) (songs_in part)))

-- `rename` moves a list whole
abbrev pub ListsAreRenamed : Type 0
ListsAreRenamed =
    (asked : Asked) (part : Part) (library : Library) (maps : Maps) (name new : List ℕ) (uris : List (List ℕ))
    → is_list_name name ≡ true
    → is_list_name new ≡ true
    → maps.lists name ≡ Some uris
    → maps.lists new ≡ None
    → Leaves maps (asks asked part library (Rename name new)) (MovesList name new maps)

-- `rm` takes a list away
abbrev pub ListsAreRemoved : Type 0
ListsAreRemoved =
    (asked : Asked) (part : Part) (library : Library) (maps : Maps) (name : List ℕ) (uris : List (List ℕ))
    → is_list_name name ≡ true
    → maps.lists name ≡ Some uris
    → Leaves maps (asks asked part library (Rm name)) (DropsList name maps)

-- `playlistclear` leaves a list without songs
abbrev pub ListsAreCleared : Type 0
ListsAreCleared =
    (asked : Asked) (part : Part) (library : Library) (maps : Maps) (name : List ℕ) (uris : List (List ℕ))
    → is_list_name name ≡ true
    → maps.lists name ≡ Some uris
    → Leaves maps (asks asked part library (PlaylistClear name)) (SetsList name (Some []) maps)

-- the URIs of a list, and none of one that is not there
abbrev pub uris_or_none : Option (List (List ℕ)) → List (List ℕ)
uris_or_none None = []
uris_or_none (Some uris) = uris

-- `playlistadd` puts a song at the end of a list, which it makes where it is not there
abbrev pub SongsAreAddedToLists : Type 0
SongsAreAddedToLists =
    (asked : Asked) (part : Part) (library : Library) (maps : Maps) (name : List ℕ) (uri : Uri) (song : SongData)
    → is_list_name name ≡ true
    → song_of library.songs uri.0 ≡ Some song
    → length (uris_or_none (maps.lists name)) + 1 ≤ 16384
    → Leaves maps (asks asked part library (PlaylistAdd name uri))
    (SetsList name (Some (uris_or_none (maps.lists name) ++ song.uri ∷ [])) maps)

-- `playlistdelete` takes the entry at a position out of a list: those before it and those behind it stay, in their
-- order
abbrev pub EntriesAreTakenOut : Type 0
EntriesAreTakenOut =
    (asked : Asked) (part : Part) (library : Library) (maps : Maps) (name uri : List ℕ) (front back : List (List ℕ))
    → is_list_name name ≡ true
    → maps.lists name ≡ Some (front ++ uri ∷ back)
    → Leaves maps (asks asked part library (PlaylistDelete name (length front)))
    (SetsList name (Some (front ++ back)) maps)

-- `playlistmove` puts the entry at a position at another among the others, which stay in their order
abbrev pub EntriesAreMoved : Type 0
EntriesAreMoved =
    (asked : Asked) (part : Part) (library : Library) (maps : Maps)
    → (name uri : List ℕ) (front back before behind : List (List ℕ))
    → is_list_name name ≡ true
    → maps.lists name ≡ Some (front ++ uri ∷ back)
    → front ++ back ≡ before ++ behind
    → Leaves maps (asks asked part library (PlaylistMove name (length front) (length before)))
    (SetsList name (Some (before ++ uri ∷ behind)) maps)

-- `searchaddpl` puts the songs that `search` shows at the end of a list, in their order; the list is made where it
-- is not there
abbrev pub FoundSongsJoinLists : Type 0
FoundSongsJoinLists =
    (asked : Asked) (part : Part) (library : Library) (maps : Maps) (name : List ℕ)
    → (selection : Selection) (e : Expression) (song : SongData) (songs : List SongData)
    → is_list_name name ≡ true
    → selection.criteria ≡ Meeting e
    → AreSelected library Ignored e selection (song ∷ songs)
    → length (uris_or_none (maps.lists name)) + length (song ∷ songs) ≤ 16384
    → Leaves maps (asks_library asked part library (SearchAddPl name selection))
    (SetsList name (Some (uris_or_none (maps.lists name) ++ map (λ (it : SongData). it.uri) (song ∷ songs))) maps)
