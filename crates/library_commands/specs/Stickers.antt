-- The commands of stickers, and what each asks the shelf (MPD protocol reference, Stickers; that songs and
-- names are looked at before the shelf is asked is this profile's).
use Rattle.std.specs.Prelude.{ℕ, Bool, true, false, not, ◌&&◌, ◌||◌, List, [], Option, Some, None, is_some, if◌then◌else◌, Result}
use Rattle.std.specs.declared.alloc.AllocError.{AllocError}
use Rattle.std.specs.Str.{bytes_eq}
use Rattle.command_arguments.specs.declared.forms.Uri.{Uri}
use Rattle.shelf.specs.declared.faults.ShelfFault.TheVariants.{NoSuchList, NoSticker}
use Rattle.shelf.specs.declared.kinds.StickerKind.{StickerKind}
use Rattle.shelf.specs.declared.kinds.StickerKind.TheVariants.{Song as OfSong, Playlist as OfPlaylist}
use Rattle.shelf.specs.Maps.{is_list_name, is_sticker_name}
use Rattle.shelf_contents.specs.Found.{found_in_list, found_lines, found_list_lines}
use Rattle.shelf_contents.specs.Shown.{sticker_of, stickers_of}
use Rattle.mpd_command.specs.declared.sticker.Comparison.{Comparison}
use Rattle.mpd_command.specs.declared.sticker.StickerCommand.{StickerCommand}
use Rattle.mpd_command.specs.declared.sticker.Target.TheVariants.{Song, Playlist}
use Rattle.library_commands.specs.declared.playlist_stickers.Refusal.{Refusal}
use Rattle.library_commands.specs.declared.playlist_stickers.Refusal.TheVariants.{ListName, NoList, StickerName}
use Rattle.mpd_command.specs.declared.sticker.StickerCommand.TheVariants.{Get, Set, Delete, List as ListStickers, Find}
use Rattle.song_db.specs.Library.{song_of}
use Rattle.song_search.specs.Folders.{is_folder}
use Rattle.transitions.specs.CommandResults.{bad_name, no_such_song, shows, writes}
use Rattle.transitions.specs.Shelves.{Question, NoQuestion, AskSticker, AskStickers, AskFound}
use Rattle.transitions.specs.declared.asked.Asked.{Asked}
use Rattle.transitions.specs.declared.shelf_calls.Read.{Read}
use Rattle.transitions.specs.declared.shelf_calls.Read.TheVariants.{Value, Entries, Refused}
use Rattle.transitions.specs.declared.shelf_calls.ShelfWrite.TheVariants.{SetSticker, DeleteSticker, DeleteStickers}
use Rattle.player_state.specs.declared.state.Library.{Library}
use Rattle.transitions.specs.Transitions.{CommandResult, IsDecidedBy, TransitionData}
use Rattle.library_commands.specs.Playlists.{refused, misread, named, asks_stickers}

-- the URI is a song's of the library
abbrev pub is_song : Library → List ℕ → Bool
is_song library uri = is_some (song_of library.songs uri)

abbrev pub of_song : Asked → Library → List ℕ → CommandResult → CommandResult
of_song asked library uri command_result = if is_song library uri then command_result else no_such_song asked

abbrev pub named_sticker : Asked → List ℕ → CommandResult → CommandResult
named_sticker asked name command_result = if is_sticker_name name then command_result else bad_name asked name

abbrev pub show_value : Asked → Read → List ℕ → CommandResult
show_value asked (Value value) name = shows asked (sticker_of name value)
show_value asked (Refused fault) name = refused asked fault
show_value asked _ name = misread asked

abbrev pub set_value : Asked → Read → StickerKind → List ℕ → List ℕ → List ℕ → CommandResult
set_value asked (Value before) kind target name value = writes asked (SetSticker kind target name value (not (bytes_eq before value)))
set_value asked (Refused NoSticker) kind target name value = writes asked (SetSticker kind target name value true)
set_value asked (Refused fault) kind target name value = refused asked fault
set_value asked _ kind target name value = misread asked

abbrev pub delete_stickers : Asked → List ℕ → Option (List ℕ) → CommandResult
delete_stickers asked uri None = writes asked (DeleteStickers OfSong uri)
delete_stickers asked uri (Some name) = named_sticker asked name (writes asked (DeleteSticker OfSong uri name))

-- whether the shelf said that the stored playlist is not there
abbrev pub is_missing : Read → Bool
is_missing (Refused NoSuchList) = true
is_missing _ = false

-- what refuses a command of a stored playlist's sticker before the sticker is looked at: first the name of
-- the playlist, then the playlist that is not there, then the name of the sticker
abbrev pub first_refusal : Read → List ℕ → List ℕ → Option Refusal
first_refusal read list name =
    if not (is_list_name list) then Some ListName
    else (if is_missing read then Some NoList
    else (if not (is_sticker_name name) then Some StickerName else None))

abbrev pub refused_for : Asked → List ℕ → List ℕ → Refusal → CommandResult
refused_for asked list name ListName = bad_name asked list
refused_for asked list name NoList = refused asked NoSuchList
refused_for asked list name StickerName = bad_name asked name

abbrev pub unless_refused : Asked → List ℕ → List ℕ → Option Refusal → CommandResult → CommandResult
unless_refused asked list name None command_result = command_result
unless_refused asked list name (Some refusal) command_result = refused_for asked list name refusal

-- a command of a stored playlist's sticker
abbrev pub of_list : Asked → Read → List ℕ → List ℕ → CommandResult → CommandResult
of_list asked read list name command_result = unless_refused asked list name (first_refusal read list name) command_result

abbrev pub get_of_list : Asked → Read → List ℕ → List ℕ → CommandResult
get_of_list asked read list name = of_list asked read list name (show_value asked read name)

abbrev pub set_of_list : Asked → Read → List ℕ → List ℕ → List ℕ → CommandResult
set_of_list asked read list name value = of_list asked read list name (set_value asked read OfPlaylist list name value)

abbrev pub delete_of_list : Asked → Read → List ℕ → Option (List ℕ) → CommandResult
delete_of_list asked read list None = named asked list (writes asked (DeleteStickers OfPlaylist list))
delete_of_list asked read list (Some name) = of_list asked read list name (writes asked (DeleteSticker OfPlaylist list name))

-- of all stored playlists, those that have the sticker
abbrev pub show_lists : Asked → Read → List ℕ → Option Comparison → CommandResult
show_lists asked (Entries entries) name test = shows asked (found_list_lines name test entries)
show_lists asked (Refused fault) name test = refused asked fault
show_lists asked _ name test = misread asked

-- a stored playlist, if it has the sticker
abbrev pub show_list : Asked → Read → List ℕ → List ℕ → Option Comparison → CommandResult
show_list asked (Value value) list name test = shows asked (found_in_list list name test value)
show_list asked (Refused NoSticker) list name test = shows asked []
show_list asked (Refused fault) list name test = refused asked fault
show_list asked _ list name test = misread asked

-- an empty name is that of all stored playlists
abbrev pub find_lists : Asked → Read → List ℕ → List ℕ → Option Comparison → CommandResult
find_lists asked read [] name test = named_sticker asked name (show_lists asked read name test)
find_lists asked read list name test = of_list asked read list name (show_list asked read list name test)

abbrev pub show_stickers : Asked → Read → CommandResult
show_stickers asked (Entries entries) = shows asked (stickers_of entries)
show_stickers asked (Refused fault) = refused asked fault
show_stickers asked _ = misread asked

abbrev pub show_found : Asked → Library → Read → List ℕ → List ℕ → Option Comparison → CommandResult
show_found asked library (Entries entries) uri name test = shows asked (found_lines library.songs uri name test entries)
show_found asked library (Refused fault) uri name test = refused asked fault
show_found asked library _ uri name test = misread asked

-- the URI is a song's, or a folder's
abbrev pub is_song_or_folder : Library → List ℕ → Bool
is_song_or_folder library uri = is_song library uri || is_folder uri library.songs

-- what each command makes of the player: stickers are of the songs that the library has, and of the stored
-- playlists
abbrev pub result_of : Asked → Library → Read → StickerCommand → CommandResult
result_of asked library read (Get (Song uri) name) = of_song asked library uri.0 (named_sticker asked name (show_value asked read name))
result_of asked library read (Get (Playlist list) name) = get_of_list asked read list name
result_of asked library read (Set (Song uri) name value) =
    of_song asked library uri.0 (named_sticker asked name (set_value asked read OfSong uri.0 name value))
result_of asked library read (Set (Playlist list) name value) = set_of_list asked read list name value
result_of asked library read (Delete (Song uri) name) = of_song asked library uri.0 (delete_stickers asked uri.0 name)
result_of asked library read (Delete (Playlist list) name) = delete_of_list asked read list name
result_of asked library read (ListStickers (Song uri)) = of_song asked library uri.0 (show_stickers asked read)
result_of asked library read (ListStickers (Playlist list)) = named asked list (show_stickers asked read)
result_of asked library read (Find (Song uri) name test) =
    if is_song_or_folder library uri.0 then named_sticker asked name (show_found asked library read uri.0 name test) else no_such_song asked
result_of asked library read (Find (Playlist list) name test) = find_lists asked read list name test

-- unless there is no memory, the transition is what this command makes of the player
abbrev pub Runs : Result TransitionData AllocError → Asked → Library → Read → StickerCommand → Type 0
Runs result asked library read command = IsDecidedBy result (result_of asked library read command)

-- the same of a search among the songs
abbrev pub FindsSongs : Result TransitionData AllocError → Asked → Library → Read → Uri → List ℕ → Option Comparison → Type 0
FindsSongs result asked library read uri name test = Runs result asked library read (Find (Song uri) name test)

-- what each command asks the shelf, once its names and songs are in order
abbrev pub asks_sticker : Library → List ℕ → List ℕ → Question
asks_sticker library uri name = if is_song library uri && is_sticker_name name then AskSticker OfSong uri name else NoQuestion

abbrev pub asks_all : Library → List ℕ → Question
asks_all library uri = if is_song library uri then AskStickers OfSong uri else NoQuestion

abbrev pub asks_found : Library → List ℕ → List ℕ → Question
asks_found library uri name = if is_song_or_folder library uri && is_sticker_name name then AskFound OfSong name else NoQuestion

-- what is asked of a stored playlist: its answer says first whether it is there
abbrev pub asks_of_list : List ℕ → List ℕ → Question
asks_of_list list name = if is_list_name list then AskSticker OfPlaylist list name else NoQuestion

abbrev pub asks_for_lists : List ℕ → List ℕ → Question
asks_for_lists [] name = if is_sticker_name name then AskFound OfPlaylist name else NoQuestion
asks_for_lists list name = asks_of_list list name

abbrev pub asks_to_delete : List ℕ → Option (List ℕ) → Question
asks_to_delete list None = NoQuestion
asks_to_delete list (Some name) = asks_of_list list name

abbrev pub question_of : Library → StickerCommand → Question
question_of library (Get (Song uri) name) = asks_sticker library uri.0 name
question_of library (Get (Playlist list) name) = asks_of_list list name
question_of library (Set (Song uri) name value) = asks_sticker library uri.0 name
question_of library (Set (Playlist list) name value) = asks_of_list list name
question_of library (Delete (Song uri) name) = NoQuestion
question_of library (Delete (Playlist list) name) = asks_to_delete list name
question_of library (ListStickers (Song uri)) = asks_all library uri.0
question_of library (ListStickers (Playlist list)) = asks_stickers list
question_of library (Find (Song uri) name test) = asks_found library uri.0 name
question_of library (Find (Playlist list) name test) = asks_for_lists list name
