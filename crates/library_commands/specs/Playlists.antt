-- The commands of stored playlists, and what each asks the shelf (MPD protocol reference, Stored playlists;
-- that names are looked at before the shelf is asked is this profile's).
use Rattle.std.specs.Prelude.{ℕ, ◌+◌, ◌==◌, nat_lt, Bool, true, not, ◌&&◌, List, [], ◌∷◌, ◌++◌, Option, Some, None, length, if◌then◌else◌, codes}
use Rattle.std.specs.List.{remove as remove_at}
use Rattle.std.specs.Str.{bytes_eq}
use lib.Pointwise.{pointwise}
use Rattle.std.specs.declared.ops.Range.{Range as Positions}
use Rattle.command_arguments.specs.declared.forms.Position.{Position}
use Rattle.shelf.specs.declared.faults.ShelfFault.{ShelfFault}
use Rattle.shelf.specs.declared.faults.ShelfFault.TheVariants.{NoSuchList, StoreFault}
use Rattle.shelf.specs.declared.kinds.StickerKind.TheVariants.{Playlist as OfPlaylist}
use Rattle.shelf.specs.Maps.{is_list_name}
use Rattle.shelf_contents.specs.Edits.{loaded, moved, uris_in, uris_of}
use Rattle.shelf_contents.specs.Shown.{info_lines, playlist_lines, uri_lines}
use Rattle.mpd_text.specs.Answers.Range.{within}
use Rattle.mpd_text.specs.declared.answers.answer.ErrorNumber.TheVariants.{PlaylistMax}
use Rattle.mpd_text.specs.declared.answers.ranges.Range.{Range}
use Rattle.mpd_text.specs.Songs.Song.{SongData}
use Rattle.song_db.specs.Library.{song_of}
use Rattle.song_queue.specs.State.{queue_of}
use Rattle.song_search.specs.Folders.{is_folder, under}
use Rattle.transitions.specs.Answers.{refused_by_shelf}
use Rattle.transitions.specs.CommandResults.{bad_index, bad_name, no_such_song, only, refusal, shows, writes}
use Rattle.queue_commands.specs.Queue.{add_songs}
use Rattle.transitions.specs.Shelves.{Question, NoQuestion, AskNames, AskList, AskStickers}
use Rattle.transitions.specs.declared.asked.Asked.{Asked}
use Rattle.transitions.specs.declared.shelf_calls.Read.{Read}
use Rattle.transitions.specs.declared.shelf_calls.Read.TheVariants.{Names, List as ListRead, Entries, Refused}
use Rattle.transitions.specs.declared.shelf_calls.ShelfWrite.TheVariants.{Put, Create, Rename, Remove}
use Rattle.player_state.specs.declared.state.Library.{Library}
use Rattle.player_state.specs.declared.state.Part.{Part}
use Rattle.transitions.specs.Transitions.{CommandResult}
use Rattle.mpd_command.specs.declared.playlists.PlaylistCommand.{PlaylistCommand}
use Rattle.mpd_command.specs.declared.playlists.PlaylistCommand.TheVariants as playlists

-- the shelf refused the question
abbrev pub refused : Asked → ShelfFault → CommandResult
refused asked fault = only (refused_by_shelf asked.list_place (Some asked.name) fault)

-- the shelf answered another question, which no shelf does that is as it should be
abbrev pub misread : Asked → CommandResult
misread asked = refused asked StoreFault

-- the name of a stored playlist is looked at first
abbrev pub named : Asked → List ℕ → CommandResult → CommandResult
named asked name command_result = if is_list_name name then command_result else bad_name asked name

-- by the list that the shelf gave
abbrev pub on_list : Asked → Read → (List (List ℕ) → CommandResult) → CommandResult
on_list asked (ListRead uris) command_result = command_result uris
on_list asked (Refused fault) command_result = refused asked fault
on_list asked _ command_result = misread asked

-- the URIs of a list, a line each
abbrev pub list_playlist : Asked → Read → List ℕ → CommandResult
list_playlist asked read name = named asked name (on_list asked read (λ uris. shows asked (uri_lines uris)))

-- the lines of the songs that the library has at some URIs, as the client that asks is shown them
abbrev pub info_lines_for : Asked → Library → List (List ℕ) → List ℕ
info_lines_for asked library uris = info_lines asked.tags library.rate library.songs uris

-- the same, with the lines of the songs that the library has
abbrev pub list_playlist_info : Asked → Library → Read → List ℕ → CommandResult
list_playlist_info asked library read name =
    named asked name (on_list asked read (λ uris. shows asked (info_lines_for asked library uris)))

-- the names of all lists, in byte order
abbrev pub list_playlists : Asked → Read → CommandResult
list_playlists asked (Names names) = shows asked (playlist_lines names)
list_playlists asked (Refused fault) = refused asked fault
list_playlists asked _ = misread asked

abbrev pub load_positions : Asked → Part → Library → List (List ℕ) → Option Position → Option (Positions ℕ) → CommandResult
load_positions asked part library uris position None = bad_index asked
load_positions asked part library uris position (Some r) = add_songs asked part (loaded library.songs uris r.start r.end) position

-- a range counts all entries of the list
abbrev pub load_range : Asked → Part → Library → Option Range → Option Position → List (List ℕ) → CommandResult
load_range asked part library None position uris = add_songs asked part (loaded library.songs uris 0 (length uris)) position
load_range asked part library (Some range) position uris =
    load_positions asked part library uris position (within range (length uris))

-- the songs of a list that the library has are added to the queue, all together
abbrev pub load : Asked → Part → Library → Read → List ℕ → Option Range → Option Position → CommandResult
load asked part library read name range position =
    named asked name (on_list asked read (load_range asked part library range position))

-- the list of the queue's songs is kept under a new name
abbrev pub save : Asked → Part → List ℕ → CommandResult
save asked part name = named asked name (writes asked (Create name (uris_in (queue_of part.queue))))

-- what is done with a list by whether it has stickers
abbrev pub with_stickers : Asked → Read → (Bool → CommandResult) → CommandResult
with_stickers asked (Entries entries) command_result = command_result (not (length entries == 0))
with_stickers asked (Refused fault) command_result = refused asked fault
with_stickers asked _ command_result = misread asked

-- a list goes, with its stickers
abbrev pub remove : Asked → Read → List ℕ → CommandResult
remove asked read name = named asked name (with_stickers asked read (λ has_stickers. writes asked (Remove name has_stickers)))

-- a list gets another name, and its stickers go along
abbrev pub rename : Asked → Read → List ℕ → List ℕ → CommandResult
rename asked read name new =
    named asked name (named asked new (with_stickers asked read (λ has_stickers. writes asked (Rename name new has_stickers))))

-- songs go to the end of a list of at most 16,384 entries; a list that is not there is made, also for no
-- songs
abbrev pub put_with : Asked → List ℕ → List (List ℕ) → List SongData → Bool → CommandResult
put_with asked name uris songs changes =
    if nat_lt 16384 (length uris + length songs) then refusal asked PlaylistMax (codes "playlist is full")
    else writes asked (Put name (uris ++ uris_of songs) changes)

abbrev pub append : Asked → Read → List ℕ → List SongData → CommandResult
append asked (ListRead uris) name songs = put_with asked name uris songs (not (length songs == 0))
append asked (Refused NoSuchList) name songs = put_with asked name [] songs true
append asked (Refused fault) name songs = refused asked fault
append asked _ name songs = misread asked

abbrev pub append_folder : Asked → Library → Read → List ℕ → List ℕ → CommandResult
append_folder asked library read name folder = if is_folder folder library.songs then append asked read name (under folder library.songs) else no_such_song asked

abbrev pub append_song_or_folder : Asked → Library → Read → List ℕ → List ℕ → Option SongData → CommandResult
append_song_or_folder asked library read name uri (Some song) = append asked read name (song ∷ [])
append_song_or_folder asked library read name uri None = append_folder asked library read name uri

-- a song is put at the end of a list, or all songs under a folder; a name that is a song's is taken as the
-- song
abbrev pub playlist_add : Asked → Library → Read → List ℕ → List ℕ → CommandResult
playlist_add asked library read name uri = named asked name (append_song_or_folder asked library read name uri (song_of library.songs uri))

-- a list is left without entries
abbrev pub playlist_clear : Asked → Read → List ℕ → CommandResult
playlist_clear asked read name = named asked name (on_list asked read (λ uris. writes asked (Put name [] (not (length uris == 0)))))

-- the entry at a position leaves a list
abbrev pub playlist_delete : Asked → Read → List ℕ → ℕ → CommandResult
playlist_delete asked read name position =
    named asked name (on_list asked read (λ uris. if nat_lt position (length uris) then writes asked (Put name (remove_at uris position) true) else bad_index asked))

-- whether two lists have the same URIs
unfoldable pub same_uris : List (List ℕ) → List (List ℕ) → Bool
same_uris = pointwise bytes_eq

-- the entry at a position of a list goes to another
abbrev pub playlist_move : Asked → Read → List ℕ → ℕ → ℕ → CommandResult
playlist_move asked read name from to =
    named asked name (on_list asked read (λ uris.
    if nat_lt from (length uris) && nat_lt to (length uris) then writes asked (Put name (moved uris from to) (not (same_uris uris (moved uris from to)))) else bad_index asked))

-- a list is asked for, where the name can be one's
abbrev pub asks_list : List ℕ → Question
asks_list name = if is_list_name name then AskList name else NoQuestion

-- the stickers of a list are asked for, where the name can be one's
abbrev pub asks_stickers : List ℕ → Question
asks_stickers name = if is_list_name name then AskStickers OfPlaylist name else NoQuestion

-- the same, where the new name can be one's too
abbrev pub asks_to_rename : List ℕ → List ℕ → Question
asks_to_rename name new = if is_list_name new then asks_stickers name else NoQuestion

-- what a command asks the shelf
abbrev pub question_of : PlaylistCommand → Question
question_of playlists.ListPlaylists = AskNames
question_of (playlists.ListPlaylist name) = asks_list name
question_of (playlists.ListPlaylistInfo name) = asks_list name
question_of (playlists.Load name range position) = asks_list name
question_of (playlists.PlaylistAdd name uri) = asks_list name
question_of (playlists.PlaylistClear name) = asks_list name
question_of (playlists.PlaylistDelete name position) = asks_list name
question_of (playlists.PlaylistMove name from to) = asks_list name
question_of (playlists.Rename name new) = asks_to_rename name new
question_of (playlists.Rm name) = asks_stickers name
question_of (playlists.Save name) = NoQuestion

-- what each command makes of the player
unfoldable pub result_of : Asked → Part → Library → Read → PlaylistCommand → CommandResult
result_of asked part library read (playlists.ListPlaylist name) = list_playlist asked read name
result_of asked part library read (playlists.ListPlaylistInfo name) = list_playlist_info asked library read name
result_of asked part library read playlists.ListPlaylists = list_playlists asked read
result_of asked part library read (playlists.Load name range position) = load asked part library read name range position
result_of asked part library read (playlists.PlaylistAdd name uri) = playlist_add asked library read name uri.0
result_of asked part library read (playlists.PlaylistClear name) = playlist_clear asked read name
result_of asked part library read (playlists.PlaylistDelete name position) = playlist_delete asked read name position
result_of asked part library read (playlists.PlaylistMove name from to) = playlist_move asked read name from to
result_of asked part library read (playlists.Rename name new) = rename asked read name new
result_of asked part library read (playlists.Rm name) = remove asked read name
result_of asked part library read (playlists.Save name) = save asked part name
