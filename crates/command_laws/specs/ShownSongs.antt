-- The lines that each command shows of songs to a client that is shown all tags (MPD protocol reference, The
-- queue; The music database; Stored playlists; Querying MPD's status: `currentsong`).
use Rattle.std.specs.Prelude.{ℕ, true, ◌+◌, ◌-◌, ◌==◌, List, [], ◌∷◌, ◌++◌, Option, Some, None, slice_get, if◌then◌else◌, codes, decimal}
use Rattle.std.specs.List.{flat_map, range_with_len}
use Rattle.std.specs.declared.ops.Range.{Range as Positions}
use Rattle.mpd_text.specs.Answers.Range.{positions}
use Rattle.mpd_text.specs.Songs.Song.{SongData}
use Rattle.filters.specs.declared.matching.Case.{Case}
use Rattle.filters.specs.declared.matching.Case.TheVariants.{Heeded, Ignored}
use Rattle.song_db.specs.Library.{song_of}
use Rattle.song_search.specs.Folders.{direct_folders, direct_songs, is_folder, under}
use Rattle.song_queue.specs.Entries.{rows_at}
use Rattle.song_queue.specs.State.{position_of, queue_of}
use Rattle.song_queue.specs.declared.entry.Entry.{Entry}
use Rattle.command_arguments.specs.declared.criteria.Criteria.{Criteria}
use Rattle.command_arguments.specs.declared.criteria.Criteria.TheVariants.{Meeting, Refused}
use Rattle.selections.specs.declared.asked.Selection.{Selection}
use Rattle.shelf.specs.Maps.{is_list_name}
use Rattle.player_state.specs.declared.state.Library.{Library}
use Rattle.player_state.specs.declared.state.Part.{Part}
use Rattle.transitions.specs.declared.shelf_calls.Read.{Read}
use Rattle.transitions.specs.declared.shelf_calls.Read.TheVariants.{Names, List as ListRead}
use Rattle.mpd_command.specs.declared.command.Command.{Command}
use Rattle.mpd_command.specs.declared.command.Command.TheVariants as command
use Rattle.mpd_command.specs.declared.connection.ConnectionCommand.{ConnectionCommand}
use Rattle.mpd_command.specs.declared.connection.ConnectionCommand.TheVariants as connection
use Rattle.mpd_command.specs.declared.database.DatabaseCommand.{DatabaseCommand}
use Rattle.mpd_command.specs.declared.database.DatabaseCommand.TheVariants as database
use Rattle.mpd_command.specs.declared.playlists.PlaylistCommand.{PlaylistCommand}
use Rattle.mpd_command.specs.declared.playlists.PlaylistCommand.TheVariants as playlists
use Rattle.mpd_command.specs.declared.queue.QueueCommand.{QueueCommand}
use Rattle.mpd_command.specs.declared.queue.QueueCommand.TheVariants as queue
use Rattle.mpd_command.specs.declared.status.StatusCommand.{StatusCommand}
use Rattle.mpd_command.specs.declared.status.StatusCommand.TheVariants as status
use Rattle.queue_commands.specs.Queue.{changed_between, count, current_position, meeting, range_or_all}
use Rattle.library_commands.specs.Database.{selected, shows_playlists, uri_or_all}
use Rattle.command_laws.specs.HiddenTags.{Line, line, lines_of_song}

-- what a command shows: these lines of songs; a refusal; what has nothing to do with songs; or, for
-- `tagtypes`, the client's own tags
pub data Showing : Type 0 where
  Lines : List Line → Showing
  Refusal : Showing
  NoSongs : Showing
  OwnTags : Showing

-- the lines of songs, one song after the other
abbrev pub lines_of_songs : Library → List SongData → List Line
lines_of_songs library songs = flat_map (lines_of_song library.rate) songs

-- a priority has a line where there is one
abbrev pub lines_of_priority : ℕ → List Line
lines_of_priority priority = if priority == 0 then [] else line (codes "Prio") (decimal priority) ∷ []

-- the lines of an entry of the queue at a position
abbrev pub lines_of_row : ℕ → ℕ × Entry → List Line
lines_of_row rate row =
    lines_of_song rate row.1.song
    ++ (line (codes "Pos") (decimal row.0) ∷ line (codes "Id") (decimal row.1.id) ∷ lines_of_priority row.1.priority)

-- entries of the queue, each with its position
abbrev pub rows_shown : Library → List (ℕ × Entry) → Showing
rows_shown library rows = Lines (flat_map (lines_of_row library.rate) rows)

-- the songs at some positions of the queue
abbrev pub positions_shown : Part → Library → Option (Positions ℕ) → Showing
positions_shown part library None = Refusal
positions_shown part library (Some r) =
    rows_shown library (rows_at (queue_of part.queue) (range_with_len r.start (r.end - r.start)))

-- the song at one position of it
abbrev pub position_shown : Part → Library → Option ℕ → Showing
position_shown part library None = Refusal
position_shown part library (Some position) = positions_shown part library (Some (positions position (position + 1)))

-- the songs of the queue that meet a filter
abbrev pub met_shown : Part → Library → Case → Criteria → Showing
met_shown part library case (Meeting e) = rows_shown library (meeting part.queue case e)
met_shown part library case (Refused text) = Refusal

-- those at the positions that changed since a version
abbrev pub changed_shown : Part → Library → ℕ → Option (Positions ℕ) → Showing
changed_shown part library version None = Refusal
changed_shown part library version (Some r) = rows_shown library (changed_between part.queue version r)

-- what the commands of the queue show
abbrev pub queue_shown : Part → Library → QueueCommand → Showing
queue_shown part library (queue.PlaylistFind criteria) = met_shown part library Heeded criteria
queue_shown part library (queue.PlaylistId None) = positions_shown part library (range_or_all None (count part))
queue_shown part library (queue.PlaylistId (Some id)) = position_shown part library (position_of part.queue id)
queue_shown part library (queue.PlaylistInfo range) = positions_shown part library (range_or_all range (count part))
queue_shown part library (queue.PlaylistSearch criteria) = met_shown part library Ignored criteria
queue_shown part library (queue.PlChanges version range) =
    changed_shown part library version (range_or_all range (count part))
queue_shown part library _ = NoSongs

-- the songs of the library that a selection asks for
abbrev pub selection_shown : Library → Case → Selection → Criteria → Showing
selection_shown library case selection (Meeting e) = Lines (lines_of_songs library (selected library case e selection))
selection_shown library case selection (Refused text) = Refusal

-- the songs under a folder, or the song of this name
abbrev pub under_shown : Library → List ℕ → Option SongData → Showing
under_shown library uri (Some song) = Lines (lines_of_song library.rate song)
under_shown library uri None =
    if is_folder uri library.songs then Lines (lines_of_songs library (under uri library.songs)) else Refusal

-- the lines of the folders and songs right in a folder
abbrev pub lines_in_folder : Library → List ℕ → List Line
lines_in_folder library folder =
    flat_map (λ name. line (codes "directory") name ∷ []) (direct_folders folder library.songs)
    ++ lines_of_songs library (direct_songs folder library.songs)

-- the folders and songs right in a folder, or the song of this name
abbrev pub folder_shown : Library → List ℕ → Option SongData → Showing
folder_shown library uri (Some song) = Lines (lines_of_song library.rate song)
folder_shown library uri None = if is_folder uri library.songs then Lines (lines_in_folder library uri) else Refusal

-- those right in the library, and the names of the stored playlists
abbrev pub root_shown : Library → Read → Showing
root_shown library (Names names) =
    Lines (lines_in_folder library [] ++ flat_map (λ name. line (codes "playlist") name ∷ []) names)
root_shown library _ = Refusal

-- what the commands of the library show
abbrev pub database_shown : Library → Read → DatabaseCommand → Showing
database_shown library read (database.Find selection) = selection_shown library Heeded selection selection.criteria
database_shown library read (database.ListAllInfo uri) =
    under_shown library (uri_or_all uri) (song_of library.songs (uri_or_all uri))
database_shown library read (database.LsInfo uri everyday) =
    if shows_playlists (uri_or_all uri) everyday then root_shown library read
    else folder_shown library (uri_or_all uri) (song_of library.songs (uri_or_all uri))
database_shown library read (database.Search selection) = selection_shown library Ignored selection selection.criteria
database_shown library read _ = NoSongs

-- the song that the library has at a URI, or the URI alone
abbrev pub lines_of_uri : Library → List ℕ → Option SongData → List Line
lines_of_uri library uri (Some song) = lines_of_song library.rate song
lines_of_uri library uri None = line (codes "file") uri ∷ []

-- the songs of a stored playlist
abbrev pub list_shown : Library → Read → Showing
list_shown library (ListRead uris) = Lines (flat_map (λ uri. lines_of_uri library uri (song_of library.songs uri)) uris)
list_shown library _ = Refusal

-- what the commands of stored playlists show
abbrev pub playlists_shown : Library → Read → PlaylistCommand → Showing
playlists_shown library read (playlists.ListPlaylistInfo name) =
    if is_list_name name then list_shown library read else Refusal
playlists_shown library read _ = NoSongs

-- the lines of the entry at a position, if there is one
abbrev pub lines_of_entry : ℕ → ℕ → Option Entry → List Line
lines_of_entry rate position None = []
lines_of_entry rate position (Some entry) = lines_of_row rate (position, entry)

-- the lines of the current song, whose position this is, if there is one
abbrev pub current_lines : Part → Library → Option ℕ → List Line
current_lines part library None = []
current_lines part library (Some position) = lines_of_entry library.rate position (slice_get (queue_of part.queue) position)

-- what the commands that ask for the state show
abbrev pub status_shown : Part → Library → StatusCommand → Showing
status_shown part library status.CurrentSong = Lines (current_lines part library (current_position part))
status_shown part library _ = NoSongs

-- what the commands of the connection show
abbrev pub connection_shown : ConnectionCommand → Showing
connection_shown (connection.TagTypes true) = OwnTags
connection_shown _ = NoSongs

-- what each command shows of songs
abbrev pub showing_of : Part → Library → Read → Command → Showing
showing_of part library read (command.Status it) = status_shown part library it
showing_of part library read (command.Options it) = NoSongs
showing_of part library read (command.Playback it) = NoSongs
showing_of part library read (command.Queue it) = queue_shown part library it
showing_of part library read (command.Playlists it) = playlists_shown library read it
showing_of part library read (command.Database it) = database_shown library read it
showing_of part library read (command.Stickers it) = NoSongs
showing_of part library read (command.Connection it) = connection_shown it
showing_of part library read (command.Outputs it) = NoSongs
showing_of part library read (command.Messages it) = NoSongs
showing_of part library read (command.Partitions it) = NoSongs
