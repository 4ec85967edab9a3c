-- The commands that ask for songs and folders of the library, and add them (MPD protocol reference, The music
-- database).
use Rattle.std.specs.Prelude.{ℕ, ◌+◌, ◌-◌, ◌==◌, Bool, ◌&&◌, if◌then◌else◌, List, [], ◌++◌, Option, Some, None, length, map, reverse, take, drop, codes, decimal}
use Rattle.std.specs.List.{flat_map}
use Rattle.filters.specs.Expressions.{Expression, Under}
use Rattle.filters.specs.declared.matching.Case.{Case}
use Rattle.filters.specs.declared.matching.Case.TheVariants.{Heeded, Ignored}
use Rattle.command_arguments.specs.declared.forms.Position.{Position}
use Rattle.command_arguments.specs.declared.forms.Uri.{Uri}
use Rattle.command_arguments.specs.declared.criteria.Criteria.{Criteria}
use Rattle.command_arguments.specs.declared.criteria.Criteria.TheVariants.{Meeting, Refused}
use Rattle.command_arguments.specs.declared.forms.Window.{Window}
use Rattle.mpd_text.specs.Answers.Answer.{pair_line}
use Rattle.mpd_text.specs.Songs.Song.{SongData}
use Rattle.mpd_text.specs.declared.answers.answer.ErrorNumber.TheVariants.{Argument, NoExist, UpdateAlready}
use Rattle.mpd_text.specs.declared.songs.song.TagName.{TagName}
use Rattle.song_db.specs.Library.{song_of}
use Rattle.known_tags.specs.KnownTags.{read_of, text_of}
use Rattle.known_tags.specs.Lines.{song_lines_with}
use Rattle.known_tags.specs.declared.known_tag.KnownTag.{KnownTag}
use Rattle.selections.specs.declared.asked.Counting.{Counting}
use Rattle.selections.specs.declared.asked.Grouping.{Grouping}
use Rattle.selections.specs.declared.asked.Selection.{Selection}
use Rattle.selections.specs.declared.sort_by.SortBy.{SortBy}
use Rattle.song_search.specs.Answers.{found, playtime}
use Rattle.song_groups.specs.Counts.{groups, lines_of_groups}
use Rattle.song_groups.specs.Order.{ordered as by_tag}
use Rattle.song_groups.specs.Tuples.{lines_of_tuples, tuples}
use Rattle.song_search.specs.Folders.{direct_folders, direct_songs, is_folder, under}
use Rattle.shelf_contents.specs.Shown.{playlist_lines}
use Rattle.transitions.specs.CommandResults.{begins_scan, refusal, shows}
use Rattle.transitions.specs.Shelves.{Question, NoQuestion, AskNames}
use Rattle.queue_commands.specs.Queue.{add_songs}
use Rattle.transitions.specs.declared.asked.Asked.{Asked}
use Rattle.transitions.specs.declared.shelf_calls.Read.{Read}
use Rattle.transitions.specs.declared.shelf_calls.Read.TheVariants.{Names, Refused as ShelfRefused}
use Rattle.player_state.specs.declared.state.Library.{Library}
use Rattle.player_state.specs.declared.state.Part.{Part}
use Rattle.transitions.specs.Transitions.{CommandResult}
use Rattle.player_state.specs.Scans.{running}
use Rattle.mpd_command.specs.declared.database.DatabaseCommand.{DatabaseCommand}
use Rattle.mpd_command.specs.declared.database.DatabaseCommand.TheVariants as database
use Rattle.library_commands.specs.Playlists.{append, asks_list, misread, named, refused}
use Rattle.library_commands.specs.Stickers.{of_song}

-- the lines of songs with the tags of a set, one after the other
unfoldable pub lines_of_songs : List TagName → ℕ → List SongData → List ℕ
lines_of_songs tags rate songs = flat_map (song_lines_with tags rate) songs

-- the same, at the rate of a library
abbrev pub lines_with : List TagName → Library → List SongData → List ℕ
lines_with tags library songs = lines_of_songs tags library.rate songs

-- the same, as the client that asks is shown them
abbrev pub lines_for : Asked → Library → List SongData → List ℕ
lines_for asked library songs = lines_with asked.tags library songs

-- one song, as the client that asks is shown it
abbrev pub show_song : Asked → Library → SongData → CommandResult
show_song asked library song = shows asked (song_lines_with asked.tags library.rate song)

-- the URIs of songs, a line each
unfoldable pub lines_of_uris : List SongData → List ℕ
lines_of_uris songs = flat_map (λ (song : SongData). pair_line (codes "file") song.uri) songs

-- the songs that a window shows; it ends with the last of them
abbrev pub windowed : Option Window → List SongData → List SongData
windowed None songs = songs
windowed (Some window) songs = take (window.end - window.start) (drop window.start songs)

abbrev pub unreadable : Asked → List ℕ → CommandResult
unreadable asked text = refusal asked Argument text

-- some songs as they stand, in byte order of URI, or in the order of a tag
abbrev pub sorted_by : Option SortBy → List SongData → List SongData
sorted_by None songs = songs
sorted_by (Some by) songs = by_tag (read_of by.tag) by.falling songs

-- the songs that meet a filter, in this order
abbrev pub ordered : Library → Case → Expression → Option SortBy → List SongData
ordered library case e sort = sorted_by sort (found case e library.songs)

-- those of them that a window shows
abbrev pub selected : Library → Case → Expression → Selection → List SongData
selected library case e selection = windowed selection.window (ordered library case e selection.sort)

abbrev pub find_met : Asked → Library → Case → Selection → Criteria → CommandResult
find_met asked library case selection (Meeting e) =
    shows asked (lines_for asked library (selected library case e selection))
find_met asked library case selection (Refused text) = unreadable asked text

-- the songs of a selection are shown
abbrev pub find : Asked → Library → Case → Selection → CommandResult
find asked library case selection = find_met asked library case selection selection.criteria

abbrev pub add_met : Asked → Part → Library → Case → Selection → Option Position → Criteria → CommandResult
add_met asked part library case selection position (Meeting e) = add_songs asked part (selected library case e selection) position
add_met asked part library case selection position (Refused text) = unreadable asked text

-- the songs of a selection are added to the queue
abbrev pub find_add : Asked → Part → Library → Case → Selection → Option Position → CommandResult
find_add asked part library case selection position = add_met asked part library case selection position selection.criteria

-- songs go to the end of a stored playlist; no songs change nothing
abbrev pub append_found : Asked → Read → List ℕ → List SongData → CommandResult
append_found asked read name songs = if length songs == 0 then shows asked (codes "") else append asked read name songs

abbrev pub append_met : Asked → Library → Read → List ℕ → Selection → Criteria → CommandResult
append_met asked library read name selection (Meeting e) = append_found asked read name (selected library Ignored e selection)
append_met asked library read name selection (Refused text) = unreadable asked text

-- the songs of a selection, where case does not count, go to the end of a stored playlist
abbrev pub search_add_list : Asked → Library → Read → List ℕ → Selection → CommandResult
search_add_list asked library read name selection =
    named asked name (append_met asked library read name selection selection.criteria)

-- the columns of tags that are listed and grouped by: those of the groups from the last, then that of the
-- first tag
abbrev pub columns_of : List KnownTag → List (Option TagName)
columns_of tags = reverse (map read_of tags)

abbrev pub labels_of : List KnownTag → List (List ℕ)
labels_of tags = reverse (map text_of tags)

-- the texts of the first tag among the songs that meet a filter, for each text of the others: in byte order,
-- each once, and none empty
unfoldable pub list_texts : Asked → Library → List KnownTag → Expression → CommandResult
list_texts asked library tags e =
    shows asked (lines_of_tuples (labels_of tags) (tuples (columns_of tags) (found Heeded e library.songs)))

abbrev pub list_met : Asked → Library → List KnownTag → Option Criteria → CommandResult
list_met asked library tags None = list_texts asked library tags (Under [])
list_met asked library tags (Some (Meeting e)) = list_texts asked library tags e
list_met asked library tags (Some (Refused text)) = unreadable asked text

-- the same among the songs that meet a filter, or among all
abbrev pub list : Asked → Library → Grouping → CommandResult
list asked library grouping = list_met asked library grouping.tags grouping.criteria

-- how many songs there are, and how many seconds they play
abbrev pub count_lines : ℕ → List SongData → List ℕ
count_lines rate songs =
    pair_line (codes "songs") (decimal (length songs)) ++ pair_line (codes "playtime") (decimal (playtime rate songs))

-- the same for each text of a tag, the empty one too
abbrev pub counts_of : Option KnownTag → ℕ → List SongData → List ℕ
counts_of None rate songs = count_lines rate songs
counts_of (Some tag) rate songs = lines_of_groups (text_of tag) (groups (read_of tag) rate songs)

abbrev pub count_found : Asked → Library → Option KnownTag → Expression → CommandResult
count_found asked library group e = shows asked (counts_of group library.rate (found Heeded e library.songs))

abbrev pub count_met : Asked → Library → Option KnownTag → Option Criteria → CommandResult
count_met asked library group None = count_found asked library group (Under [])
count_met asked library group (Some (Meeting e)) = count_found asked library group e
count_met asked library group (Some (Refused text)) = unreadable asked text

-- the same of the songs that meet a filter, or of all
abbrev pub count_songs : Asked → Library → Counting → CommandResult
count_songs asked library counting = count_met asked library counting.group counting.criteria

abbrev pub no_such_directory : Asked → CommandResult
no_such_directory asked = refusal asked NoExist (codes "no such directory")

-- the URI that is asked for: the whole library, where none is
abbrev pub uri_or_all : Option Uri → List ℕ
uri_or_all None = []
uri_or_all (Some uri) = uri.0

-- the folders right in a folder, a line each
unfoldable pub lines_of_folders : List (List ℕ) → List ℕ
lines_of_folders folders = flat_map (pair_line (codes "directory")) folders

-- what lies right in a folder, its folders first
abbrev pub lines_in : List TagName → Library → List ℕ → List ℕ
lines_in tags library folder =
    lines_of_folders (direct_folders folder library.songs)
    ++ lines_with tags library (direct_songs folder library.songs)

abbrev pub show_folder : Asked → Library → List ℕ → CommandResult
show_folder asked library folder =
    if is_folder folder library.songs then shows asked (lines_in asked.tags library folder)
    else no_such_directory asked

-- of a song its own lines. A name that is a song's is taken as the song
abbrev pub show_song_or_folder : Asked → Library → Option SongData → List ℕ → CommandResult
show_song_or_folder asked library (Some song) uri = show_song asked library song
show_song_or_folder asked library None uri = show_folder asked library uri

abbrev pub list_path : Asked → Library → List ℕ → CommandResult
list_path asked library uri = show_song_or_folder asked library (song_of library.songs uri) uri

-- what lies right in the library, and then the names of all stored playlists, in byte order
abbrev pub list_root : Asked → Library → Read → CommandResult
list_root asked library (Names names) =
    shows asked (lines_in asked.tags library [] ++ playlist_lines names)
list_root asked library (ShelfRefused fault) = refused asked fault
list_root asked library _ = misread asked

-- stored playlists are shown in the everyday profile, where the whole library is asked for
abbrev pub shows_playlists : List ℕ → Bool → Bool
shows_playlists uri everyday = everyday && length uri == 0

-- what lies right in a folder, or in the library
abbrev pub list_info : Asked → Library → Read → List ℕ → Bool → CommandResult
list_info asked library read uri everyday =
    if shows_playlists uri everyday then list_root asked library read else list_path asked library uri

-- the URIs of all songs under a folder
abbrev pub list_folder : Asked → Library → List ℕ → CommandResult
list_folder asked library folder =
    if is_folder folder library.songs then shows asked (lines_of_uris (under folder library.songs))
    else no_such_directory asked

abbrev pub show_uri : Asked → SongData → CommandResult
show_uri asked song = shows asked (pair_line (codes "file") song.uri)

abbrev pub list_song_or_folder : Asked → Library → Option SongData → List ℕ → CommandResult
list_song_or_folder asked library (Some song) uri = show_uri asked song
list_song_or_folder asked library None uri = list_folder asked library uri

abbrev pub list_uris : Asked → Library → List ℕ → CommandResult
list_uris asked library uri = list_song_or_folder asked library (song_of library.songs uri) uri

-- the same; in the everyday profile of a song its own URI
abbrev pub list_all : Asked → Library → List ℕ → Bool → CommandResult
list_all asked library uri everyday = if everyday then list_uris asked library uri else list_folder asked library uri

-- the lines of all songs under a folder
abbrev pub list_folder_info : Asked → Library → List ℕ → CommandResult
list_folder_info asked library folder =
    if is_folder folder library.songs then shows asked (lines_for asked library (under folder library.songs))
    else no_such_directory asked

abbrev pub list_song_or_folder_info : Asked → Library → Option SongData → List ℕ → CommandResult
list_song_or_folder_info asked library (Some song) uri = show_song asked library song
list_song_or_folder_info asked library None uri = list_folder_info asked library uri

-- the same; of a song its own lines
abbrev pub list_all_info : Asked → Library → List ℕ → CommandResult
list_all_info asked library uri = list_song_or_folder_info asked library (song_of library.songs uri) uri

-- no picture lies beside a song
abbrev pub album_art : Asked → Library → List ℕ → CommandResult
album_art asked library uri = of_song asked library uri (refusal asked NoExist (codes "no picture"))

-- there is no picture in a song's file, and nothing else that it says
abbrev pub read_nothing : Asked → Library → List ℕ → CommandResult
read_nothing asked library uri = of_song asked library uri (shows asked (codes ""))

abbrev pub begin_scan : Asked → Library → Option ℕ → CommandResult
begin_scan asked library (Some number) = refusal asked UpdateAlready (codes "already updating")
begin_scan asked library None =
    begins_scan asked (pair_line (codes "updating_db") (decimal (library.scan.last + 1)))

-- a scan of the whole music folder begins, unless one runs
abbrev pub update : Asked → Library → CommandResult
update asked library = begin_scan asked library (running library.scan)

-- the names of all stored playlists are asked for, where they are shown
abbrev pub asks_names : List ℕ → Bool → Question
asks_names uri everyday = if shows_playlists uri everyday then AskNames else NoQuestion

-- what a command asks the shelf
abbrev pub question_of : DatabaseCommand → Question
question_of (database.LsInfo uri everyday) = asks_names (uri_or_all uri) everyday
question_of (database.SearchAddPl name selection) = asks_list name
question_of _ = NoQuestion

-- what each command makes of the player
unfoldable pub result_of : Asked → Part → Library → Read → DatabaseCommand → CommandResult
result_of asked part library read (database.AlbumArt uri offset) = album_art asked library uri.0
result_of asked part library read (database.Count counting) = count_songs asked library counting
result_of asked part library read (database.Find selection) = find asked library Heeded selection
result_of asked part library read (database.FindAdd selection position) = find_add asked part library Heeded selection position
result_of asked part library read (database.List grouping) = list asked library grouping
result_of asked part library read (database.ListAll uri everyday) = list_all asked library (uri_or_all uri) everyday
result_of asked part library read (database.ListAllInfo uri) = list_all_info asked library (uri_or_all uri)
result_of asked part library read (database.LsInfo uri everyday) = list_info asked library read (uri_or_all uri) everyday
result_of asked part library read (database.ReadComments uri) = read_nothing asked library uri.0
result_of asked part library read (database.ReadPicture uri offset) = read_nothing asked library uri.0
result_of asked part library read (database.Rescan uri) = update asked library
result_of asked part library read (database.Search selection) = find asked library Ignored selection
result_of asked part library read (database.SearchAdd selection position) = find_add asked part library Ignored selection position
result_of asked part library read (database.SearchAddPl name selection) = search_add_list asked library read name selection
result_of asked part library read (database.Update uri) = update asked library
