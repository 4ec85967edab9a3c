-- What the commands of the library and of stored playlists, and `currentsong`, show less hidden tags.
use Rattle.std.proofs.Common.{ℕ, Bool, true, false, cond, List, [], ◌∷◌, Option, Some, None, refl, codes}
use Rattle.std.specs.List.{flat_map}
use Rattle.mpd_text.specs.Answers.Answer.{pair_line}
use Rattle.mpd_text.specs.Songs.Song.{SongData}
use Rattle.mpd_text.specs.Songs.Tags.{tag_names}
use Rattle.mpd_text.specs.declared.songs.song.TagName.{TagName}
use Rattle.filters.specs.declared.matching.Case.{Case}
use Rattle.filters.specs.declared.matching.Case.TheVariants.{Heeded, Ignored}
use Rattle.known_tags.specs.Lines.{song_lines_with}
use Rattle.song_db.specs.Library.{song_of}
use Rattle.song_search.specs.Folders.{direct_folders, direct_songs, is_folder, under}
use Rattle.song_queue.specs.declared.entry.Entry.{Entry}
use Rattle.command_arguments.specs.declared.criteria.Criteria.{Criteria}
use Rattle.command_arguments.specs.declared.criteria.Criteria.TheVariants.{Meeting, Refused}
use Rattle.selections.specs.declared.asked.Selection.{Selection}
use Rattle.shelf.specs.declared.faults.ShelfFault.{ShelfFault}
use Rattle.shelf.specs.declared.faults.ShelfFault.TheVariants.{NoSuchList, Exists, BadName, NoSticker, StoreFault, NoMemory}
use Rattle.shelf.specs.Maps.{is_list_name}
use Rattle.shelf_contents.specs.Shown.{info, info_lines, playlist_lines}
use Rattle.player_state.specs.declared.state.Library.{Library}
use Rattle.player_state.specs.declared.state.Part.{Part}
use Rattle.transitions.specs.CommandResults.{bad_name, shows}
use Rattle.transitions.specs.Transitions.{CommandResult}
use Rattle.transitions.specs.declared.asked.Asked.{Asked}
use Rattle.transitions.specs.declared.shelf_calls.Read.{Read}
use Rattle.transitions.specs.declared.shelf_calls.Read.TheVariants as read_variant
use Rattle.mpd_command.specs.declared.database.DatabaseCommand.{DatabaseCommand}
use Rattle.mpd_command.specs.declared.database.DatabaseCommand.TheVariants as database
use Rattle.mpd_command.specs.declared.playlists.PlaylistCommand.{PlaylistCommand}
use Rattle.mpd_command.specs.declared.playlists.PlaylistCommand.TheVariants as playlists
use Rattle.mpd_command.specs.declared.status.StatusCommand.{StatusCommand}
use Rattle.mpd_command.specs.declared.status.StatusCommand.TheVariants as status
use Rattle.queue_commands.specs.Playback.{lines_at, lines_of_entry as entry_lines_at}
use Rattle.queue_commands.specs.Queue.{current_position}
use Rattle.library_commands.specs.Database.{find_met, lines_in, lines_of_folders, lines_of_songs as song_lines, lines_with, list_info, list_path, list_root, list_song_or_folder_info, list_texts, no_such_directory, show_song_or_folder, shows_playlists, uri_or_all, result_of as database_result}
use Rattle.library_commands.specs.Playlists.{on_list, refused, result_of as playlists_result}
use Rattle.status_commands.specs.Status.{result_of as status_result}
use Rattle.command_laws.specs.HiddenLines.{unchosen}
use Rattle.command_laws.specs.HiddenTags.{IsTagSet, LessTags, line, lines_of_song}
use Rattle.command_laws.specs.ShownSongs.{Lines, Refusal, Showing, current_lines, database_shown, folder_shown, lines_in_folder, lines_of_entry, lines_of_songs, lines_of_uri, list_shown, playlists_shown, root_shown, selection_shown, status_shown, under_shown}
use Rattle.command_laws.proofs.HiddenInQueue.{AreShownLess, answers, row-less}
use Rattle.command_laws.proofs.HiddenLines.{less-append, less-each, less-line, less-nil, song-less}

-- one test chooses what is shown, and for both
where-test : (asked : Asked) (set : List TagName) (b : Bool) (s t : Showing) (some other all another : CommandResult)
    → AreShownLess asked set s some all → AreShownLess asked set t other another → AreShownLess asked set (cond b s t) (cond b some other) (cond b all another)
where-test asked set true s t some other all another h k = h
where-test asked set false s t some other all another h k = k

-- what the shelf refuses is refused
refused-same : (asked : Asked) (set : List TagName) (fault : ShelfFault) → AreShownLess asked set Refusal (refused asked fault) (refused asked fault)
refused-same asked set NoSuchList = (refl, refl)
refused-same asked set Exists = (refl, refl)
refused-same asked set BadName = (refl, refl)
refused-same asked set NoSticker = (refl, refl)
refused-same asked set StoreFault = (refl, refl)
refused-same asked set NoMemory = (refl, refl)

module _ (set : List TagName) (is : IsTagSet set) where
  songs-less : (library : Library) (songs : List SongData) → LessTags set (lines_of_songs library songs) (lines_with set library songs) (lines_with tag_names library songs)
  unfolding song_lines
  songs-less library songs = less-each set (lines_of_song library.rate) (song_lines_with set library.rate) (song_lines_with tag_names library.rate) (song-less set is library.rate) songs

  folders-less : (folders : List (List ℕ)) → LessTags set (flat_map (λ name. line (codes "directory") name ∷ []) folders) (lines_of_folders folders) (lines_of_folders folders)
  unfolding lines_of_folders
  folders-less folders =
      less-each set (λ name. line (codes "directory") name ∷ []) (pair_line (codes "directory")) (pair_line (codes "directory"))
      (λ name. less-line set (codes "directory") name refl) folders

  folder-less : (library : Library) (folder : List ℕ) → LessTags set (lines_in_folder library folder) (lines_in set library folder) (lines_in tag_names library folder)
  folder-less library folder =
      let folders : List (List ℕ) = direct_folders folder library.songs in
      let songs : List SongData = direct_songs folder library.songs in
      less-append set (flat_map (λ name. line (codes "directory") name ∷ []) folders) (lines_of_songs library songs)
      (lines_of_folders folders) (lines_of_folders folders) (lines_with set library songs) (lines_with tag_names library songs) (folders-less folders) (songs-less library songs)

  lists-less : (names : List (List ℕ)) → LessTags set (flat_map (λ name. line (codes "playlist") name ∷ []) names) (playlist_lines names) (playlist_lines names)
  lists-less names =
      less-each set (λ name. line (codes "playlist") name ∷ []) (λ name. pair_line (codes "playlist") name) (λ name. pair_line (codes "playlist") name)
      (λ name. less-line set (codes "playlist") name refl) names

  info-less : (library : Library) (uri : List ℕ) (o : Option SongData) → LessTags set (lines_of_uri library uri o) (info set library.rate uri o) (info tag_names library.rate uri o)
  info-less library uri None = less-line set (codes "file") uri refl
  info-less library uri (Some song) = song-less set is library.rate song

  infos-less : (library : Library) (uris : List (List ℕ)) → LessTags set (flat_map (λ uri. lines_of_uri library uri (song_of library.songs uri)) uris)
      (info_lines set library.rate library.songs uris) (info_lines tag_names library.rate library.songs uris)
  infos-less library uris =
      less-each set (λ uri. lines_of_uri library uri (song_of library.songs uri)) (λ uri. info set library.rate uri (song_of library.songs uri))
      (λ uri. info tag_names library.rate uri (song_of library.songs uri)) (λ uri. info-less library uri (song_of library.songs uri)) uris

  entry-at : (rate position : ℕ) (o : Option Entry) → LessTags set (lines_of_entry rate position o) (entry_lines_at set rate position o) (entry_lines_at tag_names rate position o)
  entry-at rate position None = less-nil set
  entry-at rate position (Some entry) = row-less set is rate (position, entry)

  lines-at : (part : Part) (library : Library) (o : Option ℕ) → LessTags set (current_lines part library o) (lines_at set library.rate part.queue o) (lines_at tag_names library.rate part.queue o)
  lines-at part library None = less-nil set
  lines-at part library (Some position) = entry-at library.rate position _

module _ (asked : Asked) (library : Library) (is : IsTagSet asked.tags) where
  abbrev set : List TagName
  set = asked.tags

  selection-less : (case : Case) (selection : Selection) (criteria : Criteria)
      → AreShownLess asked set (selection_shown library case selection criteria) (find_met asked library case selection criteria) (find_met (unchosen asked) library case selection criteria)
  selection-less case selection (Meeting e) = answers asked set _ _ _ (songs-less set is library _)
  selection-less case selection (Refused text) = (refl, refl)

  song-shown : (song : SongData) → AreShownLess asked set (Lines (lines_of_song library.rate song)) (shows asked (song_lines_with set library.rate song)) (shows asked (song_lines_with tag_names library.rate song))
  song-shown song =
      answers asked set (lines_of_song library.rate song) (song_lines_with set library.rate song) (song_lines_with tag_names library.rate song) (song-less set is library.rate song)

  song_or_folder-less : (uri : List ℕ) (o : Option SongData) → AreShownLess asked set (folder_shown library uri o) (show_song_or_folder asked library o uri) (show_song_or_folder (unchosen asked) library o uri)
  song_or_folder-less uri (Some song) = song-shown song
  song_or_folder-less uri None =
      where-test asked set (is_folder uri library.songs) (Lines (lines_in_folder library uri)) Refusal
      (shows asked (lines_in set library uri)) (no_such_directory asked) (shows asked (lines_in tag_names library uri)) (no_such_directory asked)
      (answers asked set _ _ _ (folder-less set is library uri)) (refl, refl)

  root-less : (read : Read) → AreShownLess asked set (root_shown library read) (list_root asked library read) (list_root (unchosen asked) library read)
  root-less (read_variant.Names names) =
      answers asked set _ _ _ (less-append set (lines_in_folder library []) (flat_map (λ name. line (codes "playlist") name ∷ []) names)
      (lines_in set library []) (lines_in tag_names library []) (playlist_lines names) (playlist_lines names)
      (folder-less set is library []) (lists-less set is names))
  root-less (read_variant.Refused fault) = refused-same asked set fault
  root-less _ = (refl, refl)

  info-shown : (read : Read) (uri : List ℕ) (everyday : Bool) → AreShownLess asked set (cond (shows_playlists uri everyday) (root_shown library read) (folder_shown library uri (song_of library.songs uri)))
      (list_info asked library read uri everyday) (list_info (unchosen asked) library read uri everyday)
  info-shown read uri everyday =
      where-test asked set (shows_playlists uri everyday) (root_shown library read) (folder_shown library uri (song_of library.songs uri))
      (list_root asked library read) (list_path asked library uri) (list_root (unchosen asked) library read) (list_path (unchosen asked) library uri)
      (root-less read) (song_or_folder-less uri (song_of library.songs uri))

  under-less : (uri : List ℕ) (o : Option SongData)
      → AreShownLess asked set (under_shown library uri o) (list_song_or_folder_info asked library o uri) (list_song_or_folder_info (unchosen asked) library o uri)
  under-less uri (Some song) = song-shown song
  under-less uri None =
      where-test asked set (is_folder uri library.songs) (Lines (lines_of_songs library (under uri library.songs))) Refusal
      (shows asked (lines_with set library (under uri library.songs))) (no_such_directory asked) (shows asked (lines_with tag_names library (under uri library.songs))) (no_such_directory asked)
      (answers asked set _ _ _ (songs-less set is library (under uri library.songs))) (refl, refl)

  list-less : (read : Read) → AreShownLess asked set (list_shown library read)
      (on_list asked read (λ uris. shows asked (info_lines set library.rate library.songs uris))) (on_list asked read (λ uris. shows asked (info_lines tag_names library.rate library.songs uris)))
  list-less (read_variant.List uris) = answers asked set _ _ _ (infos-less set is library uris)
  list-less (read_variant.Refused fault) = refused-same asked set fault
  list-less _ = (refl, refl)

pub database_less : (asked : Asked) (part : Part) (library : Library) (read : Read) (it : DatabaseCommand) → IsTagSet asked.tags
    → AreShownLess asked asked.tags (database_shown library read it) (database_result asked part library read it) (database_result (unchosen asked) part library read it)
unfolding database_result list_texts
database_less asked part library read (database.Find selection) is = selection-less asked library is Heeded selection selection.criteria
database_less asked part library read (database.ListAllInfo uri) is = under-less asked library is (uri_or_all uri) (song_of library.songs (uri_or_all uri))
database_less asked part library read (database.LsInfo uri everyday) is = info-shown asked library is read (uri_or_all uri) everyday
database_less asked part library read (database.Search selection) is = selection-less asked library is Ignored selection selection.criteria
database_less asked part library read _ is = refl

pub playlists_less : (asked : Asked) (part : Part) (library : Library) (read : Read) (it : PlaylistCommand) → IsTagSet asked.tags
    → AreShownLess asked asked.tags (playlists_shown library read it) (playlists_result asked part library read it) (playlists_result (unchosen asked) part library read it)
unfolding playlists_result
playlists_less asked part library read (playlists.ListPlaylistInfo name) is =
    let tags : List TagName = asked.tags in
    where-test asked tags (is_list_name name) (list_shown library read) Refusal
    (on_list asked read (λ uris. shows asked (info_lines tags library.rate library.songs uris))) (bad_name asked name)
    (on_list asked read (λ uris. shows asked (info_lines tag_names library.rate library.songs uris))) (bad_name asked name)
    (list-less asked library is read) (refl, refl)
playlists_less asked part library read _ is = refl

pub status_less : (asked : Asked) (part : Part) (library : Library) (it : StatusCommand) → IsTagSet asked.tags
    → AreShownLess asked asked.tags (status_shown part library it) (status_result asked part library it) (status_result (unchosen asked) part library it)
unfolding status_result
status_less asked part library status.CurrentSong is =
    answers asked asked.tags _ _ _ (lines-at asked.tags is part library (current_position part))
status_less asked part library _ is = refl
