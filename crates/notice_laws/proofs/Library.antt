-- What is asked of the library is the same where its songs are.
use Rattle.std.proofs.Common.{◌≡◌, ℕ, Bool, true, false, List, [], ◌∷◌, Option, Some, None, refl, ap, ◌∙◌, if◌then◌else◌}
use Rattle.filters.specs.declared.matching.Case.{Case}
use Rattle.filters.specs.declared.matching.Case.TheVariants.{Heeded, Ignored}
use Rattle.command_arguments.specs.declared.criteria.Criteria.{Criteria}
use Rattle.command_arguments.specs.declared.criteria.Criteria.TheVariants.{Meeting, Refused}
use Rattle.known_tags.specs.declared.known_tag.KnownTag.{KnownTag}
use Rattle.selections.specs.declared.asked.Selection.{Selection}
use Rattle.idle_notes.specs.declared.subsystem.Subsystem.TheVariants.{Database}
use Rattle.mpd_text.specs.Songs.Song.{SongData}
use Rattle.song_db.specs.Library.{song_of}
use Rattle.player_state.specs.Libraries.{library_after}
use Rattle.player_state.specs.declared.scan.ScanMove.{ScanMove}
use Rattle.player_state.specs.declared.state.Library.{Library}
use Rattle.player_state.specs.declared.state.Part.{Part}
use Rattle.transitions.specs.declared.asked.Asked.{Asked}
use Rattle.transitions.specs.declared.shelf_calls.Read.{Read}
use Rattle.transitions.specs.declared.shelf_calls.Read.TheVariants as answer
use Rattle.mpd_command.specs.declared.database.DatabaseCommand.{DatabaseCommand}
use Rattle.mpd_command.specs.declared.database.DatabaseCommand.TheVariants as database
use Rattle.mpd_command.specs.declared.playlists.PlaylistCommand.TheVariants as playlists
use Rattle.mpd_command.specs.declared.sticker.Comparison.{Comparison}
use Rattle.mpd_command.specs.declared.sticker.StickerCommand.{StickerCommand}
use Rattle.mpd_command.specs.declared.sticker.StickerCommand.TheVariants as stickers
use Rattle.mpd_command.specs.declared.sticker.Target.TheVariants as target
use Rattle.library_commands.specs.Database.{count_met, find_met, list_all, list_info, list_met, list_path, list_root, list_song_or_folder, list_song_or_folder_info, list_texts, show_song_or_folder, shows_playlists, uri_or_all, result_of as database_result}
use Rattle.library_commands.specs.Playlists.{result_of as playlists_result}
use Rattle.library_commands.specs.Stickers.{is_song_or_folder, named_sticker, show_found, result_of as stickers_result}
use Rattle.transitions.specs.CommandResults.{no_such_song}
use Rattle.transitions.specs.Transitions.{CommandResult}
use Rattle.notice_laws.specs.ClientSteps.{HearsOfNone, IsUntold, ClientStep, Stays, library_of}
use Rattle.notice_laws.specs.Tellers.{database_tellers, sticker_tellers}
use Rattle.notice_laws.specs.Told.{DatabaseIsTold, PlaylistsAreTold, StickersAreTold}
use Rattle.notice_laws.proofs.Unheard.{songs_kept}

-- two libraries with the same songs, at the same rate
module _ (asked : Asked) (l : Library) (scan : ScanMove) where
  abbrev m : Library
  m = record (library_after l scan) { songs = l.songs }

  same_count : (group : Option KnownTag) (w : Option Criteria) → count_met asked l group w ≡ count_met asked m group w
  same_count group None = refl
  same_count group (Some (Meeting e)) = refl
  same_count group (Some (Refused text)) = refl

  same_find : (case : Case) (selection : Selection) (w : Criteria) → find_met asked l case selection w ≡ find_met asked m case selection w
  same_find case selection (Meeting e) = refl
  same_find case selection (Refused text) = refl

  same_list : (tags : List KnownTag) (w : Option Criteria) → list_met asked l tags w ≡ list_met asked m tags w
  unfolding list_texts
  same_list tags None = refl
  same_list tags (Some (Meeting e)) = refl
  same_list tags (Some (Refused text)) = refl

  same_uris : (o : Option SongData) (uri : List ℕ) → list_song_or_folder asked l o uri ≡ list_song_or_folder asked m o uri
  same_uris None uri = refl
  same_uris (Some song) uri = refl

  same_all : (uri : List ℕ) (everyday : Bool) → list_all asked l uri everyday ≡ list_all asked m uri everyday
  same_all uri true = same_uris (song_of l.songs uri) uri
  same_all uri false = refl

  same_all_info : (o : Option SongData) (uri : List ℕ) → list_song_or_folder_info asked l o uri ≡ list_song_or_folder_info asked m o uri
  same_all_info None uri = refl
  same_all_info (Some song) uri = refl

  same_song_or_folder : (o : Option SongData) (uri : List ℕ) → show_song_or_folder asked l o uri ≡ show_song_or_folder asked m o uri
  same_song_or_folder None uri = refl
  same_song_or_folder (Some song) uri = refl

  same_root : (read : Read) → list_root asked l read ≡ list_root asked m read
  same_root (answer.Names names) = refl
  same_root (answer.Refused fault) = refl
  same_root _ = refl

  same_info : (read : Read) (uri : List ℕ) (everyday : Bool) → list_info asked l read uri everyday ≡ list_info asked m read uri everyday
  same_info read uri everyday =
      elim (shows_playlists uri everyday) as (λ b. (if b then list_root asked l read else list_path asked l uri) ≡ (if b then list_root asked m read else list_path asked m uri))
      [ true ↦ same_root read | false ↦ same_song_or_folder (song_of l.songs uri) uri ]

  same_database : (p : ClientStep) (a b : Part) (read : Read) (it : DatabaseCommand) → IsUntold p (database_tellers it)
      → database_result asked a l read it ≡ database_result asked b m read it
  unfolding database_result
  same_database p a b read (database.AlbumArt uri offset) h = refl
  same_database p a b read (database.Count counting) h = same_count counting.group counting.criteria
  same_database p a b read (database.Find selection) h = same_find Heeded selection selection.criteria
  same_database p a b read (database.List grouping) h = same_list grouping.tags grouping.criteria
  same_database p a b read (database.ListAll uri everyday) h = same_all (uri_or_all uri) everyday
  same_database p a b read (database.ListAllInfo uri) h = same_all_info (song_of l.songs (uri_or_all uri)) (uri_or_all uri)
  same_database p a b read (database.LsInfo uri everyday) h = same_info read (uri_or_all uri) everyday
  same_database p a b read (database.ReadComments uri) h = refl
  same_database p a b read (database.ReadPicture uri offset) h = refl
  same_database p a b read (database.Search selection) h = same_find Ignored selection selection.criteria
  same_database p a b read _ h = absurd h

  same_met : (read : Read) (uri name : List ℕ) (test : Option Comparison) → show_found asked l read uri name test ≡ show_found asked m read uri name test
  same_met (answer.Entries entries) uri name test = refl
  same_met (answer.Refused fault) uri name test = refl
  same_met _ uri name test = refl

  same_stickers : (p : ClientStep) (read : Read) (it : StickerCommand) → IsUntold p (sticker_tellers it) → stickers_result asked l read it ≡ stickers_result asked m read it
  same_stickers p read (stickers.Get (target.Song uri) name) h = refl
  same_stickers p read (stickers.Get (target.Playlist list) name) h = refl
  same_stickers p read (stickers.List (target.Song uri)) h = refl
  same_stickers p read (stickers.List (target.Playlist list)) h = refl
  same_stickers p read (stickers.Find (target.Song uri) name test) h =
      ap (λ (r : CommandResult). if is_song_or_folder l uri.0 then named_sticker asked name r else no_such_song asked) (same_met read uri.0 name test)
  same_stickers p read (stickers.Find (target.Playlist list) name test) h = refl
  same_stickers p read _ h = absurd h

-- a subsystem of the library is heard of by each of its commands
tells_database : (p : ClientStep) (it : DatabaseCommand) → IsUntold p (database_tellers it) → HearsOfNone p (Database ∷ [])
tells_database p (database.AlbumArt other offset) h = h
tells_database p (database.Count counting) h = h
tells_database p (database.Find selection) h = h
tells_database p (database.List grouping) h = h
tells_database p (database.ListAll other everyday) h = h
tells_database p (database.ListAllInfo other) h = h
tells_database p (database.LsInfo other everyday) h = h
tells_database p (database.ReadComments other) h = h
tells_database p (database.ReadPicture other offset) h = h
tells_database p (database.Search selection) h = h
tells_database p _ h = absurd h

pub database_is_told : DatabaseIsTold
database_is_told p asked read it stays h =
    let songs : p.library.songs ≡ (library_of p).songs = songs_kept p stays (tells_database p it h).0 in
    same_database asked p.library p.scan p p.own p.later read it h
    ∙ (λ i. database_result asked p.later (record (library_of p) { songs = songs i }) read it)

pub playlists_are_told : PlaylistsAreTold
unfolding playlists_result
playlists_are_told p asked read (playlists.ListPlaylist name) stays h = refl
playlists_are_told p asked read (playlists.ListPlaylistInfo name) stays h =
    let songs : p.library.songs ≡ (library_of p).songs = songs_kept p stays h.0 in
    λ i. playlists_result asked p.own (record p.library { songs = songs i }) read (playlists.ListPlaylistInfo name)
playlists_are_told p asked read playlists.ListPlaylists stays h = refl
playlists_are_told p asked read _ stays h = absurd h

by_songs : (p : ClientStep) (asked : Asked) (read : Read) (it : StickerCommand) → Stays p → IsUntold p (sticker_tellers it) → HearsOfNone p (Database ∷ [])
    → stickers_result asked p.library read it ≡ stickers_result asked (library_of p) read it
by_songs p asked read it stays h none =
    let songs : p.library.songs ≡ (library_of p).songs = songs_kept p stays none.0 in
    same_stickers asked p.library p.scan p read it h ∙ (λ i. stickers_result asked (record (library_of p) { songs = songs i }) read it)

pub stickers_are_told : StickersAreTold
stickers_are_told p asked read (stickers.Get (target.Song uri) name) stays h = by_songs p asked read (stickers.Get (target.Song uri) name) stays h h
stickers_are_told p asked read (stickers.Get (target.Playlist list) name) stays h = refl
stickers_are_told p asked read (stickers.List (target.Song uri)) stays h = by_songs p asked read (stickers.List (target.Song uri)) stays h h
stickers_are_told p asked read (stickers.List (target.Playlist list)) stays h = refl
stickers_are_told p asked read (stickers.Find (target.Song uri) name test) stays h = by_songs p asked read (stickers.Find (target.Song uri) name test) stays h h
stickers_are_told p asked read (stickers.Find (target.Playlist list) name test) stays h = refl
stickers_are_told p asked read _ stays h = absurd h
