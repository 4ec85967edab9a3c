-- Stored playlists that are saved, shown, loaded, moved and edited.
use Rattle.std.proofs.Common.{◌≡◌, ◌≢◌, ◌∙◌, ℕ, ◌+◌, ◌-◌, ◌≤◌, Bool, true, false, cond, not, List, [], ◌∷◌, ◌++◌, map, length, Option, Some, None, is_some, refl, sym, ap, subst, codes, arith}
use Rattle.std.specs.Prelude.{◌==◌, nat_lt, All}
use Rattle.std.specs.List.{cons_option, filter_map, slice_range}
use Rattle.std.proofs.lemmas.Bool.Decides.{nat_tests}
use Rattle.std.proofs.lemmas.List.Elements.{All-head, All-tail}
use Rattle.std.proofs.lemmas.List.{take_all}
use Rattle.mpd_text.specs.Songs.Song.{SongData}
use Rattle.mpd_text.specs.declared.answers.answer.ErrorNumber.TheVariants.{NoExist, PlaylistMax}
use Rattle.command_arguments.specs.declared.forms.Uri.{Uri}
use Rattle.song_db.specs.Library.{song_of}
use Rattle.song_queue.specs.declared.entry.Entry.{Entry}
use Rattle.song_queue.specs.State.{queue_of}
use Rattle.shelf.specs.Maps.{Maps, is_list_name, no_stickers, refusal_of_create, refusal_of_put, with_list, with_stickers}
use Rattle.shelf.specs.declared.faults.ShelfFault.TheVariants.{BadName, Exists, NoSuchList}
use Rattle.shelf.specs.declared.kinds.StickerKind.TheVariants.{Playlist as OfPlaylist}
use Rattle.shelf_contents.specs.Edits.{loaded, uris_in as uris_of_entries}
use Rattle.shelf_contents.specs.Shown.{uri_lines}
use Rattle.player_state.specs.declared.state.Library.{Library}
use Rattle.player_state.specs.declared.state.Part.{Part}
use Rattle.transitions.specs.CommandResults.{bad_name, refusal, shows, writes}
use Rattle.transitions.specs.Shelves.{AskStickers, IsRead, NoQuestion}
use Rattle.transitions.specs.Transitions.{CommandResult}
use Rattle.transitions.specs.declared.asked.Asked.{Asked}
use Rattle.transitions.specs.declared.shelf_calls.Read.{Read}
use Rattle.transitions.specs.declared.shelf_calls.Read.TheVariants as reads
use Rattle.transitions.specs.declared.shelf_calls.ShelfWrite.TheVariants.{Create, Put, Remove, Rename as RenameList}
use Rattle.queue_commands.specs.Queue.{add_songs}
use Rattle.mpd_command.specs.declared.playlists.PlaylistCommand.TheVariants.{ListPlaylist, Load, PlaylistAdd, PlaylistClear, Rename, Rm, Save}
use Rattle.library_commands.specs.Playlists.{append_song_or_folder, put_with, question_of, result_of}
use Rattle.library_laws.specs.Added.{HasRoom, IsAdded, entries_in, songs_in}
use Rattle.library_laws.specs.Playlists.{AreThere, DropsList, ListsAreCleared, ListsAreRemoved, ListsAreRenamed, ListsAreShown, MovesList, QueuesAreSaved, SavedAreLoaded, SetsList, SongsAreAddedToLists, asks, lines_of, uris_in, uris_or_none}
use Rattle.library_laws.specs.Shelves.{Gives, Leaves, never}
use Rattle.library_laws.proofs.Insertion.{adds-songs}
use Rattle.library_laws.proofs.OneEntry.{stickers-here, stickers-target, updated-here, updated-other}
use Rattle.library_laws.proofs.Shelved.{asked-list, asked-missing, list-there, read-stickers, writes-done}

-- a name that is one's
pub by-name : (asked : Asked) (name : List ℕ) (result : CommandResult) → is_list_name name ≡ true → cond (is_list_name name) result (bad_name asked name) ≡ result
by-name asked name result named = ap (λ b. cond b result (bad_name asked name)) named

pub put-granted : (name : List ℕ) → is_list_name name ≡ true → refusal_of_put name ≡ None
put-granted name named = ap (λ b. cond b None (Some BadName)) named

create-granted : (maps : Maps) (name : List ℕ) → is_list_name name ≡ true → maps.lists name ≡ None → refusal_of_create maps name ≡ None
create-granted maps name named free = ap (λ (o : Option (List (List ℕ))). cond (is_some o) (Some Exists) (refusal_of_put name)) free ∙ put-granted name named

pub sets-list : (maps : Maps) (name : List ℕ) (uris : Option (List (List ℕ))) → SetsList name uris maps (with_list maps name uris)
sets-list maps name uris = record {
  here = updated-here maps.lists name uris;
  others = λ other apart. updated-other maps.lists name other uris apart;
  stickers = λ kind target sticker. refl;
}

uris-same : (entries : List Entry) → uris_of_entries entries ≡ map (λ (song : SongData). song.uri) (map (λ (entry : Entry). entry.song) entries)
uris-same [] = refl
uris-same (entry ∷ entries) = ap (λ (rest : List (List ℕ)). entry.song.uri ∷ rest) (uris-same entries)

-- save
saves : (asked : Asked) (part : Part) (library : Library) (maps : Maps) (name : List ℕ) (AreSo : Maps → Type 0) → is_list_name name ≡ true → maps.lists name ≡ None → AreSo (with_list maps name (Some (uris_in part)))
    → Leaves maps (asks asked part library (Save name)) AreSo
unfolding result_of
saves asked part library maps name AreSo named free left read h =
    writes-done asked maps AreSo (Create name (uris_in part)) (result_of asked part library read (Save name))
    (by-name asked name (writes asked (Create name (uris_of_entries (queue_of part.queue)))) named ∙ ap (λ (uris : List (List ℕ)). writes asked (Create name uris)) (uris-same (queue_of part.queue)))
    (create-granted maps name named free)
    left

pub queues_are_saved : QueuesAreSaved
queues_are_saved asked part library maps name named free =
    saves asked part library maps name (SetsList name (Some (uris_in part)) maps) named free (sets-list maps name (Some (uris_in part)))

-- listplaylist
shows-list : (asked : Asked) (part : Part) (library : Library) (maps : Maps) (name : List ℕ) (uris : List (List ℕ)) → is_list_name name ≡ true → maps.lists name ≡ Some uris
    → Gives maps (asks asked part library (ListPlaylist name)) (λ result. result ≡ shows asked (lines_of uris))
unfolding result_of
shows-list asked part library maps name uris named there read h =
    ap (λ (r : Read). result_of asked part library r (ListPlaylist name)) (asked-list maps name uris read named there h)
    ∙ by-name asked name (shows asked (uri_lines uris)) named

pub lists_are_shown : ListsAreShown
unfolding result_of
lists_are_shown = record {
  shown = shows-list;
  missing = λ asked part library maps name named free read h.
      ap (λ (r : Read). result_of asked part library r (ListPlaylist name)) (asked-missing maps name read named free h)
      ∙ by-name asked name (refusal asked NoExist (codes "no such playlist")) named;
}

-- load
all-of : (uris : List (List ℕ)) → slice_range uris 0 (length uris) ≡ uris
all-of uris = take_all (length uris - 0) uris (omega arith)

songs-there : (songs found : List SongData) → All (λ (song : SongData). song_of songs song.uri ≡ Some song) found → filter_map (song_of songs) (map (λ (song : SongData). song.uri) found) ≡ found
songs-there songs [] h = refl
songs-there songs (song ∷ found) h =
    let P : SongData → Type 0 = λ it. song_of songs it.uri ≡ Some it in
    ap (λ (o : Option SongData). cons_option o (filter_map (song_of songs) (map (λ (it : SongData). it.uri) found))) (All-head P song found h)
    ∙ ap (λ (rest : List SongData). song ∷ rest) (songs-there songs found (All-tail P song found h))

loads : (asked : Asked) (part : Part) (library : Library) (maps : Maps) (name : List ℕ) (uris : List (List ℕ)) (read : Read) → is_list_name name ≡ true → maps.lists name ≡ Some uris → IsRead never maps (question_of (Load name None None)) read
    → result_of asked part library read (Load name None None) ≡ add_songs asked part (filter_map (song_of library.songs) uris) None
unfolding result_of
loads asked part library maps name uris read named there h =
    ap (λ (r : Read). result_of asked part library r (Load name None None)) (asked-list maps name uris read named there h)
    ∙ by-name asked name (add_songs asked part (loaded library.songs uris 0 (length uris)) None) named
    ∙ ap (λ (them : List (List ℕ)). add_songs asked part (filter_map (song_of library.songs) them) None) (all-of uris)

pub saved_are_loaded : SavedAreLoaded
saved_are_loaded = record {
  shown = λ asked part library maps name named free.
      let after : Maps = with_list maps name (Some (uris_in part)) in
      saves asked part library maps name (λ after. (client : Asked) (other : Part) (now : Library) → Gives after (asks client other now (ListPlaylist name)) (λ result. result ≡ shows client (lines_of (uris_in part)))) named free
      (λ client other now. shows-list client other now after name (uris_in part) named (updated-here maps.lists name (Some (uris_in part))));
  loaded = λ asked part library maps name named free.
      let after : Maps = with_list maps name (Some (uris_in part)) in
      saves asked part library maps name (λ after. (client : Asked) (other : Part) (now : Library) → AreThere now (songs_in part) → HasRoom other (length (songs_in part)) → Gives after (asks client other now (Load name None None)) (IsAdded client other (length (entries_in other)) (songs_in part))) named free
      (λ client other now there room read h.
      subst (λ (r : CommandResult). IsAdded client other (length (entries_in other)) (songs_in part) r)
      (sym (loads client other now after name (uris_in part) read named (updated-here maps.lists name (Some (uris_in part))) h
      ∙ ap (λ (songs : List SongData). add_songs client other songs None) (songs-there now.songs (songs_in part) there)))
      (adds-songs client other None (length (entries_in other)) (songs_in part) refl room));
}

-- rename
asked-stickers : (maps : Maps) (name : List ℕ) (uris : List (List ℕ)) (read : Read) → is_list_name name ≡ true → maps.lists name ≡ Some uris → IsRead never maps (cond (is_list_name name) (AskStickers OfPlaylist name) NoQuestion) read
    → (entries : List (List ℕ × List ℕ)) × (read ≡ reads.Entries entries)
asked-stickers maps name uris read named there h =
    read-stickers maps OfPlaylist name read (list-there maps name uris there) (subst (λ b. IsRead never maps (cond b (AskStickers OfPlaylist name) NoQuestion) read) named h)

apart-names : (maps : Maps) (name new : List ℕ) (uris : List (List ℕ)) → maps.lists name ≡ Some uris → maps.lists new ≡ None → new ≢ name
apart-names maps name new uris there free e = absurd (cc (ap maps.lists e))

moves-list : (maps : Maps) (name new : List ℕ) → (new ≢ name) → MovesList name new maps (with_stickers (with_stickers (with_list (with_list maps name None) new (maps.lists name)) OfPlaylist name no_stickers) OfPlaylist new (maps.stickers OfPlaylist name))
moves-list maps name new apart =
    let without : Maps = with_list maps name None in
    let listed : Maps = with_list without new (maps.lists name) in
    let bare : Maps = with_stickers listed OfPlaylist name no_stickers in
    let own : List ℕ → Option (List ℕ) = maps.stickers OfPlaylist name in
    record {
      here = updated-here without.lists new (maps.lists name);
      gone = updated-other without.lists new name (maps.lists name) (λ e. apart (sym e)) ∙ updated-here maps.lists name None;
      others = λ other one two. updated-other without.lists new other (maps.lists name) two ∙ updated-other maps.lists name other None one;
      stickers = λ sticker. stickers-here bare OfPlaylist new own sticker;
      none_left = λ sticker. stickers-target bare OfPlaylist OfPlaylist new name own sticker (λ e. apart (sym e)) ∙ stickers-here listed OfPlaylist name no_stickers sticker;
      other_stickers = λ other sticker one two. stickers-target bare OfPlaylist OfPlaylist new other own sticker two ∙ stickers-target listed OfPlaylist OfPlaylist name other no_stickers sticker one;
      songs = λ uri sticker. refl;
    }

pub lists_are_renamed : ListsAreRenamed
unfolding result_of
lists_are_renamed asked part library maps name new uris named news there free read h =
    let asks-it : IsRead never maps (cond (is_list_name name) (AskStickers OfPlaylist name) NoQuestion) read
    = subst (λ b. IsRead never maps (cond b (cond (is_list_name name) (AskStickers OfPlaylist name) NoQuestion) NoQuestion) read) news h in
    let got = asked-stickers maps name uris read named there asks-it in
    let has : Bool = not (length got.0 == 0) in
    writes-done asked maps (MovesList name new maps) (RenameList name new has) (result_of asked part library read (Rename name new))
    (ap (λ (r : Read). result_of asked part library r (Rename name new)) got.1
    ∙ by-name asked name (cond (is_list_name new) (writes asked (RenameList name new has)) (bad_name asked new)) named
    ∙ by-name asked new (writes asked (RenameList name new has)) news)
    (ap (λ (o : Option (List (List ℕ))). cond (is_some o) (refusal_of_create maps new) (Some NoSuchList)) there ∙ create-granted maps new news free)
    (moves-list maps name new (apart-names maps name new uris there free))

-- rm
pub lists_are_removed : ListsAreRemoved
unfolding result_of
lists_are_removed asked part library maps name uris named there read h =
    let got = asked-stickers maps name uris read named there h in
    let has : Bool = not (length got.0 == 0) in
    let without : Maps = with_list maps name None in
    writes-done asked maps (DropsList name maps) (Remove name has) (result_of asked part library read (Rm name))
    (ap (λ (r : Read). result_of asked part library r (Rm name)) got.1 ∙ by-name asked name (writes asked (Remove name has)) named)
    (list-there maps name uris there)
    (record {
      gone = updated-here maps.lists name None;
      others = λ other apart. updated-other maps.lists name other None apart;
      none_left = λ sticker. stickers-here without OfPlaylist name no_stickers sticker;
      other_stickers = λ other sticker apart. stickers-target without OfPlaylist OfPlaylist name other no_stickers sticker apart;
      songs = λ uri sticker. refl;
    })

-- playlistclear
pub lists_are_cleared : ListsAreCleared
unfolding result_of
lists_are_cleared asked part library maps name uris named there read h =
    let changes : Bool = not (length uris == 0) in
    writes-done asked maps (SetsList name (Some []) maps) (Put name [] changes) (result_of asked part library read (PlaylistClear name))
    (ap (λ (r : Read). result_of asked part library r (PlaylistClear name)) (asked-list maps name uris read named there h) ∙ by-name asked name (writes asked (Put name [] changes)) named)
    (put-granted name named)
    (sets-list maps name (Some []))

-- playlistadd
has-room : (uris : List (List ℕ)) → length uris + 1 ≤ 16384 → nat_lt 16384 (length uris + 1) ≡ false
has-room uris h = grind (arith, nat_tests)

puts : (asked : Asked) (name : List ℕ) (uris : List (List ℕ)) (song : SongData) (changes : Bool) → length uris + 1 ≤ 16384 → put_with asked name uris (song ∷ []) changes ≡ writes asked (Put name (uris ++ song.uri ∷ []) changes)
puts asked name uris song changes h = ap (λ b. cond b (refusal asked PlaylistMax (codes "playlist is full")) (writes asked (Put name (uris ++ song.uri ∷ []) changes))) (has-room uris h)

adds-to : (asked : Asked) (part : Part) (library : Library) (maps : Maps) (name : List ℕ) (uri : Uri) (song : SongData) (old : Option (List (List ℕ))) → maps.lists name ≡ old → is_list_name name ≡ true → song_of library.songs uri.0 ≡ Some song → length (uris_or_none old) + 1 ≤ 16384
    → Leaves maps (asks asked part library (PlaylistAdd name uri)) (SetsList name (Some (uris_or_none old ++ song.uri ∷ [])) maps)
unfolding result_of
adds-to asked part library maps name uri song (Some uris) there named found room read h =
    writes-done asked maps (SetsList name (Some (uris ++ song.uri ∷ [])) maps) (Put name (uris ++ song.uri ∷ []) true) (result_of asked part library read (PlaylistAdd name uri))
    (ap (λ (r : Read). result_of asked part library r (PlaylistAdd name uri)) (asked-list maps name uris read named there h)
    ∙ by-name asked name (append_song_or_folder asked library (reads.List uris) name uri.0 (song_of library.songs uri.0)) named
    ∙ ap (append_song_or_folder asked library (reads.List uris) name uri.0) found
    ∙ puts asked name uris song true room)
    (put-granted name named)
    (sets-list maps name (Some (uris ++ song.uri ∷ [])))
adds-to asked part library maps name uri song None free named found room read h =
    writes-done asked maps (SetsList name (Some (song.uri ∷ [])) maps) (Put name (song.uri ∷ []) true) (result_of asked part library read (PlaylistAdd name uri))
    (ap (λ (r : Read). result_of asked part library r (PlaylistAdd name uri)) (asked-missing maps name read named free h)
    ∙ by-name asked name (append_song_or_folder asked library (reads.Refused NoSuchList) name uri.0 (song_of library.songs uri.0)) named
    ∙ ap (append_song_or_folder asked library (reads.Refused NoSuchList) name uri.0) found
    ∙ puts asked name [] song true room)
    (put-granted name named)
    (sets-list maps name (Some (song.uri ∷ [])))

pub songs_are_added_to_lists : SongsAreAddedToLists
songs_are_added_to_lists asked part library maps name uri song named found room = adds-to asked part library maps name uri song (maps.lists name) refl named found room
