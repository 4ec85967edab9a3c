-- Stickers that are set, shown and taken away.
use Rattle.std.proofs.Common.{◌≡◌, ◌∙◌, ℕ, Bool, true, false, cond, ◌&&◌, not, List, Option, Some, None, is_some, refl, ap, subst, codes}
use Rattle.std.specs.Map.{update}
use Rattle.std.specs.Str.{bytes_eq}
use Rattle.mpd_text.specs.Songs.Song.{SongData}
use Rattle.mpd_text.specs.declared.answers.answer.ErrorNumber.TheVariants.{NoExist}
use Rattle.song_db.specs.Library.{song_of}
use Rattle.shelf.specs.Maps.{Maps, first_of, is_list_name, is_sticker_name, refusal_of_set, refusal_of_target, with_sticker}
use Rattle.shelf.specs.declared.faults.ShelfFault.TheVariants.{BadName, NoSticker}
use Rattle.shelf.specs.declared.kinds.StickerKind.{StickerKind}
use Rattle.shelf.specs.declared.kinds.StickerKind.TheVariants.{Song as OfSong, Playlist as OfPlaylist}
use Rattle.player_state.specs.declared.state.Library.{Library}
use Rattle.transitions.specs.CommandResults.{bad_name, no_such_song, refusal, shows, writes}
use Rattle.transitions.specs.Shelves.{AskSticker, IsRead, NoQuestion, Question}
use Rattle.transitions.specs.Transitions.{CommandResult}
use Rattle.transitions.specs.declared.asked.Asked.{Asked}
use Rattle.transitions.specs.declared.shelf_calls.Read.{Read}
use Rattle.transitions.specs.declared.shelf_calls.Read.TheVariants as reads
use Rattle.transitions.specs.declared.shelf_calls.ShelfWrite.TheVariants.{DeleteSticker, SetSticker}
use Rattle.mpd_command.specs.declared.sticker.StickerCommand.TheVariants.{Get, Set, Delete}
use Rattle.mpd_command.specs.declared.sticker.Target.{Target}
use Rattle.mpd_command.specs.declared.sticker.Target.TheVariants.{Song, Playlist}
use Rattle.library_commands.specs.Stickers.{first_refusal, is_missing, question_of, result_of, set_value, show_value, unless_refused}
use Rattle.library_commands.specs.declared.playlist_stickers.Refusal.{Refusal}
use Rattle.library_commands.specs.declared.playlist_stickers.Refusal.TheVariants.{ListName, NoList, StickerName}
use Rattle.library_laws.specs.Shelves.{Gives, IsDone, Leaves, never}
use Rattle.library_laws.specs.Stickers.{IsThere, SetsSticker, StickersAreAsSet, StickersAreSet, StickersAreShown, asks, key_of, kind_of, line_of}
use Rattle.library_laws.proofs.OneEntry.{sticker-other, stickers-here, updated-here}
use Rattle.library_laws.proofs.Shelved.{list-there, read-no-value, read-value, value-there, writes-done}

-- what can have stickers is there
there-for : (library : Library) (maps : Maps) (target : Target) → IsThere library maps target → refusal_of_target maps (kind_of target) (key_of target) ≡ None
there-for library maps (Song uri) there = refl
there-for library maps (Playlist list) there = list-there maps list there.0 there.2

both-true : (a b : Bool) → a ≡ true → b ≡ true → (a && b) ≡ true
both-true true b e f = f
both-true false b e f = e

-- the command asks for the sticker
asks-get : (library : Library) (maps : Maps) (target : Target) (name : List ℕ) → IsThere library maps target → is_sticker_name name ≡ true → question_of library (Get target name) ≡ AskSticker (kind_of target) (key_of target) name
asks-get library maps (Song uri) name there named =
    ap (λ b. cond b (AskSticker OfSong uri.0 name) NoQuestion) (both-true (is_some (song_of library.songs uri.0)) (is_sticker_name name) (ap (is_some {T = SongData}) there.1) named)
asks-get library maps (Playlist list) name there named = ap (λ b. cond b (AskSticker OfPlaylist list name) NoQuestion) there.1

asks-set : (library : Library) (maps : Maps) (target : Target) (name value : List ℕ) → IsThere library maps target → is_sticker_name name ≡ true → question_of library (Set target name value) ≡ AskSticker (kind_of target) (key_of target) name
asks-set library maps (Song uri) name value there named = asks-get library maps (Song uri) name there named
asks-set library maps (Playlist list) name value there named = asks-get library maps (Playlist list) name there named

-- and is answered by it
song-answers : (asked : Asked) (library : Library) (maps : Maps) (target : List ℕ) (song : SongData) (name : List ℕ) (result : CommandResult) → song_of library.songs target ≡ Some song → is_sticker_name name ≡ true
    → cond (is_some (song_of library.songs target)) (cond (is_sticker_name name) result (bad_name asked name)) (no_such_song asked) ≡ result
song-answers asked library maps target song name result there named =
    ap (λ (o : Option SongData). cond (is_some o) (cond (is_sticker_name name) result (bad_name asked name)) (no_such_song asked)) there
    ∙ ap (λ b. cond b result (bad_name asked name)) named

none-refuses : (read : Read) (list name : List ℕ) → is_list_name list ≡ true → is_missing read ≡ false → is_sticker_name name ≡ true → first_refusal read list name ≡ None
none-refuses read list name a b c =
    ap (λ t. cond (not t) (Some ListName) (cond (is_missing read) (Some NoList) (cond (not (is_sticker_name name)) (Some StickerName) None))) a
    ∙ ap (λ t. cond t (Some NoList) (cond (not (is_sticker_name name)) (Some StickerName) None)) b
    ∙ ap (λ t. cond (not t) (Some StickerName) None) c

list-answers : (asked : Asked) (read : Read) (list name : List ℕ) (result : CommandResult) → is_list_name list ≡ true → is_missing read ≡ false → is_sticker_name name ≡ true → unless_refused asked list name (first_refusal read list name) result ≡ result
list-answers asked read list name result a b c = ap (λ (o : Option Refusal). unless_refused asked list name o result) (none-refuses read list name a b c)

gets : (asked : Asked) (library : Library) (maps : Maps) (target : Target) (name : List ℕ) (read : Read) → IsThere library maps target → is_sticker_name name ≡ true → is_missing read ≡ false
    → result_of asked library read (Get target name) ≡ show_value asked read name
gets asked library maps (Song uri) name read there named known = song-answers asked library maps uri.0 there.0 name (show_value asked read name) there.1 named
gets asked library maps (Playlist list) name read there named known = list-answers asked read list name (show_value asked read name) there.1 known named

sets : (asked : Asked) (library : Library) (maps : Maps) (target : Target) (name value : List ℕ) (read : Read) → IsThere library maps target → is_sticker_name name ≡ true → is_missing read ≡ false
    → result_of asked library read (Set target name value) ≡ set_value asked read (kind_of target) (key_of target) name value
sets asked library maps (Song uri) name value read there named known = song-answers asked library maps uri.0 there.0 name (set_value asked read OfSong uri.0 name value) there.1 named
sets asked library maps (Playlist list) name value read there named known = list-answers asked read list name (set_value asked read OfPlaylist list name value) there.1 known named

-- get
shows-value : (asked : Asked) (library : Library) (maps : Maps) (target : Target) (name value : List ℕ) → IsThere library maps target → is_sticker_name name ≡ true → maps.stickers (kind_of target) (key_of target) name ≡ Some value
    → Gives maps (asks asked library (Get target name)) (λ result. result ≡ shows asked (line_of name value))
shows-value asked library maps target name value there named has read h =
    let got : read ≡ reads.Value value = read-value maps (kind_of target) (key_of target) name value read (there-for library maps target there) has (subst (λ (q : Question). IsRead never maps q read) (asks-get library maps target name there named) h) in
    ap (λ (r : Read). result_of asked library r (Get target name)) got ∙ gets asked library maps target name (reads.Value value) there named refl

shows-none : (asked : Asked) (library : Library) (maps : Maps) (target : Target) (name : List ℕ) → IsThere library maps target → is_sticker_name name ≡ true → maps.stickers (kind_of target) (key_of target) name ≡ None
    → Gives maps (asks asked library (Get target name)) (λ result. result ≡ refusal asked NoExist (codes "no such sticker"))
shows-none asked library maps target name there named has read h =
    let got : read ≡ reads.Refused NoSticker = read-no-value maps (kind_of target) (key_of target) name read (there-for library maps target there) has (subst (λ (q : Question). IsRead never maps q read) (asks-get library maps target name there named) h) in
    ap (λ (r : Read). result_of asked library r (Get target name)) got ∙ gets asked library maps target name (reads.Refused NoSticker) there named refl

pub stickers_are_shown : StickersAreShown
stickers_are_shown = record { shown = shows-value; missing = shows-none }

-- set
sets-sticker : (maps : Maps) (kind : StickerKind) (target name : List ℕ) (value : Option (List ℕ)) → SetsSticker kind target name value maps (with_sticker maps kind target name value)
sets-sticker maps kind target name value = record {
  here = stickers-here maps kind target (update bytes_eq (maps.stickers kind target) name value) name ∙ updated-here (maps.stickers kind target) name value;
  others = λ other_kind other_target other is. sticker-other maps kind other_kind target other_target name other value is;
  lists = λ list. refl;
}

set-granted : (maps : Maps) (kind : StickerKind) (target name : List ℕ) → refusal_of_target maps kind target ≡ None → is_sticker_name name ≡ true → refusal_of_set maps kind target name ≡ None
set-granted maps kind target name there named = λ i. first_of (there i) (cond (named i) None (Some BadName))

set-by : (asked : Asked) (library : Library) (maps : Maps) (target : Target) (name value : List ℕ) (AreSo : Maps → Type 0) (read : Read) (old : Option (List ℕ)) → maps.stickers (kind_of target) (key_of target) name ≡ old → IsThere library maps target → is_sticker_name name ≡ true
    → AreSo (with_sticker maps (kind_of target) (key_of target) name (Some value)) → IsRead never maps (AskSticker (kind_of target) (key_of target) name) read → IsDone maps AreSo (result_of asked library read (Set target name value))
set-by asked library maps target name value AreSo read None old there named left h =
    let kind : StickerKind = kind_of target in
    let key : List ℕ = key_of target in
    let got : read ≡ reads.Refused NoSticker = read-no-value maps kind key name read (there-for library maps target there) old h in
    writes-done asked maps AreSo (SetSticker kind key name value true) (result_of asked library read (Set target name value))
    (ap (λ (r : Read). result_of asked library r (Set target name value)) got ∙ sets asked library maps target name value (reads.Refused NoSticker) there named refl)
    (set-granted maps kind key name (there-for library maps target there) named)
    left
set-by asked library maps target name value AreSo read (Some before) old there named left h =
    let kind : StickerKind = kind_of target in
    let key : List ℕ = key_of target in
    let got : read ≡ reads.Value before = read-value maps kind key name before read (there-for library maps target there) old h in
    writes-done asked maps AreSo (SetSticker kind key name value (not (bytes_eq before value))) (result_of asked library read (Set target name value))
    (ap (λ (r : Read). result_of asked library r (Set target name value)) got ∙ sets asked library maps target name value (reads.Value before) there named refl)
    (set-granted maps kind key name (there-for library maps target there) named)
    left

does-set : (asked : Asked) (library : Library) (maps : Maps) (target : Target) (name value : List ℕ) (AreSo : Maps → Type 0) → IsThere library maps target → is_sticker_name name ≡ true
    → AreSo (with_sticker maps (kind_of target) (key_of target) name (Some value)) → Leaves maps (asks asked library (Set target name value)) AreSo
does-set asked library maps target name value AreSo there named left read h =
    set-by asked library maps target name value AreSo read (maps.stickers (kind_of target) (key_of target) name) refl there named left
    (subst (λ (q : Question). IsRead never maps q read) (asks-set library maps target name value there named) h)

-- delete
does-delete : (asked : Asked) (library : Library) (maps : Maps) (target : Target) (name value : List ℕ) (AreSo : Maps → Type 0) → IsThere library maps target → is_sticker_name name ≡ true → maps.stickers (kind_of target) (key_of target) name ≡ Some value
    → AreSo (with_sticker maps (kind_of target) (key_of target) name None) → Leaves maps (asks asked library (Delete target (Some name))) AreSo
does-delete asked library maps (Song uri) name value AreSo there named has left read h =
    writes-done asked maps AreSo (DeleteSticker OfSong uri.0 name) (result_of asked library read (Delete (Song uri) (Some name)))
    (song-answers asked library maps uri.0 there.0 name (writes asked (DeleteSticker OfSong uri.0 name)) there.1 named)
    (value-there maps OfSong uri.0 name value refl has)
    left
does-delete asked library maps (Playlist list) name value AreSo there named has left read h =
    let known = there-for library maps (Playlist list) there in
    let got : read ≡ reads.Value value = read-value maps OfPlaylist list name value read known has (subst (λ (q : Question). IsRead never maps q read) (asks-get library maps (Playlist list) name there named) h) in
    writes-done asked maps AreSo (DeleteSticker OfPlaylist list name) (result_of asked library read (Delete (Playlist list) (Some name)))
    (ap (λ (r : Read). result_of asked library r (Delete (Playlist list) (Some name))) got ∙ list-answers asked (reads.Value value) list name (writes asked (DeleteSticker OfPlaylist list name)) there.1 refl named)
    (value-there maps OfPlaylist list name value known has)
    left

pub stickers_are_set : StickersAreSet
stickers_are_set = record {
  set = λ asked library maps target name value there named.
      does-set asked library maps target name value (SetsSticker (kind_of target) (key_of target) name (Some value) maps) there named
      (sets-sticker maps (kind_of target) (key_of target) name (Some value));
  deleted = λ asked library maps target name value there named has.
      does-delete asked library maps target name value (SetsSticker (kind_of target) (key_of target) name None maps) there named has
      (sets-sticker maps (kind_of target) (key_of target) name None);
}

-- get after these
still-there : (library : Library) (maps : Maps) (target : Target) (kind : StickerKind) (key name : List ℕ) (value : Option (List ℕ)) → IsThere library maps target → IsThere library (with_sticker maps kind key name value) target
still-there library maps (Song uri) kind key name value there = there
still-there library maps (Playlist list) kind key name value there = there

here : (maps : Maps) (target : Target) (name : List ℕ) (value : Option (List ℕ)) → (with_sticker maps (kind_of target) (key_of target) name value).stickers (kind_of target) (key_of target) name ≡ value
here maps target name value = (sets-sticker maps (kind_of target) (key_of target) name value).here

pub stickers_are_as_set : StickersAreAsSet
stickers_are_as_set = record {
  get_after_set = λ asked library maps target name value there named.
      let after : Maps = with_sticker maps (kind_of target) (key_of target) name (Some value) in
      does-set asked library maps target name value (λ left. (client : Asked) → Gives left (asks client library (Get target name)) (λ result. result ≡ shows client (line_of name value))) there named
      (λ client. shows-value client library after target name value (still-there library maps target (kind_of target) (key_of target) name (Some value) there) named (here maps target name (Some value)));
  get_after_delete = λ asked library maps target name value there named has.
      let after : Maps = with_sticker maps (kind_of target) (key_of target) name None in
      does-delete asked library maps target name value (λ left. (client : Asked) → Gives left (asks client library (Get target name)) (λ result. result ≡ refusal client NoExist (codes "no such sticker"))) there named has
      (λ client. shows-none client library after target name (still-there library maps target (kind_of target) (key_of target) name None there) named (here maps target name None));
}
