-- Stored playlists whose entries are taken out and moved, and that songs join.
use Rattle.std.proofs.Common.{◌≡◌, ◌∙◌, ℕ, suc, ◌+◌, ◌<◌, ◌≤◌, ◌==◌, Bool, true, false, cond, not, ◌&&◌, List, [], ◌∷◌, ◌++◌, map, length, drop, get_or, Option, Some, None, refl, sym, ap, codes, arith, length-append}
use Rattle.std.specs.Prelude.{nat_lt}
use Rattle.std.specs.List.{insert, remove}
use Rattle.std.proofs.lemmas.Bool.Decides.{nat_tests}
use Rattle.std.proofs.lemmas.List.{drop_at, take_at}
use Rattle.mpd_text.specs.Songs.Song.{SongData}
use Rattle.mpd_text.specs.declared.answers.answer.ErrorNumber.TheVariants.{PlaylistMax}
use Rattle.filters.specs.Expressions.{Expression}
use Rattle.filters.specs.declared.matching.Case.TheVariants.{Ignored}
use Rattle.command_arguments.specs.declared.criteria.Criteria.TheVariants.{Meeting}
use Rattle.selections.specs.declared.asked.Selection.{Selection}
use Rattle.shelf.specs.Maps.{Maps, is_list_name}
use Rattle.shelf.specs.declared.faults.ShelfFault.TheVariants.{NoSuchList}
use Rattle.shelf_contents.specs.Edits.{moved}
use Rattle.player_state.specs.declared.state.Library.{Library}
use Rattle.player_state.specs.declared.state.Part.{Part}
use Rattle.transitions.specs.CommandResults.{bad_index, refusal, shows, writes}
use Rattle.transitions.specs.Transitions.{CommandResult}
use Rattle.transitions.specs.declared.asked.Asked.{Asked}
use Rattle.transitions.specs.declared.shelf_calls.Read.{Read}
use Rattle.transitions.specs.declared.shelf_calls.Read.TheVariants as reads
use Rattle.transitions.specs.declared.shelf_calls.ShelfWrite.TheVariants.{Put}
use Rattle.mpd_command.specs.declared.database.DatabaseCommand.TheVariants.{SearchAddPl}
use Rattle.mpd_command.specs.declared.playlists.PlaylistCommand.TheVariants.{PlaylistDelete, PlaylistMove}
use Rattle.library_commands.specs.Database.{append_found, append_met, result_of as database_result}
use Rattle.library_commands.specs.Playlists.{put_with, result_of, same_uris}
use Rattle.library_laws.specs.Found.{AreSelected}
use Rattle.library_laws.specs.Playlists.{EntriesAreMoved, EntriesAreTakenOut, FoundSongsJoinLists, SetsList, asks_library, uris_or_none}
use Rattle.library_laws.specs.Shelves.{Leaves}
use Rattle.library_laws.proofs.PickedSongs.{selected-is}
use Rattle.library_laws.proofs.Shelved.{asked-list, asked-missing, writes-done}
use Rattle.library_laws.proofs.StoredLists.{by-name, put-granted, sets-list}

is-below : (a b : ℕ) → a < b → nat_lt a b ≡ true
is-below a b h = grind (arith, nat_tests)

size : (front back : List (List ℕ)) (uri : List ℕ) → length (front ++ uri ∷ back) ≡ suc (length front + length back)
size front back uri = let e : length (front ++ uri ∷ back) ≡ length front + suc (length back) = length-append front (uri ∷ back) in omega arith

-- the entry at a position, and the list without it
at-position : (front back : List (List ℕ)) (uri : List ℕ) → get_or (front ++ uri ∷ back) (length front) [] ≡ uri
at-position [] back uri = refl
at-position (x ∷ front) back uri = at-position front back uri

behind-position : (front back : List (List ℕ)) (uri : List ℕ) → drop (suc (length front)) (front ++ uri ∷ back) ≡ back
behind-position [] back uri = refl
behind-position (x ∷ front) back uri = behind-position front back uri

without : (front back : List (List ℕ)) (uri : List ℕ) → remove (front ++ uri ∷ back) (length front) ≡ front ++ back
without front back uri = λ i. take_at front (uri ∷ back) (length front) refl i ++ behind-position front back uri i

within : (before behind : List (List ℕ)) (uri : List ℕ) → insert (before ++ behind) (length before) uri ≡ before ++ uri ∷ behind
within before behind uri = λ i. take_at before behind (length before) refl i ++ uri ∷ drop_at before behind (length before) refl i

moves : (front back before behind : List (List ℕ)) (uri : List ℕ) → front ++ back ≡ before ++ behind → moved (front ++ uri ∷ back) (length front) (length before) ≡ before ++ uri ∷ behind
moves front back before behind uri same =
    ap (λ (it : List ℕ). insert (remove (front ++ uri ∷ back) (length front)) (length before) it) (at-position front back uri)
    ∙ ap (λ (rest : List (List ℕ)). insert rest (length before) uri) (without front back uri ∙ same)
    ∙ within before behind uri

-- playlistdelete
pub entries_are_taken_out : EntriesAreTakenOut
unfolding result_of
entries_are_taken_out asked part library maps name uri front back named there read h =
    let uris : List (List ℕ) = front ++ uri ∷ back in
    let fits : nat_lt (length front) (length uris) ≡ true = is-below (length front) (length uris) (omega (arith, size front back uri)) in
    writes-done asked maps (SetsList name (Some (front ++ back)) maps) (Put name (front ++ back) true) (result_of asked part library read (PlaylistDelete name (length front)))
    (ap (λ (r : Read). result_of asked part library r (PlaylistDelete name (length front))) (asked-list maps name uris read named there h)
    ∙ by-name asked name (cond (nat_lt (length front) (length uris)) (writes asked (Put name (remove uris (length front)) true)) (bad_index asked)) named
    ∙ ap (λ b. cond b (writes asked (Put name (remove uris (length front)) true)) (bad_index asked)) fits
    ∙ ap (λ (left : List (List ℕ)). writes asked (Put name left true)) (without front back uri))
    (put-granted name named)
    (sets-list maps name (Some (front ++ back)))

-- playlistmove
pub entries_are_moved : EntriesAreMoved
unfolding result_of
entries_are_moved asked part library maps name uri front back before behind named there same read h =
    let uris : List (List ℕ) = front ++ uri ∷ back in
    let next : List (List ℕ) = before ++ uri ∷ behind in
    let sizes : length front + length back ≡ length before + length behind = sym (length-append front back) ∙ ap (length {A = List ℕ}) same ∙ length-append before behind in
    let from : nat_lt (length front) (length uris) ≡ true = is-below (length front) (length uris) (omega (arith, size front back uri)) in
    let to : nat_lt (length before) (length uris) ≡ true = is-below (length before) (length uris) (omega (arith, size front back uri)) in
    let it : List (List ℕ) = moved uris (length front) (length before) in
    let all : CommandResult = writes asked (Put name it (not (same_uris uris it))) in
    writes-done asked maps (SetsList name (Some next) maps) (Put name next (not (same_uris uris next))) (result_of asked part library read (PlaylistMove name (length front) (length before)))
    (ap (λ (r : Read). result_of asked part library r (PlaylistMove name (length front) (length before))) (asked-list maps name uris read named there h)
    ∙ by-name asked name (cond (nat_lt (length front) (length uris) && nat_lt (length before) (length uris)) all (bad_index asked)) named
    ∙ ap (λ b. cond (b && nat_lt (length before) (length uris)) all (bad_index asked)) from
    ∙ ap (λ b. cond b all (bad_index asked)) to
    ∙ ap (λ (left : List (List ℕ)). writes asked (Put name left (not (same_uris uris left)))) (moves front back before behind uri same))
    (put-granted name named)
    (sets-list maps name (Some next))

-- searchaddpl
fits : (uris : List (List ℕ)) (songs : List SongData) → length uris + length songs ≤ 16384 → nat_lt 16384 (length uris + length songs) ≡ false
fits uris songs h = grind (arith, nat_tests)

puts : (asked : Asked) (name : List ℕ) (uris : List (List ℕ)) (songs : List SongData) (changes : Bool) → length uris + length songs ≤ 16384
    → put_with asked name uris songs changes ≡ writes asked (Put name (uris ++ map (λ (it : SongData). it.uri) songs) changes)
puts asked name uris songs changes h = ap (λ b. cond b (refusal asked PlaylistMax (codes "playlist is full")) (writes asked (Put name (uris ++ map (λ (it : SongData). it.uri) songs) changes))) (fits uris songs h)

some-songs : (n : ℕ) → (suc n == 0) ≡ false
some-songs n = grind (arith, nat_tests)

joins : (asked : Asked) (part : Part) (library : Library) (maps : Maps) (name : List ℕ) (selection : Selection) (e : Expression) (song : SongData) (songs : List SongData) (old : Option (List (List ℕ))) → maps.lists name ≡ old → is_list_name name ≡ true → selection.criteria ≡ Meeting e
    → AreSelected library Ignored e selection (song ∷ songs) → length (uris_or_none old) + length (song ∷ songs) ≤ 16384
    → Leaves maps (asks_library asked part library (SearchAddPl name selection)) (SetsList name (Some (uris_or_none old ++ map (λ (it : SongData). it.uri) (song ∷ songs))) maps)
unfolding database_result
joins asked part library maps name selection e song songs (Some uris) there named criteria are room read h =
    let uris_then : List (List ℕ) = uris ++ map (λ (it : SongData). it.uri) (song ∷ songs) in
    writes-done asked maps (SetsList name (Some uris_then) maps) (Put name uris_then true) (database_result asked part library read (SearchAddPl name selection))
    (ap (λ (r : Read). database_result asked part library r (SearchAddPl name selection)) (asked-list maps name uris read named there h)
    ∙ by-name asked name (append_met asked library (reads.List uris) name selection selection.criteria) named
    ∙ ap (append_met asked library (reads.List uris) name selection) criteria
    ∙ ap (append_found asked (reads.List uris) name) (sym (selected-is library Ignored e selection (song ∷ songs) are))
    ∙ ap (λ b. cond b (shows asked (codes "")) (put_with asked name uris (song ∷ songs) (not b))) (some-songs (length songs))
    ∙ puts asked name uris (song ∷ songs) true room)
    (put-granted name named)
    (sets-list maps name (Some uris_then))
joins asked part library maps name selection e song songs None free named criteria are room read h =
    let uris_then : List (List ℕ) = map (λ (it : SongData). it.uri) (song ∷ songs) in
    writes-done asked maps (SetsList name (Some uris_then) maps) (Put name uris_then true) (database_result asked part library read (SearchAddPl name selection))
    (ap (λ (r : Read). database_result asked part library r (SearchAddPl name selection)) (asked-missing maps name read named free h)
    ∙ by-name asked name (append_met asked library (reads.Refused NoSuchList) name selection selection.criteria) named
    ∙ ap (append_met asked library (reads.Refused NoSuchList) name selection) criteria
    ∙ ap (append_found asked (reads.Refused NoSuchList) name) (sym (selected-is library Ignored e selection (song ∷ songs) are))
    ∙ ap (λ b. cond b (shows asked (codes "")) (put_with asked name [] (song ∷ songs) true)) (some-songs (length songs))
    ∙ puts asked name [] (song ∷ songs) true room)
    (put-granted name named)
    (sets-list maps name (Some uris_then))

pub found_songs_join_lists : FoundSongsJoinLists
found_songs_join_lists asked part library maps name selection e song songs named criteria are room =
    joins asked part library maps name selection e song songs (maps.lists name) refl named criteria are room
