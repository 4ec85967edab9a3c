-- The songs that meet a filter, and those that a selection shows of them.
use Rattle.std.proofs.Common.{◌≡◌, ◌∙◌, ℕ, zero, suc, ◌+◌, ◌-◌, Bool, true, false, cond, List, [], ◌∷◌, take, drop, Option, Some, None, refl, sym, ap, arith}
use Rattle.std.specs.Prelude.{nat_lt, slice_get}
use Rattle.std.specs.Bool.{Decides}
use Rattle.std.specs.List.{filter}
use Rattle.std.proofs.lemmas.Bool.Decides.{nat_tests}
use Rattle.mpd_text.specs.Songs.Song.{SongData}
use Rattle.known_tags.specs.KnownTags.{read_of}
use Rattle.filters.specs.Expressions.{Expression, Under}
use Rattle.filters.specs.Truth.{Holds}
use Rattle.filters.specs.declared.matching.Case.{Case}
use Rattle.filters.specs.declared.matching.Case.TheVariants.{Heeded}
use Rattle.song_search.specs.Answers.{found}
use Rattle.song_search.specs.Truth.{meets}
use Rattle.song_search.proofs.Truths.{meets-Decides}
use Rattle.song_groups.proofs.Orders.{one_order}
use Rattle.command_arguments.specs.declared.forms.Window.{Window}
use Rattle.command_arguments.specs.declared.criteria.Criteria.{Criteria}
use Rattle.command_arguments.specs.declared.criteria.Criteria.TheVariants.{Meeting, Refused}
use Rattle.selections.specs.declared.asked.Selection.{Selection}
use Rattle.selections.specs.declared.sort_by.SortBy.{SortBy}
use Rattle.player_state.specs.declared.state.Library.{Library}
use Rattle.library_commands.specs.Database.{selected, sorted_by, windowed}
use Rattle.library_laws.specs.Found.{AreInOrder, AreSelected, CanBeRead, IsWindow, Picks, SongsArePicked, MeetsCriteria}
use Rattle.library_laws.specs.Found.Picks.{none, picked, passed}

is-false : (b : Bool) → (b ≡ true → ⊥) → b ≡ false
is-false true h = absurd (h refl)
is-false false h = refl

-- what is picked is what passes a test that decides it
pub picked-is : (Passes : SongData → Type 0) (test : SongData → Bool) → ((song : SongData) → Decides (test song) (Passes song)) → {songs met : List SongData} → Picks Passes songs met → met ≡ filter test songs
picked-is Passes test says none = refl
picked-is Passes test says (picked {song} {songs} {rest} h picks) =
    ap (λ (more : List SongData). song ∷ more) (picked-is Passes test says picks)
    ∙ ap (λ b. cond b (song ∷ filter test songs) (filter test songs)) (sym ((says song).1 h))
picked-is Passes test says (passed {song} {songs} {rest} h picks) =
    picked-is Passes test says picks
    ∙ ap (λ b. cond b (song ∷ filter test songs) (filter test songs)) (sym (is-false (test song) (λ e. h ((says song).0 e))))

pub picks : (Passes : SongData → Type 0) (test : SongData → Bool) → ((song : SongData) → Decides (test song) (Passes song)) → (songs : List SongData) → Picks Passes songs (filter test songs)
picks Passes test says [] = none
picks Passes test says (song ∷ songs) =
    let goes : (b : Bool) → test song ≡ b → Picks Passes (song ∷ songs) (cond b (song ∷ filter test songs) (filter test songs))
    = λ b. elim b as (λ b. test song ≡ b → Picks Passes (song ∷ songs) (cond b (song ∷ filter test songs) (filter test songs))) [
      | true ↦ λ e. picked ((says song).0 e) (picks Passes test says songs)
      | false ↦ λ e. passed (λ h. absurd (cc (e, (says song).1 h))) (picks Passes test says songs)
    ] in
    goes (test song) refl

pub songs_are_picked : SongsArePicked
songs_are_picked case e songs = (found case e songs, picks (Holds case e) (meets case e) (meets-Decides case e) songs)

pub found-is : (case : Case) (e : Expression) (songs met : List SongData) → Picks (Holds case e) songs met → met ≡ found case e songs
found-is case e songs met h = picked-is (Holds case e) (meets case e) (meets-Decides case e) h

-- the expression that a filter is; without one that which each song meets
abbrev pub expression_of : Option Criteria → Expression
expression_of None = Under []
expression_of (Some (Meeting e)) = e
expression_of (Some (Refused text)) = Under []

pub criteria-is : (criteria : Option Criteria) (songs met : List SongData) → CanBeRead criteria → Picks (MeetsCriteria criteria) songs met → met ≡ found Heeded (expression_of criteria) songs
criteria-is None songs met can h = picked-is (λ song. Unit {0}) (meets Heeded (Under [])) (meets-Decides Heeded (Under [])) h
criteria-is (Some (Meeting e)) songs met can h = found-is Heeded e songs met h
criteria-is (Some (Refused text)) songs met can h = absurd can

-- the songs in their order
in-order : (sort : Option SortBy) (met songs : List SongData) → AreInOrder sort met songs → songs ≡ sorted_by sort met
in-order None met songs h = h
in-order (Some by) met songs h = one_order (read_of by.tag) by.falling met songs h

-- two lists with the same song at each index
same-indices : (xs ys : List SongData) → ((index : ℕ) → slice_get xs index ≡ slice_get ys index) → xs ≡ ys
same-indices [] [] h = refl
same-indices [] (y ∷ ys) h = absurd (cc (h 0))
same-indices (x ∷ xs) [] h = absurd (cc (h 0))
same-indices (x ∷ xs) (y ∷ ys) h =
    let first : Some x ≡ Some y = h 0 in
    let one : x ≡ y = cc in
    let rest : xs ≡ ys = same-indices xs ys (λ index. h (suc index)) in
    λ i. one i ∷ rest i

below-none : (index : ℕ) → nat_lt index 0 ≡ false
below-none index = grind (arith, nat_tests)

first-below : (n : ℕ) → nat_lt 0 (suc n) ≡ true
first-below n = grind (arith, nat_tests)

next-below : (a b : ℕ) → nat_lt (suc a) (suc b) ≡ nat_lt a b
next-below a b = grind (arith, nat_tests)

abbrev nothing : Option SongData
nothing = None

nothing-either : (b : Bool) → nothing ≡ cond b nothing nothing
nothing-either true = refl
nothing-either false = refl

taken : (n : ℕ) (xs : List SongData) (index : ℕ) → slice_get (take n xs) index ≡ cond (nat_lt index n) (slice_get xs index) None
taken zero xs index = ap (λ b. cond b (slice_get xs index) None) (sym (below-none index))
taken (suc n) [] index = nothing-either (nat_lt index (suc n))
taken (suc n) (x ∷ xs) zero = ap (λ b. cond b (Some x) None) (sym (first-below n))
taken (suc n) (x ∷ xs) (suc index) = taken n xs index ∙ ap (λ b. cond b (slice_get xs index) None) (sym (next-below index n))

dropped : (start : ℕ) (xs : List SongData) (index : ℕ) → slice_get (drop start xs) index ≡ slice_get xs (start + index)
dropped zero xs index = let is : index ≡ 0 + index = omega arith in ap (slice_get xs) is
dropped (suc start) [] index = refl
dropped (suc start) (x ∷ xs) index = let is : suc (start + index) ≡ suc start + index = omega arith in dropped start xs index ∙ ap (slice_get (x ∷ xs)) is

shifted : (start end index : ℕ) → nat_lt index (end - start) ≡ nat_lt (start + index) end
shifted start end index = grind (arith, nat_tests)

in-window : (window : Option Window) (songs shown : List SongData) → IsWindow window songs shown → shown ≡ windowed window songs
in-window None songs shown h = h
in-window (Some window) songs shown h =
    same-indices shown (take (window.end - window.start) (drop window.start songs)) (λ index.
    h index
    ∙ sym (taken (window.end - window.start) (drop window.start songs) index
    ∙ ap (λ b. cond b (slice_get (drop window.start songs) index) None) (shifted window.start window.end index)
    ∙ ap (λ (o : Option SongData). cond (nat_lt (window.start + index) window.end) o None) (dropped window.start songs index)))

pub selected-is : (library : Library) (case : Case) (e : Expression) (selection : Selection) (songs : List SongData) → AreSelected library case e selection songs → songs ≡ selected library case e selection
selected-is library case e selection songs h =
    in-window selection.window h.ordered songs h.window
    ∙ ap (windowed selection.window) (in-order selection.sort h.met h.ordered h.order ∙ ap (sorted_by selection.sort) (found-is case e library.songs h.met h.meets))
