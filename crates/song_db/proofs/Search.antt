-- Where a search by URI ends.
use Rattle.std.proofs.Common.{◌≡◌, ℕ, zero, suc, ◌<◌, ◌≤◌, false, List, [], ◌∷◌, length, get_or, None, Result, Ok, Err, refl, ap, sym, ◌∙◌, inl, inr, arith}
use Rattle.std.specs.Prelude.{All, slice_get, IfSome, IfNone}
use Rattle.std.specs.List.Sorted.{IsNonDecreasingBy, IsSearchInRange, IsBinarySearchResult}
use Rattle.std.specs.Result.{result_ok}
use Rattle.std.specs.Ordering.{is_eq, nat_cmp, ordering_index}
use Rattle.std.specs.Cmp.Lexicographic.{slice_cmp, texts_ties}
use Rattle.std.specs.declared.cmp.Ordering.{Ordering}
use Rattle.std.specs.declared.cmp.Ordering.TheVariants.{Less, Equal, Greater}
use Rattle.std.proofs.lemmas.Cmp.{alike_right}
use Rattle.std.proofs.lemmas.Bool.{cond-true, cond-false, cases_lt, cases_eq}
use Rattle.mpd_text.specs.Songs.Song.{SongData}
use Rattle.song_db.specs.Library.{by_uri, same_uri, InByteOrder, song_of}
use Rattle.song_db.proofs.Order.{order, tail, head}

-- a song that has the URI alone
abbrev asked : List ℕ → SongData
asked uri = record { uri = uri; tags = []; frames = 0 }

is-asked : (s : SongData) (uri : List ℕ) → same_uri s.uri uri ≡ is_eq (slice_cmp nat_cmp s.uri uri)
is-asked s uri = texts_ties s.uri uri

-- the songs' answers to a URI rise
pub answers-rise : (xs : List SongData) (uri : List ℕ) → InByteOrder xs → IsNonDecreasingBy (λ (s : SongData). ordering_index (slice_cmp nat_cmp s.uri uri)) xs
answers-rise xs uri h i j d le within = elim (cases_eq i j) [
  | inl same ↦ let one : ordering_index (by_uri (get_or xs i d) (asked uri)) ≡ ordering_index (by_uri (get_or xs j d) (asked uri)) = ap (λ k. ordering_index (by_uri (get_or xs k d) (asked uri))) same in omega arith
  | inr other ↦ rises (get_or xs i d) (get_or xs j d) (h i j d (omega arith) within) (by_uri (get_or xs j d) (asked uri)) refl
]
  where
    at_most : (o : Ordering) → ordering_index o ≤ 2
    at_most Less = omega arith
    at_most Equal = omega arith
    at_most Greater = omega arith

    rises : (a b : SongData) → by_uri a b ≡ Less → (o : Ordering) → by_uri b (asked uri) ≡ o → ordering_index (by_uri a (asked uri)) ≤ ordering_index o
    rises a b less Less is = let low : ordering_index (by_uri a (asked uri)) ≡ 0 = ap ordering_index (order.trans a b (asked uri) less is) in omega arith
    rises a b less Equal is = let low : ordering_index (by_uri a (asked uri)) ≤ 2 = at_most (by_uri a (asked uri)) in same_side (by_uri a (asked uri)) (turned a b less is)
      where
        turned : (a b : SongData) → by_uri a b ≡ Less → by_uri b (asked uri) ≡ Equal → by_uri a (asked uri) ≡ Less
        turned a b less is = sym (right a b is) ∙ less
          where
            right : (a b : SongData) → by_uri b (asked uri) ≡ Equal → by_uri a b ≡ by_uri a (asked uri)
            right a b is = alike_right order b (asked uri) a is

        same_side : (o : Ordering) → o ≡ Less → ordering_index o ≤ 1
        same_side o e = let low : ordering_index o ≡ 0 = ap ordering_index e in omega arith
    rises a b less Greater is = let low : ordering_index (by_uri a (asked uri)) ≤ 2 = at_most (by_uri a (asked uri)) in omega arith

-- a song of the URI is the one that the list has
pub found-at : (xs : List SongData) (uri : List ℕ) (index : ℕ) → InByteOrder xs → index < length xs → ((d : SongData) → slice_cmp nat_cmp (get_or xs index d).uri uri ≡ Equal) → slice_get xs index ≡ song_of xs uri
found-at [] uri index h within is = absurd (omega arith)
found-at (x ∷ xs) uri zero h within is = sym (cond-true _ _ _ (is-asked x uri ∙ ap is_eq (is x)))
found-at (x ∷ xs) uri (suc index) h within is =
    let low : index < length xs = omega arith in
    let less : by_uri x (get_or xs index x) ≡ Less = head x xs h index x low in
    let before : by_uri x (asked uri) ≡ Less = sym (alike_right order (get_or xs index x) (asked uri) x (is x)) ∙ less in
    found-at xs uri index (tail x xs h) low is ∙ sym (cond-false _ _ _ (is-asked x uri ∙ ap is_eq before))

-- where no song answers that it is the URI's, the list has none
pub found-none : (xs : List SongData) (uri : List ℕ) → All (λ (s : SongData). is_eq (slice_cmp nat_cmp s.uri uri) ≡ false) xs → song_of xs uri ≡ None
found-none [] uri h = refl
found-none (x ∷ xs) uri h = cond-false _ _ _ (is-asked x uri ∙ h 0 x (omega arith)) ∙ found-none xs uri (λ k d l. h (suc k) d (omega arith))

-- what a binary search by URI answers
pub found : (xs : List SongData) (uri : List ℕ) (r : Result ℕ ℕ) → InByteOrder xs → IsSearchInRange r (length xs) → IsBinarySearchResult (λ (s : SongData). slice_cmp nat_cmp s.uri uri) xs r
    → IfSome (result_ok r) (λ index. slice_get xs index ≡ song_of xs uri)
found xs uri (Ok index) h within is = found-at xs uri index h within is
found xs uri (Err index) h within is = tt

pub missing : (xs : List SongData) (uri : List ℕ) (r : Result ℕ ℕ) → InByteOrder xs → IsSearchInRange r (length xs) → IsBinarySearchResult (λ (s : SongData). slice_cmp nat_cmp s.uri uri) xs r
    → IfNone (result_ok r) (song_of xs uri ≡ None)
missing xs uri (Ok index) h within is = tt
missing xs uri (Err index) h within is =
    let parts = is (answers-rise xs uri h) in
    found-none xs uri (λ k d l. elim (cases_lt k index) [ inl low ↦ ap is_eq (parts.0 k d (omega arith) low) | inr high ↦ ap is_eq (parts.1 k d high l) ])
