-- What a sort by URI and a `dedup` leave.
use Rattle.std.proofs.Common.{◌≡◌, ◌∙◌, ℕ, ◌<◌, Bool, true, false, List, [], ◌∷◌, ◌++◌, get_or, cond, sym, ap, subst, arith}
use Rattle.std.specs.Prelude.{IsTrue, All, AllPairs, IsPermutation, nat_eq}
use lib.Pointwise.{pointwise}
use Rattle.std.specs.List.{Any, Contains, dedup}
use Rattle.std.specs.List.Sorted.{IsSorted, IsStrictlySortedBy}
use Rattle.std.specs.Ordering.{nat_cmp}
use Rattle.std.specs.declared.cmp.Ordering.{Ordering}
use Rattle.std.specs.declared.cmp.Ordering.TheVariants.{Less}
use Rattle.std.specs.Cmp.Lexicographic.{slice_cmp, on_texts, on_texts_equal, texts_ties, same_text}
use Rattle.std.proofs.lemmas.List.Elements.{All-contains_itself, All-from_recursion, All-contains, All-push}
use Rattle.std.proofs.lemmas.List.Filters.{All-dedup}
use Rattle.std.proofs.lemmas.List.Kept.{AllPairs-cons, Any-dedup, IsStrictlySortedBy-dedup}
use Rattle.std.proofs.lemmas.List.Sorted.{All-permutation, Contains-permutation}
use Rattle.mpd_text.specs.Songs.Song.{SongData, TagData}
use Rattle.library_scan.specs.Steps.{is_song_uri}
use Rattle.library_scan.specs.Scans.{IsFound}

module _ {X : Type 0} (uri : X → List ℕ) where
  abbrev pub by_text : X → X → Ordering
  by_text a b = slice_cmp nat_cmp (uri a) (uri b)

  abbrev pub one_text : X → X → Bool
  one_text a b = pointwise nat_eq (uri a) (uri b)

  pairs : (xs : List X) → IsStrictlySortedBy by_text xs → AllPairs (λ a b. by_text a b ≡ Less) xs
  unfolding IsStrictlySortedBy
  pairs [] h = λ i j d low within. absurd (omega arith)
  pairs (x ∷ xs) h = AllPairs-cons (λ a b. by_text a b ≡ Less) x xs (All-from_recursion (λ y. by_text x y ≡ Less) xs h.0) (pairs xs h.1)

  module _ (given sorted left : List X) (moved : IsPermutation given sorted) (is : left ≡ dedup one_text sorted) where
    pub order : IsSorted by_text sorted → AllPairs (λ a b. by_text a b ≡ Less) left
    order h = subst (AllPairs (λ a b. by_text a b ≡ Less)) (sym is) (pairs (dedup one_text sorted) (IsStrictlySortedBy-dedup (on_texts uri) (λ x y. texts_ties (uri x) (uri y)) sorted h))

    pub among : All (Contains given) left
    among = subst (All (Contains given)) (sym is) (All-dedup one_text (Contains given) sorted (All-permutation (Contains given) given sorted moved (All-contains_itself given)))

    pub each : (x : X) → Contains given x → Any (λ kept. uri kept ≡ uri x) left
    each x h =
        let kept = Any-dedup (on_texts_equal uri) sorted x (Contains-permutation given sorted x moved h) in
        subst (Any (λ k. uri k ≡ uri x)) (sym is) (kept.0, kept.1, kept.2, kept.3, sym (same_text (uri x) (uri kept.1) (sym kept.4)))

-- what holds of each that was given
pub All-among : {X : Type 0} (P : X → Type 0) (given left : List X) → All (Contains given) left → All P given → All P left
All-among P given left inside all k d l = All-contains P given (get_or left k d) all (inside k d l)

-- one more song, or none where there was no memory
pub pushed : {X : Type 0} (P : X → Type 0) (old new : List X) (x : X) (ok : Bool) → new ≡ cond ok (old ++ x ∷ []) old → All P old → P x → All P new
pushed P old new x true is all here = subst (All P) (sym is) (All-push P old x all here)
pushed P old new x false is all here = subst (All P) (sym is) all

pub is_found : (song : SongData) (uri text : List ℕ) (tags : List TagData) (frames : ℕ) → song ≡ record { uri = text; tags = tags; frames = frames } → text ≡ uri → IsTrue (is_song_uri uri) → 0 < frames → IsFound song
is_found song uri text tags frames is same good some = record {
  uri = ap is_song_uri (ap (λ (s : SongData). s.uri) is ∙ same) ∙ good;
  frames = subst (λ n. 0 < n) (sym (ap (λ (s : SongData). s.frames) is)) some;
}
