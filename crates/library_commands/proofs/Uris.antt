-- Lists of URIs that are one.
use Rattle.std.proofs.Common.{◌≡◌, ◌↔◌, ℕ, Bool, true, false, not, List, ap, sym, ◌∙◌, refl}
use Rattle.std.specs.Prelude.{IsTrue}
use Rattle.std.specs.Str.{bytes_eq}
use Rattle.std.proofs.lemmas.Slice.Eq.{bytes_eq-Decides}
use Rattle.song_queue.proofs.Same.{pointwise-refl, pointwise-true}
use Rattle.library_commands.specs.Playlists.{same_uris}

same_uris-true : (a b : List (List ℕ)) → same_uris a b ≡ true → a ≡ b
unfolding same_uris
same_uris-true a b e = pointwise-true bytes_eq (λ x y. (bytes_eq-Decides x y).0) a b e

same_uris-refl : (a : List (List ℕ)) → same_uris a a ≡ true
unfolding same_uris
same_uris-refl a = pointwise-refl bytes_eq (λ x. (bytes_eq-Decides x x).1 refl) a

-- a test that tells whether two lists are one is the test of their URIs
pub same_is : (a b : List (List ℕ)) (same : Bool) → (IsTrue same ↔ (a ≡ b)) → not same ≡ not (same_uris a b)
same_is a b true e = ap not (sym (ap (same_uris a) (sym (e.0 refl)) ∙ same_uris-refl a))
same_is a b false e =
    let cases : (t : Bool) → same_uris a b ≡ t → true ≡ not t =
    λ t. elim t as (λ t. same_uris a b ≡ t → true ≡ not t) [ true ↦ λ is. (let clash : false ≡ true = e.1 (same_uris-true a b is) in cc) | false ↦ λ is. refl ] in
    cases (same_uris a b) refl
