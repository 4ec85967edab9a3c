-- Lists that begin with others, and folders.
use Rattle.std.proofs.Common.{◌≡◌, ℕ, List, [], ◌∷◌, ◌++◌, length, drop, true, refl, sym, ◌∙◌}
use Rattle.std.specs.Prelude.{nat_eq}
use Rattle.std.specs.List.{starts_with}
use Rattle.std.specs.Bool.{Decides}
use Rattle.std.proofs.lemmas.Bool.Decides.{Decides-eqb}
use Rattle.std.proofs.lemmas.List.{append_assoc}
use Rattle.std.proofs.lemmas.Slice.Eq.{starts_is}
use Rattle.filters.specs.Truth.{IsUnder}
use Rattle.song_search.specs.Truth.{is_under}

pub begins_from : (xs front rest : List ℕ) → xs ≡ front ++ rest → starts_with nat_eq xs front ≡ true
begins_from xs front rest e = (starts_is Decides-eqb xs front (starts_with nat_eq xs front) refl).1 rest e

pub begins_rest : (xs front : List ℕ) → starts_with nat_eq xs front ≡ true → xs ≡ front ++ drop (length front) xs
begins_rest xs front h = (starts_is Decides-eqb xs front (starts_with nat_eq xs front) refl).0 h

-- whether a URI lies under a folder is what the filters say of it
pub under-Decides : (folder uri : List ℕ) → Decides (is_under folder uri) (IsUnder folder uri)
under-Decides [] uri = ((λ _. tt), (λ _. refl))
under-Decides (b ∷ bs) uri = (
  (λ h. (drop (length ((b ∷ bs) ++ 47 ∷ [])) uri, begins_rest uri ((b ∷ bs) ++ 47 ∷ []) h ∙ append_assoc (b ∷ bs) (47 ∷ []) (drop (length ((b ∷ bs) ++ 47 ∷ [])) uri))),
  (λ u. begins_from uri ((b ∷ bs) ++ 47 ∷ []) u.0 (u.1 ∙ sym (append_assoc (b ∷ bs) (47 ∷ []) u.0))),
)
