use Rattle.std.proofs.Common.{◌≡◌, ◌∙◌, ap, subst, sym, ℕ, List, nat_cmp, nat_eq}
use Rattle.std.specs.List.Sorted.{IsStrictlySortedBy}
use Rattle.std.specs.Map.{keys_of, lookup, values_of}
use Rattle.std.proofs.lemmas.Map.Entries.{entries_from_clone}
use Rattle.play_order.specs.Scans.{play_with}
use Rattle.play_order.proofs.Plays.{plays_of}
use Rattle.play_order.proofs.played.Played.image.Goals as goal

pub invariant_of-result : goal.invariant_of-result
invariant_of-result c =
    let order : c.in_ok-clone.field-0.entries ≡ c.self.inside.order.entries = entries_from_clone _ _ (λ x y h. h) (λ v w h. h) _ _ c.in_ok-clone.ensures.cases in
    let found : c.in_ok-clone-2.field-0.entries ≡ c.self.inside.found.entries = entries_from_clone _ _ (λ x y h. h) (λ v w h. h) _ _ c.in_ok-clone-2.ensures.cases in (
      subst (λ (es : List (ℕ × ℕ)). IsStrictlySortedBy nat_cmp (keys_of es)) (sym order) c.self.invariant.0,
      λ q. ap (λ (es : List (ℕ × ℕ)). plays_of q es) order ∙ c.self.invariant.1 q ∙ ap (λ (es : List (ℕ × ℕ)). play_with (lookup (nat_eq q) es) q) (sym found),
    )

pub returns : goal.returns
returns c = ap (λ (es : List (ℕ × ℕ)). values_of es) (entries_from_clone _ _ (λ x y h. h) (λ v w h. h) _ _ c.in_ok-clone.ensures.cases) ∙ c.self.view_is
