use Rattle.std.proofs.Common.{◌≡◌, ◌∙◌, ◌≤◌, ap, ℕ, List, nat_eq}
use Rattle.std.specs.HashMap.{get}
use Rattle.std.specs.Map.{lookup}
use Rattle.std.proofs.lemmas.List.Elements.{All-same, same_from_all_zip}
use Rattle.std.proofs.lemmas.Map.Entries.{entries_from_clone}
use Rattle.play_order.specs.declared.modes.Rank.{Rank}
use Rattle.play_order.proofs.Keeping.{finds-left, left-alike, left_of}
use Rattle.play_order.proofs.ranks.Ranks.image.Goals as goal

pub invariant_of-result : goal.invariant_of-result
invariant_of-result c =
    let items : c.in_ok-clone.field-0.items ≡ c.self.inside.drawn.items = same_from_all_zip _ _ _ c.in_ok-clone.ensures.cases.0 (λ x y h. h) in
    let entries : c.in_ok-clone-2.field-0.entries ≡ c.self.inside.by_id.entries = entries_from_clone _ _ (λ x y h. h) (λ v w h. h) _ _ c.in_ok-clone-2.ensures.cases in
    let known = get nat_eq c.self.inside.by_id in
    let after = get nat_eq c.in_ok-clone-2.field-0 in
    let same : (q : ℕ) → after q ≡ known q = λ q. ap (λ (es : List (ℕ × ℕ)). lookup (nat_eq q) es) entries in (
      finds-left known after c.self.inside.drawn.items c.in_ok-clone.field-0.items same (left-alike known after c.in_ok-clone.field-0.items same ∙ ap (left_of known) items) c.self.invariant.0,
      All-same (λ (r : Rank). r.id ≤ c.self.inside.greatest) c.in_ok-clone.field-0.items c.self.inside.drawn.items items c.self.invariant.1,
    )

pub returns : goal.returns
returns c =
    let items : c.in_ok-clone.field-0.items ≡ c.self.inside.drawn.items = same_from_all_zip _ _ _ c.in_ok-clone.ensures.cases.0 (λ x y h. h) in
    let entries : c.in_ok-clone-2.field-0.entries ≡ c.self.inside.by_id.entries = entries_from_clone _ _ (λ x y h. h) (λ v w h. h) _ _ c.in_ok-clone-2.ensures.cases in
    let known = get nat_eq c.self.inside.by_id in
    let after = get nat_eq c.in_ok-clone-2.field-0 in
    let same : (q : ℕ) → after q ≡ known q = λ q. ap (λ (es : List (ℕ × ℕ)). lookup (nat_eq q) es) entries in
    left-alike known after c.in_ok-clone.field-0.items same ∙ ap (left_of known) items ∙ c.self.view_is
