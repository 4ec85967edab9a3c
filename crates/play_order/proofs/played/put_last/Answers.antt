use Rattle.std.proofs.Common.{◌≡◌, ◌∙◌, ◌++◌, [], ◌∷◌, ap, ℕ, List, ◌==◌, Option, Some, None, cond, nat_cmp, nat_eq}
use Rattle.std.specs.BTreeMap.{is_at}
use Rattle.std.specs.HashMap.{get}
use Rattle.std.specs.Map.{remove_entry, values_of}
use Rattle.play_order.specs.Scans.{play_with}
use Rattle.play_order.proofs.Plays.{finds-moved, insert-last, insert-new, other_plays, plays_of, remove-play, values-moved}
use Rattle.play_order.proofs.played.put_last.Goals as goal

-- where the id had a play, that is taken out
moved : (c : goal.After-remove) → c.remove.new.self.entries ≡ other_plays c.args.id c.args.order.now.entries ++ (c.in_ok-number.number, c.args.id) ∷ []
moved c =
    let plays : List (ℕ × ℕ) = c.args.order.now.entries in
    let before : ℕ = c.in-Ok-Some.before in
    let old = c.in-Ok-Some.ensures.old in
    let field = c.in-Ok-Some.field-0-is in
    let same = c.reserve.ensures.entries.2 c.args.id in
    let known : get nat_eq c.args.found.now c.args.id ≡ Some before = cc in
    let alone : plays_of c.args.id plays ≡ (before, c.args.id) ∷ [] = c.requires.1 c.args.id ∙ ap (λ (o : Option ℕ). play_with o c.args.id) known in
    c.remove.ensures.entries ∙ ap (λ (es : List (ℕ × ℕ)). remove_entry (is_at (nat_cmp before)) es) (c.in_ok-insert.ensures.entries ∙ insert-last plays c.in_ok-number.number c.args.id c.in_ok-number.ensures)
    ∙ remove-play plays ((c.in_ok-number.number, c.args.id) ∷ []) c.args.id before c.requires.0 alone

pub returns-in-Ok-Some-clause-kept : goal.returns-in-Ok-Some-clause-kept
returns-in-Ok-Some-clause-kept c = (
  c.remove.ensures.ordered,
  λ q.
      ap (λ (es : List (ℕ × ℕ)). plays_of q es) (moved c)
      ∙ finds-moved (get nat_eq c.args.found.now) (get nat_eq c.insert-2.new.self) c.args.order.now.entries c.args.id c.in_ok-number.number c.requires.1
      (λ p. c.in-Ok-Some.ensures.updates.0 p ∙ ap (λ (o : Option ℕ). cond (c.args.id == p) (Some c.in_ok-number.number) o) (c.reserve.ensures.entries.2 p)) q,
)

pub returns-in-Ok-Some-clause-ok : goal.returns-in-Ok-Some-clause-ok
returns-in-Ok-Some-clause-ok c = ap (λ (es : List (ℕ × ℕ)). values_of es) (moved c) ∙ values-moved c.args.id c.in_ok-number.number c.args.order.now.entries

pub returns-in-Ok-None-clause-kept : goal.returns-in-Ok-None-clause-kept
returns-in-Ok-None-clause-kept c =
    let found : ℕ → Option ℕ = get nat_eq c.args.found.now in
    let plays : List (ℕ × ℕ) = c.args.order.now.entries in
    let number : ℕ = c.in_ok-number.number in
    let old = c.in-Ok-None.ensures.old in
    let field = c.in-Ok-None.field-0-is in
    let same = c.reserve.ensures.entries.2 c.args.id in
    let none : found c.args.id ≡ None = cc in
    let pushed = insert-new plays c.insert.new.self.entries number c.args.id (found c.args.id) c.in_ok-insert.ensures.entries c.in_ok-number.ensures (c.requires.1 c.args.id) none in (
      c.insert.ensures.ordered,
      λ q.
          ap (λ (es : List (ℕ × ℕ)). plays_of q es) pushed
          ∙ finds-moved found (get nat_eq c.insert-2.new.self) plays c.args.id number c.requires.1
          (λ p. c.in-Ok-None.ensures.updates.0 p ∙ ap (λ (o : Option ℕ). cond (c.args.id == p) (Some number) o) (c.reserve.ensures.entries.2 p)) q,
    )

pub returns-in-Ok-None-clause-ok : goal.returns-in-Ok-None-clause-ok
returns-in-Ok-None-clause-ok c =
    let found : ℕ → Option ℕ = get nat_eq c.args.found.now in
    let plays : List (ℕ × ℕ) = c.args.order.now.entries in
    let number : ℕ = c.in_ok-number.number in
    let old = c.in-Ok-None.ensures.old in
    let field = c.in-Ok-None.field-0-is in
    let same = c.reserve.ensures.entries.2 c.args.id in
    let none : found c.args.id ≡ None = cc in
    let pushed = insert-new plays c.insert.new.self.entries number c.args.id (found c.args.id) c.in_ok-insert.ensures.entries c.in_ok-number.ensures (c.requires.1 c.args.id) none in
    ap (λ (es : List (ℕ × ℕ)). values_of es) pushed ∙ values-moved c.args.id number plays
