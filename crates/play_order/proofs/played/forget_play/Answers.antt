use Rattle.std.proofs.Common.{◌≡◌, ◌∙◌, [], ◌∷◌, ap, sym, ℕ, List, Option, nat_cmp, nat_eq}
use Rattle.std.specs.BTreeMap.{is_at}
use Rattle.std.specs.HashMap.{get}
use Rattle.std.specs.Map.{remove_entry, values_of}
use Rattle.play_order.specs.Scans.{play_with}
use Rattle.play_order.proofs.Lists.{append-nil}
use Rattle.play_order.proofs.Plays.{finds-out, lack-others, other_plays, plays_of, remove-play, values-others}
use Rattle.play_order.proofs.played.forget_play.Goals as goal

left : (c : goal.After-remove-in-Some) → c.remove-in-Some.new.self.entries ≡ other_plays c.args.id c.args.order.now.entries
left c =
    let plays : List (ℕ × ℕ) = c.args.order.now.entries in
    let alone : plays_of c.args.id plays ≡ (c.in-Some.number, c.args.id) ∷ [] = c.requires.1 c.args.id ∙ ap (λ (o : Option ℕ). play_with o c.args.id) (sym c.in-Some.ensures.value) in
    c.remove-in-Some.ensures.entries ∙ ap (λ (es : List (ℕ × ℕ)). remove_entry (is_at (nat_cmp c.in-Some.number)) es) (sym (append-nil plays))
    ∙ remove-play plays [] c.args.id c.in-Some.number c.requires.0 alone ∙ append-nil (other_plays c.args.id plays)

pub returns-in-Some-clause-kept : goal.returns-in-Some-clause-kept
returns-in-Some-clause-kept c = (
  c.remove-in-Some.ensures.ordered,
  λ q.
      ap (λ (es : List (ℕ × ℕ)). plays_of q es) (left c)
      ∙ finds-out (get nat_eq c.args.found.now) (get nat_eq c.remove.new.self) c.args.order.now.entries c.args.id c.requires.1 c.remove.ensures.updates.0 q,
)

pub returns-in-Some-clause-ids : goal.returns-in-Some-clause-ids
returns-in-Some-clause-ids c = ap (λ (es : List (ℕ × ℕ)). values_of es) (left c) ∙ values-others c.args.id c.args.order.now.entries

pub returns-in-None-clause-ids : goal.returns-in-None-clause-ids
returns-in-None-clause-ids c =
    let plays : List (ℕ × ℕ) = c.args.order.now.entries in
    let lacks : plays_of c.args.id plays ≡ [] = c.requires.1 c.args.id ∙ ap (λ (o : Option ℕ). play_with o c.args.id) (sym c.in-None.ensures.value) in
    sym (ap (λ (es : List (ℕ × ℕ)). values_of es) (lack-others c.args.id plays lacks)) ∙ values-others c.args.id plays
