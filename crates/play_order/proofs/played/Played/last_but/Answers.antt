use Rattle.std.proofs.Common.{◌≡◌, ◌∙◌, ◌++◌, [], ◌∷◌, ap, sym, ℕ, List, ◌==◌, false, nat_eq, arith}
use Rattle.std.specs.HashMap.{get}
use Rattle.play_order.specs.Draws.{others}
use Rattle.play_order.specs.Ends.{last_of}
use Rattle.play_order.proofs.Plays.{last-apart, last-taken, others-before}
use Rattle.play_order.proofs.played.Played.last_but.Goals as goal

pub returns-then-last-id : goal.returns-then-last-id
returns-then-last-id c =
    let apart : (c.in-Some.last.now == c.args.id) ≡ false = grind (arith, c.if-last-id.true) in
    sym (last-apart c.args.id c.in-Some.last.now c.args.self.now c.next_back.new.self apart (sym c.self.view_is ∙ sym c.values-ids.ensures.rest ∙ c.in-Some.ensures.steps))

pub returns-else-last-id : goal.returns-else-last-id
returns-else-last-id c =
    let before : List ℕ = c.next_back.new.self in
    let ends = sym c.values-ids.ensures.rest ∙ c.in-Some.ensures.steps ∙ ap (λ (x : ℕ). before ++ x ∷ []) c.if-last-id.false in
    c.copied.ensures ∙ last-taken (λ x. x.now) c.next_back-in-Some.result before c.next_back-in-Some.new.self c.next_back-in-Some.ensures.steps
    ∙ ap last_of (sym (others-before (get nat_eq c.self.inside.found c.args.id) c.args.id c.self.inside.order.entries before (c.self.invariant.1 c.args.id) ends))
    ∙ ap (λ (ids : List ℕ). last_of (others c.args.id ids)) c.self.view_is
