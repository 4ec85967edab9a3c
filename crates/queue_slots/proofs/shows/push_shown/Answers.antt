use Rattle.std.proofs.Common.{◌≡◌, ℕ, List, cond, ltb, ◌||◌, ap, sym, ◌∙◌, ◌++◌, ◌∷◌, [], ◌+◌, take, length, get_or, append_assoc, arith}
use Rattle.std.proofs.lemmas.List.{take_more, length-take-le}
use Rattle.queue_slots.specs.declared.entry.Slot.{Slot}
use Rattle.queue_slots.proofs.Changes.{positions, positions-append, positions-one}
use Rattle.queue_slots.proofs.shows.push_shown.Goals as goal

pub loop-step-preserved : goal.loop-step-preserved
loop-step-preserved c =
    let v = c.args.version in
    let p = c.args.present in
    let k = c.loop-step.step in
    let at = c.args.at in
    let ss = c.args.slots.now in
    let slot = c.index-slots-step.result in
    let now = c.args.positions.now.items in
    let n : length (take k ss) ≡ k = length-take-le k ss (omega arith) in
    let more = take_more ss k slot (omega arith) in
    let one : List ℕ = cond (slot.marked || ltb v slot.stamp || ltb p v) ((at + k) ∷ []) [] in
    c.in_ok-push_one.ensures ∙ ap (λ x. x ++ one) c.loop-step.invariant ∙ append_assoc now (positions v p at (take k ss)) one
    ∙ ap (λ x. now ++ (positions v p at (take k ss) ++ x)) (sym (positions-one v p (at + k) slot) ∙ ap (λ (s : Slot). positions v p (at + k) (s ∷ [])) c.index-slots-step.is)
    ∙ ap (λ (m : ℕ). now ++ (positions v p at (take k ss) ++ positions v p (at + m) (get_or ss k slot ∷ []))) (sym n)
    ∙ ap (λ x. now ++ x) (sym (positions-append v p at (take k ss) (get_or ss k slot ∷ [])) ∙ ap (λ x. positions v p at x) (sym more))
