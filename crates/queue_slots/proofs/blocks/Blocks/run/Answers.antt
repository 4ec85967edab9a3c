use Rattle.std.proofs.Common.{◌≡◌, List, [], ◌+◌, length, drop, ap, sym, subst, ◌∙◌, arith}
use Rattle.std.specs.List.{slice_range}
use Rattle.std.proofs.lemmas.List.{get_or_read, length-map}
use Rattle.queue_slots.specs.declared.entry.Slot.{Slot}
use Rattle.queue_slots.specs.Slots.{entries_of}
use Rattle.queue_slots.specs.Blocks.{IsSpot}
use Rattle.queue_slots.proofs.Exchanges.{spot-inside, spot-sum}
use Rattle.queue_slots.proofs.Lent.{lent}
use Rattle.queue_slots.proofs.blocks.Blocks.run.Goals as goal

pub returns-clause-part : goal.returns-clause-part
returns-clause-part c =
    let bs = c.self.inside.blocks.items in
    let position = c.args.position in
    let at = c.seek-at.result.0 in
    let o = c.seek-at.result.1 in
    let spot = subst (λ (x : List (List Slot)). IsSpot x 0 position at o) c.deref.ensures.value c.seek-at.ensures in
    let view = ap (λ x. length x) c.self.view_is in
    let found = spot-inside bs 0 position at o (omega arith) spot (omega arith) in
    let inside = found.0 in
    let is = c.rest.ensures ∙ ap (λ x. drop o (entries_of x)) (get_or_read bs at c.index.result.now (omega arith) c.index.ensures []) in
    let long : length (entries_of c.rest.result.now) ≡ length c.rest.result.now = length-map c.rest.result.now (λ (s : Slot). s.entry) in
    is ∙ lent bs position at o inside found.1 (spot-sum bs position at o spot)
    ∙ (λ t. slice_range (entries_of (c.self.view_is t)) position (position + (ap (λ x. length x) (sym is) ∙ long) t))
