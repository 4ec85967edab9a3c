use Rattle.std.proofs.Common.{◌≡◌, ℕ, List, length, ap, sym, subst, ◌∙◌, ◌++◌, arith}
use Rattle.std.specs.Prelude.{OnOk}
use Rattle.std.specs.List.{range_with_len}
use Rattle.std.proofs.lemmas.List.{append-nil, length-map}
use Rattle.queue_slots.specs.declared.entry.Slot.{Slot}
use Rattle.queue_slots.specs.Slots.{entries_of}
use Rattle.queue_slots.specs.Blocks.{shown_as}
use Rattle.queue_slots.proofs.Changes.{positions, positions-none, positions-all}
use Rattle.queue_slots.proofs.block.Block.push_changed.Goals as goal

pub returns-then-not-shows : goal.returns-then-not-shows
returns-then-not-shows c =
    let b = c.self.inside in
    let v = c.args.version in
    let p = c.args.present in
    let now = c.args.positions.now.items in
    sym (append-nil now) ∙ ap (λ x. now ++ x) (sym (positions-none v p c.args.at b.top b.marked _ (sym c.shows.ensures ∙ c.if-not-shows.true) c.self.invariant.within) ∙ ap (λ x. positions v p c.args.at x) c.self.view_is)

pub returns-then-self : goal.returns-then-self
returns-then-self c =
    let b = c.self.inside in
    let v = c.args.version in
    let p = c.args.present in
    let at = c.args.at in
    let long : length (entries_of b.slots.items) ≡ length b.slots.items = length-map b.slots.items (λ (s : Slot). s.entry) in
    let n : c.len.result ≡ length (entries_of b.slots.items) = omega arith in
    let is = ap (λ (k : ℕ). range_with_len at k) n ∙ sym (positions-all v p at b.top b.marked (entries_of b.slots.items) (sym c.shows.ensures ∙ c.if-not-shows.false))
    ∙ ap (λ x. positions v p at x) (ap (λ a. shown_as a b.top b.marked b.slots.items) (sym c.if-self.true) ∙ c.self.view_is) in
    subst (λ (x : List ℕ). OnOk c.push_all.result (c.push_all.new.positions.items ≡ c.args.positions.now.items ++ x)) is c.push_all.ensures

pub returns : goal.returns
returns c =
    let b = c.self.inside in
    let is = c.deref.ensures.value ∙ ap (λ a. shown_as a b.top b.marked b.slots.items) (sym c.if-self.false) ∙ c.self.view_is in
    subst (λ (x : List Slot). OnOk c.push_shown.result (c.push_shown.new.positions.items ≡ c.args.positions.now.items ++ positions c.args.version c.args.present c.args.at x)) is c.push_shown.ensures
