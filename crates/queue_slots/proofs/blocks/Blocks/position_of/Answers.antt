use Rattle.std.proofs.Common.{◌≡◌, ◌≢◌, ◌<◌, List, get_or, ap, sym, subst, length, refl, ◌∙◌, arith}
use Rattle.std.specs.Prelude.{All}
use Rattle.queue_slots.specs.declared.entry.Slot.{Slot}
use Rattle.queue_slots.specs.Blocks.{joined}
use Rattle.queue_slots.proofs.Positions.{position-found, position-none}
use Rattle.queue_slots.proofs.blocks.Blocks.position_of.Goals as goal

pub returns-in-Some-clause-first_position : goal.returns-in-Some-clause-first_position
returns-in-Some-clause-first_position c =
    let e : joined c.deref.result.now ≡ c.args.self.now = ap (λ x. joined x) c.deref.ensures.value ∙ c.self.view_is in
    sym (position-found c.args.self.now c.args.id c.in-Some.first_position c.requires (subst (λ (x : List Slot). c.in-Some.first_position < length x) e c.in-Some.ensures.found.0) (λ d. subst (λ (x : List Slot). (get_or x c.in-Some.first_position d).entry.id ≡ c.args.id) e (c.in-Some.ensures.found.1 d)))

pub returns-in-Some-seek_id-clause-first_position : goal.returns-in-Some-seek_id-clause-first_position
returns-in-Some-seek_id-clause-first_position c =
    let e : joined c.deref-2.result.now ≡ c.args.self.now = ap (λ x. joined x) c.deref-2.ensures.value ∙ c.self.view_is in
    sym (position-found c.args.self.now c.args.id c.in-Some-seek_id.first_position c.requires (subst (λ (x : List Slot). c.in-Some-seek_id.first_position < length x) e c.in-Some-seek_id.ensures.found.0) (λ d. subst (λ (x : List Slot). (get_or x c.in-Some-seek_id.first_position d).entry.id ≡ c.args.id) e (c.in-Some-seek_id.ensures.found.1 d)))

pub returns-in-None-clause-first_position : goal.returns-in-None-clause-first_position
returns-in-None-clause-first_position c =
    let e : joined c.deref-2.result.now ≡ c.args.self.now = ap (λ x. joined x) c.deref-2.ensures.value ∙ c.self.view_is in
    sym (position-none c.args.self.now c.args.id (subst (λ (x : List Slot). All (λ (s : Slot). s.entry.id ≢ c.args.id) x) e (c.in-None.ensures.none refl)))

pub returns-in-Some-clause-within : goal.returns-in-Some-clause-within
returns-in-Some-clause-within c =
    let e : joined c.deref.result.now ≡ c.args.self.now = ap (λ x. joined x) c.deref.ensures.value ∙ c.self.view_is in
    let view = ap (λ x. length x) c.self.view_is in
    let long = c.self.invariant.len in
    let less = subst (λ (x : List Slot). c.in-Some.first_position < length x) e c.in-Some.ensures.found.0 in
    (less, omega arith)

pub returns-in-Some-seek_id-clause-within : goal.returns-in-Some-seek_id-clause-within
returns-in-Some-seek_id-clause-within c =
    let e : joined c.deref-2.result.now ≡ c.args.self.now = ap (λ x. joined x) c.deref-2.ensures.value ∙ c.self.view_is in
    let view = ap (λ x. length x) c.self.view_is in
    let long = c.self.invariant.len in
    let less = subst (λ (x : List Slot). c.in-Some-seek_id.first_position < length x) e c.in-Some-seek_id.ensures.found.0 in
    (less, omega arith)
