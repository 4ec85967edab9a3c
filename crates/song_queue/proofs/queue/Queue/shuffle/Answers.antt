use Rattle.std.proofs.Common.{◌≡◌, ◌≢◌, ◌≤◌, List, length, map, ap, sym, subst, ◌∙◌, arith}
use Rattle.std.specs.List.{slice_range}
use Rattle.std.proofs.lemmas.Bool.{OnFalse_at, iff_false}
use Rattle.std.proofs.lemmas.List.{take_at}
use Rattle.queue_slots.specs.declared.entry.Slot.{Slot}
use Rattle.queue_slots.specs.Slots.{with_put_back}
use Rattle.song_queue.specs.Fields.{state_in}
use Rattle.song_queue.specs.Shuffles.{shuffled}
use Rattle.song_queue.specs.State.{QueueState, IsQueue, kept, shuffled_state, stamped_by}
use Rattle.song_queue.proofs.Parts.{part-same, part-is}
use Rattle.song_queue.proofs.Shuffles.{slot_ids, IsQueue-shuffled}
use Rattle.song_queue.proofs.queue.Queue.shuffle.Goals as goal

pub returns-then-have_ids-clause-ok : goal.returns-then-have_ids-clause-ok
returns-then-have_ids-clause-ok c =
    let q : QueueState = state_in c.self.inside in
    let start = c.args.range.start in
    let end = c.args.range.end in
    let words = c.args.words.now in
    let fits = OnFalse_at c.if-lies_outside.false c.lies_outside.ensures.within in
    let order : start ≤ end = fits.0 in
    let low : end ≤ c.len.result = fits.1 in
    let within : end ≤ length q.slots = omega arith in
    let left : List Slot → List Slot = λ ss. shuffled ss 0 (length ss) words in
    let slots = c.deref-2.ensures.value ∙ take_at c.shuffle_slots.new.slots _ c.in_ok-part.part.len (omega arith) ∙ c.shuffle_slots.ensures ∙ ap left (c.as_mut_slice.ensures.value ∙ c.in_ok-part.ensures) in
    let ids = c.deref-3.ensures.value ∙ c.in_ok-ids.ensures ∙ ap slot_ids (c.deref.ensures.value ∙ c.in_ok-part.ensures) in
    let P : QueueState → Type 0 = λ x. x ≡ shuffled_state x start end words in
    subst P c.self.view_is (part-same q c.self.invariant start end words order within (ap slot_ids (sym slots) ∙ c.have_ids.ensures.0 c.if-have_ids.true ∙ ids))

pub returns-clause-ok : goal.returns-clause-ok
returns-clause-ok c =
    let q : QueueState = state_in c.self.inside in
    let start = c.args.range.start in
    let end = c.args.range.end in
    let words = c.args.words.now in
    let v = c.version_after-version.result.0 in
    let w = c.version_after-version.result.1 in
    let fits = OnFalse_at c.if-lies_outside.false c.lies_outside.ensures.within in
    let order : start ≤ end = fits.0 in
    let low : end ≤ c.len.result = fits.1 in
    let within : end ≤ length q.slots = omega arith in
    let left : List Slot → List Slot = λ ss. shuffled ss 0 (length ss) words in
    let part : List Slot = slice_range q.slots start end in
    let slots = take_at c.shuffle_slots.new.slots _ c.in_ok-part.part.len (omega arith) ∙ c.shuffle_slots.ensures ∙ ap left (c.as_mut_slice.ensures.value ∙ c.in_ok-part.ensures) in
    let known = c.in_ok-ids.ensures ∙ ap slot_ids (c.deref.ensures.value ∙ c.in_ok-part.ensures) in
    let other : slot_ids (left part) ≢ slot_ids part = λ same. iff_false c.have_ids.ensures c.if-have_ids.false
    (ap slot_ids (c.deref-2.ensures.value ∙ slots) ∙ same ∙ sym (c.deref-3.ensures.value ∙ known)) in
    let stamped = take_at c.stamp_others.new.slots _ c.in_ok-part.part.len (omega arith) ∙ c.stamp_others.ensures
    ∙ (λ i. stamped_by v w ((c.deref-4.ensures.value ∙ known) i) ((c.as_mut_slice-2.ensures.value ∙ slots) i)) in
    part-is q c.self.invariant start end words order within v w _ c.version_after-version.ensures.next c.version_after-version.ensures.wraps other
    (c.put_back.ensures ∙ ap (λ (x : List Slot). with_put_back (map (kept w) q.slots) start x) stamped)
    ∙ ap (λ x. shuffled_state x start end words) c.self.view_is

pub invariant_of-self : goal.invariant_of-self
invariant_of-self c =
    let fits : c.args.range.end ≤ c.len.result = (OnFalse_at c.if-lies_outside.false c.lies_outside.ensures.within).1 in
    subst IsQueue (ap (λ x. shuffled_state x c.args.range.start c.args.range.end c.args.words.now) c.self.view_is ∙ sym (returns-clause-ok c))
    (IsQueue-shuffled (state_in c.self.inside) c.self.invariant c.args.range.start c.args.range.end c.args.words.now (omega arith))
