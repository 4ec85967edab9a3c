use Rattle.std.proofs.Common.{◌≡◌, ◌∙◌, ◌+◌, ◌≤◌, ◌++◌, length, take, drop, ap, sym, refl, arith, length-append}
use Rattle.std.specs.Vec.{with_items}
use Rattle.std.proofs.lemmas.List.{drop-append-le, with_items_is, length-take-le, length-map}
use Rattle.output_ring.specs.Ends.{popped_from}
use Rattle.output_ring.specs.Frames.{came_into, with_cut}
use Rattle.output_ring.specs.Rings.{hand_of}
use Rattle.output_ring.specs.Runs.{cuts_of, paired}
use Rattle.output_ring.proofs.Pairs.{paired-push, length-push}
use Rattle.output_ring.proofs.drainer.Drainer.pop_run.Goals as goal

-- the hand with the frames that came
whole : (c : goal.After-push_reserved) → paired (cuts_of c.push_reserved.new.self.items) (take (c.args.self.now.held + c.pop_after-count.result) (with_items c.args.self.now.slots c.pop_after-count.new.slots).items)
    ≡ hand_of c.args.self.now ++ with_cut c.pop_after-count.new.outlet.cut (came_into c.pop_after-count.new.slots c.args.self.now.held c.pop_after-count.result)
whole c =
    let old = c.args.self.now in
    let popped = c.pop_after-count in
    let long : length popped.new.slots ≡ old.slots.len = popped.ensures.length ∙ c.deref_mut.ensures.len in
    let value : take old.held c.deref_mut.result.now ≡ take old.held old.slots.items = ap (take old.held) c.deref_mut.ensures.value in
    let slots = with_items_is old.slots popped.new.slots long in
    let within : old.held ≤ length old.slots.items = omega arith in
    let held = length-take-le old.held old.slots.items within in
    let came = came_into popped.new.slots old.held popped.result in
    paired-push old.runs.items old.runs.items _ _ (take old.held old.slots.items) came _ (old.runs_are ∙ sym held) refl c.push_reserved.ensures.items
    (ap (take (old.held + popped.result)) slots ∙ popped.ensures.hand ∙ ap (λ l. l ++ came) value) (sym popped.ensures.count.1)

pub invariant_of-self-clause-runs_are : goal.invariant_of-self-clause-runs_are
invariant_of-self-clause-runs_are c = length-push _ _ _ c.args.self.now.held c.push_reserved.ensures.items c.args.self.now.runs_are

pub invariant_of-self-clause-hand_is : goal.invariant_of-self-clause-hand_is
invariant_of-self-clause-hand_is c =
    let old = c.args.self.now in
    let popped = c.pop_after-count in
    let settled = old.totals.written + old.totals.discarded in
    let came = with_cut popped.new.outlet.cut (came_into popped.new.slots old.held popped.result) in
    let few : settled ≤ length (popped_from old.outlet) = omega (arith, old.counted) in
    whole c ∙ ap (λ l. l ++ came) old.hand_is ∙ sym (drop-append-le settled (popped_from old.outlet) came few) ∙ ap (drop settled) (sym popped.ensures.popped)

pub invariant_of-self-clause-hand_long : goal.invariant_of-self-clause-hand_long
invariant_of-self-clause-hand_long c =
    let old = c.args.self.now in
    let popped = c.pop_after-count in
    let frames = came_into popped.new.slots old.held popped.result in
    let came = with_cut popped.new.outlet.cut frames in
    ap length (whole c) ∙ length-append (hand_of old) came ∙ ap (λ n. n + length came) old.hand_long ∙ ap (λ n. old.held + n) (length-map frames _ ∙ popped.ensures.count.1)
