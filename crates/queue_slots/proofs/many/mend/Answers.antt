use Rattle.std.proofs.Common.{◌≡◌, ℕ, suc, ◌+◌, ◌<◌, ◌++◌, [], List, length, get_or, set, ap, sym, subst, ◌∙◌, arith}
use Rattle.std.proofs.Math.Numerals.{add-one}
use Rattle.std.specs.List.{remove}
use Rattle.queue_slots.specs.declared.entry.Slot.{Slot}
use Rattle.queue_slots.specs.Blocks.{joined}
use Rattle.queue_slots.proofs.Joined.{merged, joined-merged, paired-merged}
use Rattle.queue_slots.proofs.many.mend.Goals as goal

pub loop-at-preserved-then-len-le256 : goal.loop-at-preserved-then-len-le256
loop-at-preserved-then-len-le256 c =
    let bs = c.loop-at.blocks.items in
    let at = c.loop-at.at in
    let is : c.join_next.new.blocks.items ≡ merged bs at = c.join_next.ensures.blocks ∙ ap (λ (n : ℕ). set (remove bs n) at (get_or bs at [] ++ get_or bs n [])) (add-one at) in
    let l : suc at < length bs = omega arith in
    record {
      same = ap (λ x. joined x) is ∙ joined-merged bs at l ∙ c.loop-at.invariant.same;
      paired = λ k less. subst (λ (x : List (List Slot)). 256 < length (get_or x k []) + length (get_or x (k + 1) [])) (sym is) (paired-merged bs at k l less (c.loop-at.invariant.paired k less));
      high = omega arith;
      total = omega arith;
      blocks_room = omega arith;
      spare_room = omega arith;
    }
