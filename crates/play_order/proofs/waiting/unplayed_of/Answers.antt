use Rattle.std.proofs.Common.{◌∙◌, ap, sym, ℕ, not, List, arith}
use Rattle.play_order.specs.Waits.{Key}
use Rattle.play_order.proofs.Waits.{unplayed-more-in, unplayed-more-out}
use Rattle.play_order.proofs.waiting.unplayed_of.Goals as goal
use Rattle.play_order.proofs.waiting.unplayed_of.Goals.{then-not-has+in_ok-insert, else-not-has}

pub loop-key-preserved : goal.loop-key-preserved
loop-key-preserved c =
    let known : List Key = c.args.known.now in
    let i : ℕ = c.loop-key.key-index in
    λ k.
    elim c.if-not-has.branch [
      | then-not-has+in_ok-insert w ↦
          rw w.keys-is (w.in_ok-insert.ensures.updates.0 k ∙ unplayed-more-in c.args.played.now known i (0, 0, 0) k _ (omega arith) (sym (ap not w.if-not-has.ensures)) (c.loop-key.invariant k))
      | else-not-has w ↦ rw w.keys-is (c.loop-key.invariant k ∙ unplayed-more-out c.args.played.now known i (0, 0, 0) k (omega arith) (sym (ap not w.if-not-has.ensures)))
    ]
