use Rattle.std.proofs.Common.{ℕ, ap}
use Rattle.play_order.proofs.Waits.{same_pairs-at}
use Rattle.play_order.proofs.waiting.same_run.Goals as goal
use Rattle.play_order.proofs.waiting.same_run.Goals.{then-entry-key-via-then-entry-key, then-entry-key-via-else-entry-key+then-entry-key-2}

pub returns-then-entry-key : goal.returns-then-entry-key
returns-then-entry-key c = (
  λ e. cc,
  λ h.
      let same_pairs = same_pairs-at c.args.run.now c.args.known.now c.loop-position.position c.index-run-position.result (0, 0, 0) c.loop-position-test.true h in
      elim c.then-entry-key.branch [
        | then-entry-key-via-then-entry-key w ↦ absurd (w.if-entry-key.true (ap (λ (t : ℕ × ℕ). t.1) same_pairs))
        | then-entry-key-via-else-entry-key+then-entry-key-2 w ↦ absurd (w.if-entry-key-2.true (ap (λ (t : ℕ × ℕ). t.0) same_pairs))
      ],
)
