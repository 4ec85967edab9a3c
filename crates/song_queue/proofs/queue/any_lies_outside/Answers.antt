use Rattle.std.proofs.Common.{◌≤◌, ℕ, List, subst, arith}
use Rattle.std.specs.Prelude.{All}
use Rattle.std.specs.declared.ops.Range.{Range}
use Rattle.std.proofs.lemmas.Bool.{OnFalse_at}
use Rattle.std.proofs.lemmas.List.{take_all}
use Rattle.std.proofs.lemmas.List.Elements.{All-more}
use Rattle.song_queue.proofs.queue.any_lies_outside.Goals as goal

pub loop-range-preserved : goal.loop-range-preserved
loop-range-preserved c =
    All-more (λ r. (r.start ≤ r.end) × (r.end ≤ c.args.len)) c.args.ranges.now c.loop-range.range-index (record { start = 0; end = 0 }) (omega arith) c.loop-range.invariant
    (OnFalse_at c.if-lies_outside.false c.lies_outside.ensures.within)

pub returns-clause-within : goal.returns-clause-within
returns-clause-within c =
    subst (λ (rs : List (Range ℕ)). All (λ r. (r.start ≤ r.end) × (r.end ≤ c.args.len)) rs) (take_all c.loop-range.range-index c.args.ranges.now (omega arith)) c.loop-range.invariant
