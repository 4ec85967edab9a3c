use Rattle.std.proofs.Common.{ℕ, List, refl, subst, arith}
use Rattle.std.specs.declared.ops.Range.{Range}
use Rattle.std.proofs.lemmas.Bool.{false≢true, iff_false}
use Rattle.std.proofs.lemmas.List.{take_all}
use Rattle.song_queue.proofs.Priorities.{AllHave, AllHave-more, part-same, with_priority-same}
use Rattle.song_queue.proofs.slots.have_priority.Goals as goal

abbrev none : Range ℕ
none = record { start = 0; end = 0 }

pub returns-then-not-part_has_priority : goal.returns-then-not-part_has_priority
returns-then-not-part_has_priority c =
    let i = c.loop-range.range-index in (
      λ no. absurd (false≢true no),
      λ same. absurd (iff_false c.part_has_priority.ensures c.if-not-part_has_priority.true
          (part-same c.args.priority c.args.ranges.now c.args.slots.now i none (omega arith) (c.requires i none (omega arith)).1 same)),
    )

pub loop-range-preserved : goal.loop-range-preserved
loop-range-preserved c =
    let i = c.loop-range.range-index in
    AllHave-more c.args.priority c.args.ranges.now c.args.slots.now i none (omega arith) (c.requires i none (omega arith)).1 c.loop-range.invariant (c.part_has_priority.ensures.0 c.if-not-part_has_priority.false)

pub returns : goal.returns
returns c =
    let ranges = c.args.ranges.now in (
      λ _. with_priority-same c.args.priority ranges c.args.slots.now
          (subst (λ (rs : List (Range ℕ)). AllHave c.args.priority rs c.args.slots.now) (take_all c.loop-range.range-index ranges (omega arith)) c.loop-range.invariant),
      λ _. refl,
    )
