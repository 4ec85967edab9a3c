use Rattle.std.proofs.Common.{◌≡◌, ◌+◌, List, take, sym, arith}
use Rattle.std.specs.List.{slice_range}
use Rattle.std.proofs.lemmas.Bool.{false≢true, iff_false}
use Rattle.queue_slots.specs.declared.entry.Entry.{Entry}
use Rattle.queue_slots.specs.declared.entry.Slot.{Slot}
use Rattle.queue_slots.proofs.Lent.{All-entries, entries-lent, All-inside, All-longer}
use Rattle.queue_slots.proofs.blocks.Blocks.part_has_priority.Goals as goal

pub returns-then-not-all_have_priority : goal.returns-then-not-all_have_priority
returns-then-not-all_have_priority c =
    let S = c.args.self.now in
    let R : List Slot = c.run-run.result.now in
    let at = c.loop-at.at in
    let count = c.min-count.result in
    let P : Slot → Type 0 = λ s. s.entry.priority ≡ c.args.priority in
    let same = entries-lent S R at count c.run-run.ensures.part (omega arith) in (
      λ no. absurd (false≢true no),
      λ all. absurd (iff_false c.all_have_priority.ensures c.if-not-all_have_priority.true
          (All-entries (λ (e : Entry). e.priority ≡ c.args.priority) (slice_range S at (at + count)) (take count R) (sym same) (All-inside P S c.args.start at (at + count) c.args.end c.loop-at.invariant.low (omega arith) (omega arith) all))),
    )

pub loop-at-preserved : goal.loop-at-preserved
loop-at-preserved c =
    let S = c.args.self.now in
    let R : List Slot = c.run-run.result.now in
    let at = c.loop-at.at in
    let count = c.min-count.result in
    let P : Slot → Type 0 = λ s. s.entry.priority ≡ c.args.priority in
    let same = entries-lent S R at count c.run-run.ensures.part (omega arith) in
    let more = All-entries (λ (e : Entry). e.priority ≡ c.args.priority) (take count R) (slice_range S at (at + count)) same (c.all_have_priority.ensures.0 c.if-not-all_have_priority.false) in
    record {
      low = omega arith;
      high = omega arith;
      all = All-longer P S c.args.start at (at + count) c.loop-at.invariant.low (omega arith) c.loop-at.invariant.all more;
    }
