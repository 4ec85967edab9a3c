use Rattle.std.proofs.Common.{◌≡◌, ◌∙◌, ◌+◌, length, ap, sym, arith, length-append}
use Rattle.output_ring.specs.Rings.{came_of}
use Rattle.output_ring.proofs.Comings.{all_came, came_both, comes_more}
use Rattle.output_ring.proofs.drainer.Drainer.pop.Goals as goal

pub loop-count-preserved : goal.loop-count-preserved
loop-count-preserved c =
    let old = c.args.self.now in
    let here = c.loop-count.self in
    let new = c.pop_run-more.new.self in
    let before = c.loop-count.invariant in
    let more = c.pop_run-more.ensures in
    record {
      comes = comes_more old here new before.comes more.comes;
      count = ap length (came_both old here new before.comes more.comes) ∙ length-append (came_of old here) (came_of here new) ∙ ap (λ n. n + length (came_of here new)) before.count ∙ ap (λ n. c.loop-count.count + n) (sym more.count);
      order = more.order;
    }

pub returns-then-more-eq0-clause-known : goal.returns-then-more-eq0-clause-known
returns-then-more-eq0-clause-known c =
    (comes_more c.args.self.now c.loop-count.self c.pop_run-more.new.self c.loop-count.invariant.comes c.pop_run-more.ensures.comes).known

pub returns-then-more-eq0-clause-all : goal.returns-then-more-eq0-clause-all
returns-then-more-eq0-clause-all c =
    let old = c.args.self.now in
    let here = c.loop-count.self in
    let new = c.pop_run-more.new.self in
    let before = c.loop-count.invariant in
    let more = c.pop_run-more.ensures in
    let count : length (came_of old new) ≡ c.loop-count.count = ap length (came_both old here new before.comes more.comes) ∙ length-append (came_of old here) (came_of here new) ∙ (omega (arith, before.count, more.count, c.if-more-eq0.true)) in
    all_came old new c.loop-count.count (comes_more old here new before.comes more.comes) count (more.stops c.if-more-eq0.true)
