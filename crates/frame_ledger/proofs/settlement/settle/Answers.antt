use Rattle.std.proofs.Common.{◌+◌, ◌∙◌, ap, sym, arith}
use Rattle.std.proofs.lemmas.Grind.{common_steps}
use Rattle.output_ring.specs.Rings.{ring_of}
use Rattle.output_ring.specs.declared.frames.Totals.{Totals}
use Rattle.frame_ledger.specs.declared.settlement.Settled.{Settled}
use Rattle.output_ring.proofs.Bounds.{left_fits}
use Rattle.frame_ledger.proofs.Settles.{settles, taken_length}
use Rattle.frame_ledger.proofs.settlement.settle.Goals as goal

pub returns-clause-agrees : goal.returns-clause-agrees
returns-clause-agrees g c = λ taken some agrees.
    let later = c.after.new.self in
    let t = taken_length c.args.end later taken (ring_of later) some agrees.took c.in-Some.ensures.all.1 in
    grind (arith, common_steps, t, c.totals.ensures, c.left_of-left.ensures, c.in-Some.ensures.all.0, c.after.ensures.kept, agrees.taken_is, c.compare.ensures.agrees, c.number.ensures, c.count_fates-counted.ensures.decoded)

pub returns-in-Some-compare-clause-balances : goal.returns-in-Some-compare-clause-balances
returns-in-Some-compare-clause-balances g c =
    let kept = c.after.ensures.kept in
    let totals = c.totals.ensures in
    let is = c.in-Some-compare.ensures.numbers in
    settles c.args.end c.args.drainer c.after.new.self c.in-Some-compare.settled kept.0 kept.2 kept.3 c.in-Some.ensures.all.1
    (ap (λ (s : Settled). s.written) is ∙ ap (λ (t : Totals). t.written) totals.totals)
    (ap (λ (s : Settled). s.discarded) is ∙ ap (λ (t : Totals). t.discarded) totals.totals)
    (ap (λ (s : Settled). s.torn) is ∙ ap (λ (t : Totals). t.torn) totals.totals)
    (ap (λ (s : Settled). s.written + s.discarded) is ∙ totals.count)
    (ap (λ (s : Settled). s.left) is ∙ grind (arith, common_steps, c.left_of-left.ensures, c.in-Some.ensures.all.0, c.after.ensures.end.0))
    (ap (λ (s : Settled). s.decoded) is ∙ sym (ap (λ (s : Settled). (s.written + s.discarded) + s.left) is))

pub left_of-left-requires : goal.left_of-left-requires
left_of-left-requires g c =
    let fits = left_fits c.after.new.self c.after.new.end in
    omega (arith, fits, c.in-Some.ensures.all.0)
