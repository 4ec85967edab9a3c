use Rattle.std.proofs.Common.{◌≡◌, IsTrue, true, false, List, length, drop, get_or, arith, sym, ap, subst, ◌∙◌}
use Rattle.std.specs.Prelude.{◌↔◌}
use Rattle.filters.specs.Expressions.{Expression}
use Rattle.filters.specs.Views.{expression_of}
use Rattle.filters.specs.Truth.{Holds}
use Rattle.filters.proofs.Truths.{HoldAll, one_refuted, two_refuted, more_refuted, all_shown}
use Rattle.filters.proofs.expression.Filter.+matches.Goals as goal

pub returns-then-not-branch-clause-truth : goal.returns-then-not-branch-clause-truth
returns-then-not-branch-clause-truth t c =
    subst (λ (f : Expression). IsTrue false ↔ Holds c.args.case f c.args.song.now) (sym (ap expression_of c.in-All.is) ∙ c.self.view_is)
    (one_refuted c.args.case c.in-All.one.value c.in-All.two.value c.in-All.more.items c.args.song.now
    (λ h. let met = c.in_ok-matches-in-All.ensures.truth.1 (subst (λ (f : Expression). Holds c.args.case f c.args.song.now) (sym c.deref-in-All.ensures) h) in
    let missed = c.if-not-branch.true in cc))

pub returns-then-not-branch-2-clause-truth : goal.returns-then-not-branch-2-clause-truth
returns-then-not-branch-2-clause-truth t c =
    subst (λ (f : Expression). IsTrue false ↔ Holds c.args.case f c.args.song.now) (sym (ap expression_of c.in-All.is) ∙ c.self.view_is)
    (two_refuted c.args.case c.in-All.one.value c.in-All.two.value c.in-All.more.items c.args.song.now
    (λ h. let met = c.in_ok-matches-in-All-2.ensures.truth.1 (subst (λ (f : Expression). Holds c.args.case f c.args.song.now) (sym c.deref-in-All-2.ensures) h) in
    let missed = c.if-not-branch-2.true in cc))

pub returns-then-not-branch-3-clause-truth : goal.returns-then-not-branch-3-clause-truth
returns-then-not-branch-3-clause-truth t c =
    let rest = subst (λ (es : List Expression). HoldAll c.args.case es c.args.song.now ↔ HoldAll c.args.case (drop c.loop-filter.filter-index es) c.args.song.now) c.deref-filter-items.ensures.value c.loop-filter.invariant in
    subst (λ (f : Expression). IsTrue false ↔ Holds c.args.case f c.args.song.now) (sym (ap expression_of c.in-All.is) ∙ c.self.view_is)
    (more_refuted c.args.case c.in-All.one.value c.in-All.two.value c.in-All.more.items c.args.song.now c.loop-filter.filter-index c.filter-item.result
    (let here = c.loop-filter-test.true in let same = ap length c.deref-filter-items.ensures.value in omega (arith, here, same))
    (subst (λ (es : List Expression). c.filter-item.result ≡ get_or es c.loop-filter.filter-index c.filter-item.result) c.deref-filter-items.ensures.value c.filter-item.is)
    rest
    (λ h. let met = c.in_ok-matches-in-All-3.ensures.truth.1 h in let missed = c.if-not-branch-3.true in cc))

pub returns-after-loop-filter-clause-truth : goal.returns-after-loop-filter-clause-truth
returns-after-loop-filter-clause-truth t c =
    let rest = subst (λ (es : List Expression). HoldAll c.args.case es c.args.song.now ↔ HoldAll c.args.case (drop c.loop-filter.filter-index es) c.args.song.now) c.deref-filter-items.ensures.value c.loop-filter.invariant in
    subst (λ (f : Expression). IsTrue true ↔ Holds c.args.case f c.args.song.now) (sym (ap expression_of c.in-All.is) ∙ c.self.view_is)
    (all_shown c.args.case c.in-All.one.value c.in-All.two.value c.in-All.more.items c.args.song.now c.loop-filter.filter-index
    (let here = c.loop-filter-test.false in let same = ap length c.deref-filter-items.ensures.value in omega (arith, here, same))
    (subst (λ (f : Expression). Holds c.args.case f c.args.song.now) c.deref-in-All.ensures (c.in_ok-matches-in-All.ensures.truth.0 c.if-not-branch.false))
    (subst (λ (f : Expression). Holds c.args.case f c.args.song.now) c.deref-in-All-2.ensures (c.in_ok-matches-in-All-2.ensures.truth.0 c.if-not-branch-2.false))
    rest)
