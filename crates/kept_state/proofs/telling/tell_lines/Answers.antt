use Rattle.std.proofs.Common.{◌≡◌, ◌∙◌, ◌+◌, [], length, min, drop, false, refl, sym, ap, subst, arith}
use Rattle.std.proofs.Math.Seq.{drop-length}
use Rattle.std.proofs.lemmas.Iterator.Consumers.{YieldsList-end, YieldsList-turn}
use Rattle.std.proofs.lemmas.Iterator.Splits.{YieldsList-from_lines}
use Rattle.std.proofs.lemmas.List.{length_push}
use Rattle.std.specs.Str.Lines.{lines}
use Rattle.kept_state.proofs.OneLine.{LeadsOn, all_told, leads_on, none_more}
use Rattle.kept_state.specs.Telling.{count_of, steps_in}
use Rattle.kept_state.proofs.telling.tell_lines.Goals as goal

pub told-init : goal.told-init
told-init g c =
    (0, refl, λ more after told. none_more g.H.Hearer.hears (steps_in false (lines c.args.text.now)) c.args.hearer.now after more told)

pub told-preserved : goal.told-preserved
told-preserved g c =
    let all = lines c.args.text.now in
    let inv = c.told.invariant in
    let count = inv.0 in
    let counted : c.told.refused ≡ min count 18446744073709551615 = inv.1 in
    let turn = YieldsList-turn (YieldsList-from_lines c.args.text.now cc) c.told.yielded _ c.told.yielded_by _ _ c.in-Some.line c.in-Some.is c.next.ensures.steps in
    let lead = leads_on g.H.Hearer.hears all c.args.hearer.now c.told.hearer c.tell_line.new.hearer (length c.told.yielded) count c.told.course c.in_ok-is_refused.next c.in-Some.line.now c.in_ok-is_refused.is_refused turn c.in_ok-is_refused.ensures inv.2 in
    let now : c.counted-refused.result ≡ min (count + count_of c.in_ok-is_refused.is_refused) 18446744073709551615 = omega (arith, counted, c.counted-refused.ensures) in (
      count + count_of c.in_ok-is_refused.is_refused,
      now,
      subst (λ done. LeadsOn g.H.Hearer.hears all c.args.hearer.now done c.in_ok-is_refused.next (count + count_of c.in_ok-is_refused.is_refused) c.tell_line.new.hearer) (sym (length_push c.told.yielded c.in-Some.line)) lead,
    )

pub returns : goal.returns
returns g c =
    let all = lines c.args.text.now in
    let inv = c.told.invariant in
    let t = YieldsList-end (YieldsList-from_lines c.args.text.now cc) c.told.yielded _ c.told.yielded_by _ _ c.in-None.is c.next.ensures.steps in
    let none : drop (length c.told.yielded) all ≡ [] = ap (λ n. drop n all) t.1 ∙ drop-length all in
    (inv.0, all_told g.H.Hearer.hears all c.args.hearer.now c.told.hearer (length c.told.yielded) inv.0 c.told.course none inv.2, inv.1)
