use Rattle.std.proofs.Common.{[], ◌∷◌, map, sym, subst, List, ℕ, Bor}
use Rattle.std.proofs.lemmas.Iterator.Consumers.{YieldsList-end}
use Rattle.std.proofs.lemmas.Iterator.Splits.{YieldsList-from_lines}
use Rattle.std.proofs.lemmas.List.{map-append}
use Rattle.std.specs.Str.Lines.{lines}
use Rattle.kept_state.proofs.Told.{heard_more, kept_told_ok}
use Rattle.kept_state.specs.Heard.{HasHeard}
use Rattle.kept_state.proofs.answers.kept_of.Goals as goal

pub answers-preserved : goal.answers-preserved
answers-preserved c =
    let now = λ (line : Bor (List ℕ)). line.now in
    let more = heard_more (map now c.answers.yielded) c.in-Some.line.now c.answers.heard c.hear.new.heard c.answers.invariant c.in_ok-hear.ensures in
    subst (λ told. HasHeard told c.hear.new.heard) (sym (map-append now c.answers.yielded (c.in-Some.line ∷ []))) more

pub returns : goal.returns
returns c =
    let t = YieldsList-end (YieldsList-from_lines c.args.answers.now cc) c.answers.yielded _ c.answers.yielded_by _ _ c.in-None.is c.next.ensures.steps in
    kept_told_ok (lines c.args.answers.now) c.answers.heard c.kept_by.result (subst (λ told. HasHeard told c.answers.heard) t.0 c.answers.invariant) c.kept_by.ensures
