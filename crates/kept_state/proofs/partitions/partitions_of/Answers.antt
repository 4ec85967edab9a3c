use Rattle.std.proofs.Common.{[], ◌∷◌, map, sym, subst, List, ℕ, Bor}
use Rattle.std.proofs.lemmas.Iterator.Consumers.{YieldsList-end}
use Rattle.std.proofs.lemmas.Iterator.Splits.{YieldsList-from_lines}
use Rattle.std.proofs.lemmas.List.{map-append}
use Rattle.std.specs.Str.Lines.{lines}
use Rattle.kept_state.proofs.HeardMore.{all_more, all_told_ok}
use Rattle.kept_state.specs.HeardPartitions.{HasHeardAll}
use Rattle.kept_state.proofs.partitions.partitions_of.Goals as goal

pub answers-preserved : goal.answers-preserved
answers-preserved c =
    let now = λ (line : Bor (List ℕ)). line.now in
    let more = all_more (map now c.answers.yielded) c.in-Some.line.now c.answers.heard c.hear_all.new.heard c.answers.invariant c.in_ok-hear_all.ensures in
    subst (λ told. HasHeardAll told c.hear_all.new.heard) (sym (map-append now c.answers.yielded (c.in-Some.line ∷ []))) more

pub returns : goal.returns
returns c =
    let t = YieldsList-end (YieldsList-from_lines c.args.answers.now cc) c.answers.yielded _ c.answers.yielded_by _ _ c.in-None.is c.next.ensures.steps in
    all_told_ok (lines c.args.answers.now) c.answers.heard c.all_kept_by.result (subst (λ told. HasHeardAll told c.answers.heard) t.0 c.answers.invariant) c.all_kept_by.ensures
