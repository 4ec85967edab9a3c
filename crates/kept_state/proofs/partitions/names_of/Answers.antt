use Rattle.std.proofs.Common.{◌∙◌, [], ◌∷◌, map, sym, ap, List, ℕ, Bor, codes}
use Rattle.std.proofs.lemmas.Iterator.Consumers.{YieldsList-end}
use Rattle.std.proofs.lemmas.Iterator.Splits.{YieldsList-from_lines}
use Rattle.std.proofs.lemmas.List.{map-append}
use Rattle.kept_state.proofs.HeardMore.{values_more}
use Rattle.kept_state.specs.HeardPartitions.{texts_after}
use Rattle.kept_state.specs.Partitions.{values}
use Rattle.kept_state.proofs.partitions.names_of.Goals as goal

pub answer-preserved : goal.answer-preserved
answer-preserved c =
    let now = λ (line : Bor (List ℕ)). line.now in
    let key = codes "partition: " in
    c.in_ok-hear_name.ensures ∙ ap (texts_after key c.in-Some.line.now) c.answer.invariant
    ∙ values_more key c.in-Some.line.now (map now c.answer.yielded)
    ∙ ap (values key) (sym (map-append now c.answer.yielded (c.in-Some.line ∷ [])))

pub returns : goal.returns
returns c =
    let t = YieldsList-end (YieldsList-from_lines c.args.answer.now cc) c.answer.yielded _ c.answer.yielded_by _ _ c.in-None.is c.next.ensures.steps in
    c.answer.invariant ∙ ap (values (codes "partition: ")) t.0
