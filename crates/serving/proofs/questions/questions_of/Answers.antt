use Rattle.std.proofs.Common.{◌≡◌, ◌∙◌, List, [], ◌∷◌, ◌++◌, ap, arith, codes, get_or, length, sym, take, ◌<◌}
use Rattle.std.specs.List.{flat_map}
use Rattle.std.proofs.lemmas.List.{flat_map_more, take_more, take_all}
use Rattle.serving.specs.Keeping.{asked_by, questions_in}
use Rattle.serving.proofs.questions.questions_of.Goals as goal

pub loop-name-preserved : goal.loop-name-preserved
loop-name-preserved c =
    let names = c.args.names.now in
    let i = c.loop-name.name-index in
    let name = get_or names i c.name-item.result in
    let first = asked_by (codes "listpartitions") ∷ [] in
    c.in_ok-ask_in.ensures
    ∙ ap (λ n. c.loop-name.requests.items ++ questions_in n) (c.as_str.ensures ∙ c.name-item.is)
    ∙ ap (λ l. l ++ questions_in name) c.loop-name.invariant
    ∙ flat_map_more questions_in first (take i names) name
    ∙ ap (λ l. first ++ flat_map questions_in l) (sym (take_more names i c.name-item.result c.loop-name-test.true))

pub returns : goal.returns
returns c =
    let first = asked_by (codes "listpartitions") ∷ [] in
    c.in_ok-ask-2.ensures
    ∙ ap (λ l. l ++ asked_by (codes "partition default") ∷ [])
    (c.loop-name.invariant ∙ ap (λ l. first ++ flat_map questions_in l) (take_all c.loop-name.name-index c.args.names.now c.loop-name-test.false))
