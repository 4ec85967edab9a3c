use Rattle.std.proofs.Common.{◌≡◌, ◌≤◌, List, [], ◌∷◌, length, get_or, drop, ap, sym, subst, arith}
use Rattle.std.specs.Prelude.{All}
use Rattle.std.proofs.lemmas.List.{take_rest}
use Rattle.std.proofs.lemmas.List.Elements.{All-cons}
use Rattle.player_state.specs.declared.state.Part.{Part}
use Rattle.partition.specs.Legal.{HasDistinctIds}
use Rattle.partition.proofs.partition.+are_distinct.Goals as goal

first-and-rest : (ps : List Part) (p : Part) → 1 ≤ length ps → p ≡ get_or ps 0 p → ps ≡ p ∷ drop 1 ps
first-and-rest [] p some is = absurd (omega arith)
first-and-rest (q ∷ ps) p some is = ap (λ (x : Part). x ∷ ps) (sym is)

pub returns-in-len1-up : goal.returns-in-len1-up
returns-in-len1-up t c =
    let ps : List Part = c.args.parts.now in
    subst (All HasDistinctIds) (sym (first-and-rest ps c.part-item.result c.in-len1-up.len_at_least c.part-item.is))
    (All-cons HasDistinctIds c.part-item.result (drop 1 ps) c.len-distinct.ensures.valid.distinct
    (subst (All HasDistinctIds) (take_rest ps 1) c.are_distinct.ensures))
