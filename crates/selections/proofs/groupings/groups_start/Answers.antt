use Rattle.std.proofs.Common.{◌≡◌, true, false, codes, sym, ap, ◌∙◌, arith, string_bytes}
use Rattle.std.specs.Str.{bytes_eq}
use Rattle.std.proofs.lemmas.Bool.{not-true, not-false}
use Rattle.std.proofs.lemmas.List.{length-take}
use Rattle.selections.proofs.LastGroups.{group_last, no_group_last, few_words}
use Rattle.selections.proofs.groupings.groups_start.Goals as goal

pub returns-then-ne-clause-start : goal.returns-then-ne-clause-start
returns-then-ne-clause-start c =
    let other : bytes_eq (string_bytes c.name-item.result) (codes "group") ≡ false =
    ap (λ bytes. bytes_eq bytes (codes "group")) (sym c.as_str.ensures.value) ∙ not-true _ (sym c.ne.ensures ∙ c.if-ne.true) in
    no_group_last (λ s. string_bytes s) c.loop-rest.rest.now c.name-item.result c.in-len2-up.len_at_least c.name-item.is other ∙ c.loop-rest.invariant.start

pub loop-rest-preserved : goal.loop-rest-preserved
loop-rest-preserved c =
    let group : bytes_eq (string_bytes c.name-item.result) (codes "group") ≡ true =
    ap (λ bytes. bytes_eq bytes (codes "group")) (sym c.as_str.ensures.value) ∙ not-false _ (sym c.ne.ensures ∙ c.if-ne.false) in
    record {
      start = group_last (λ s. string_bytes s) c.loop-rest.rest.now c.name-item.result c.in-len2-up.len_at_least c.name-item.is group ∙ c.loop-rest.invariant.start;
      inside = simp length-take (omega (arith, c.loop-rest.invariant.inside));
    }

pub returns-clause-start : goal.returns-clause-start
returns-clause-start c = few_words (λ s. string_bytes s) c.loop-rest.rest.now (omega (arith, c.in_default.len_below)) ∙ c.loop-rest.invariant.start
