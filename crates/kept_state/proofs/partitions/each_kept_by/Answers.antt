use Rattle.std.proofs.Common.{rules, ◌∙◌, ◌++◌, [], ◌∷◌, ap, append_assoc, sym, subst}
use Rattle.std.specs.Vec.Iter.{into_iter_items}
use Rattle.kept_state.specs.HeardPartitions.{KeepsOf}
use Rattle.kept_state.specs.Partitions.{Pairwise}
use Rattle.kept_state.proofs.Sections.{pairs_more}
use Rattle.kept_state.proofs.partitions.each_kept_by.Goals as goal

pub heard-preserved : goal.heard-preserved
heard-preserved c =
    let was = c.heard.invariant in
    let one = pairs_more KeepsOf c.heard.yielded c.heard.all.items c.in-Some.partition c.in_ok-partition_by.field-0 was.pairs c.in_ok-partition_by.ensures in record {
      next = search rules;
      finite = search rules;
      pairs = subst (λ items. Pairwise KeepsOf (c.heard.yielded ++ c.in-Some.partition ∷ []) items) (sym c.in_ok-push.ensures.items) one;
      left = append_assoc c.heard.yielded (c.in-Some.partition ∷ []) (into_iter_items c.next.new.self)
          ∙ ap (λ rest. c.heard.yielded ++ rest) (sym c.in-Some.ensures.steps.0) ∙ was.left;
    }
