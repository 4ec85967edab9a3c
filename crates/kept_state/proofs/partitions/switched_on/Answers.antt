use Rattle.std.proofs.Common.{rules, ◌∙◌, ◌++◌, [], ◌∷◌, ap, append_assoc, sym, subst}
use Rattle.std.specs.Vec.Iter.{into_iter_items}
use Rattle.kept_state.specs.Partitions.{IsTurnedOn}
use Rattle.kept_state.specs.Partitions.{Pairwise}
use Rattle.kept_state.proofs.Sections.{pairs_more}
use Rattle.kept_state.proofs.partitions.switched_on.Goals as goal

pub kept-preserved : goal.kept-preserved
kept-preserved c =
    let was = c.kept.invariant in
    let one = pairs_more (IsTurnedOn c.args.named) c.kept.yielded c.kept.all.items c.in-Some.partition c.turned_on.result was.pairs c.turned_on.ensures in record {
      next = search rules;
      finite = search rules;
      pairs = subst (λ items. Pairwise (IsTurnedOn c.args.named) (c.kept.yielded ++ c.in-Some.partition ∷ []) items) (sym c.in_ok-push.ensures.items) one;
      left = append_assoc c.kept.yielded (c.in-Some.partition ∷ []) (into_iter_items c.next.new.self)
          ∙ ap (λ rest. c.kept.yielded ++ rest) (sym c.in-Some.ensures.steps.0) ∙ was.left;
    }
