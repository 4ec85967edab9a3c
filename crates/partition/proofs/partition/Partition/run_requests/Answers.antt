use Rattle.std.proofs.Common.{◌≡◌, ◌∷◌, [], length, ap, sym, subst, ◌∙◌, arith}
use Rattle.std.proofs.lemmas.List.{length-append}
use Rattle.std.specs.Vec.Iter.{into_iter_items}
use Rattle.player_events.specs.declared.event.Event.TheVariants.{Line}
use Rattle.transitions.specs.declared.asked.ListPlace.TheVariants.{InList}
use Rattle.partition.specs.History.{with_room}
use Rattle.partition.specs.Lent.{Records, Refuses}
use Rattle.transitions.specs.Shelves.{no_store_reply}
use Rattle.partition.specs.Lists.{RunsList, StopsList}
use Rattle.partition.proofs.ListRuns.{does_so, nothing_left, none_ran, ran_all, ran_last, ran_more, ran_stop}
use Rattle.partition.proofs.partition.Partition.run_requests.Goals as goal

pub loop-request-init : goal.loop-request-init
loop-request-init g c =
    let given = c.into_iter-request-iterator.ensures.into_iter_gives in
    let all : into_iter_items c.into_iter-request-iterator.result ≡ c.args.requests.items = given.0 in
    let same = ap length all in
    let room = c.requires.room in
    record {
      ran = none_ran g.S.Shelf.standing g.S.Shelf.failed c.args.seat c.args.client c.args.form c.args.self.now c.args.shelf.now _ c.args.outcomes.items c.requires.empty;
      room = let none = ap length c.requires.empty in omega (arith, same, room, none);
      left = given.1 ∙ c.args.requests.ok.0 ∙ sym same;
    }

pub returns-then-ends-clause-ok : goal.returns-then-ends-clause-ok
returns-then-ends-clause-ok g c =
    let all = c.into_iter-request-iterator.ensures.into_iter_gives.0 in
    let at = c.loop-request in
    subst (λ rs. RunsList g.S.Shelf.standing g.S.Shelf.failed c.args.self.now c.apply.new.self c.args.shelf.now c.apply.new.shelf c.args.seat c.args.client c.args.form rs c.push_reserved.new.self.items) all
    (ran_last g.S.Shelf.standing g.S.Shelf.failed c.args.seat c.args.client c.args.form c.args.self.now at.self c.apply.new.self c.args.shelf.now at.shelf c.apply.new.shelf _ _ _ c.in-Some.request at.outcomes.items c.push_reserved.new.self.items c.in-Ok.outcome
    at.invariant.ran c.in-Some.ensures.steps.0
    (does_so g.S.Shelf.standing g.S.Shelf.failed c.args.seat c.args.client c.args.form at.self c.apply.new.self at.shelf c.apply.new.shelf c.len-done.result _ c.in-Some.request c.in-Ok.outcome (c.len-done.ensures ∙ at.outcomes.ok.0) c.in-Ok.ensures.base c.in-Ok.ensures.limit
    (subst (λ e. Records g.S.Shelf.standing g.S.Shelf.failed at.self.present c.apply.new.self.present (with_room at.self).window c.apply.new.self.window at.shelf c.apply.new.shelf c.args.seat e c.in-Ok.outcome) c.line-event.ensures c.in-Ok.ensures.ok))
    c.push_reserved.ensures.items (sym c.ends_list-ends.ensures ∙ c.if-ends.true))

pub loop-request-preserved : goal.loop-request-preserved
loop-request-preserved g c =
    let at = c.loop-request in
    let steps : into_iter_items at.request-iterator ≡ c.in-Some.request ∷ into_iter_items c.next.new.self = c.in-Some.ensures.steps.0 in
    let short = ap length steps in
    let longer = ap length c.push_reserved.ensures.items in
    let room = at.invariant.room in
    let left = at.invariant.left in
    let gone = c.in-Some.ensures.steps.1 in
    let kept = c.push_reserved.ensures.capacity in
    record {
      ran = ran_more g.S.Shelf.standing g.S.Shelf.failed c.args.seat c.args.client c.args.form c.args.self.now at.self c.apply.new.self c.args.shelf.now at.shelf c.apply.new.shelf _ _ _ c.in-Some.request at.outcomes.items c.push_reserved.new.self.items c.in-Ok.outcome
          at.invariant.ran steps
          (does_so g.S.Shelf.standing g.S.Shelf.failed c.args.seat c.args.client c.args.form at.self c.apply.new.self at.shelf c.apply.new.shelf c.len-done.result _ c.in-Some.request c.in-Ok.outcome (c.len-done.ensures ∙ at.outcomes.ok.0) c.in-Ok.ensures.base c.in-Ok.ensures.limit
          (subst (λ e. Records g.S.Shelf.standing g.S.Shelf.failed at.self.present c.apply.new.self.present (with_room at.self).window c.apply.new.self.window at.shelf c.apply.new.shelf c.args.seat e c.in-Ok.outcome) c.line-event.ensures c.in-Ok.ensures.ok))
          c.push_reserved.ensures.items (sym c.ends_list-ends.ensures ∙ c.if-ends.false);
      room = rw c.push_reserved.ensures.capacity (let n = length-append at.outcomes.items (c.in-Ok.outcome ∷ []) in omega (arith, room, short, longer, n));
      left = omega (arith, left, gone, short);
    }

pub returns-in-Err-clause-err : goal.returns-in-Err-clause-err
returns-in-Err-clause-err g c =
    let all = c.into_iter-request-iterator.ensures.into_iter_gives.0 in
    let at = c.loop-request in
    rw (c.len-done.ensures ∙ at.outcomes.ok.0)
    (subst (λ rs. StopsList g.S.Shelf.standing g.S.Shelf.failed c.args.self.now c.apply.new.self c.args.shelf.now c.apply.new.shelf c.args.seat c.args.client c.args.form rs
    (record { done = length at.outcomes.items; tolds = at.outcomes.items; command = c.name-command.result.now; cause = c.in-Err.cause })) all
    (ran_stop g.S.Shelf.standing g.S.Shelf.failed c.args.seat c.args.client c.args.form c.args.self.now at.self c.apply.new.self c.args.shelf.now at.shelf c.apply.new.shelf _ _ _ c.in-Some.request at.outcomes.items c.name-command.result.now c.in-Err.cause
    at.invariant.ran c.in-Some.ensures.steps.0 c.name-command.ensures
    (subst (λ e. Refuses g.S.Shelf.standing g.S.Shelf.failed at.self c.apply.new.self at.shelf c.apply.new.shelf c.args.seat e c.in-Err.cause)
    (c.line-event.ensures ∙ ap (λ n. Line c.args.client (InList c.args.form n) c.in-Some.request no_store_reply) (c.len-done.ensures ∙ at.outcomes.ok.0)) c.in-Err.ensures.refused)))

pub returns-clause-ok : goal.returns-clause-ok
returns-clause-ok g c =
    let at = c.loop-request in
    let all = c.into_iter-request-iterator.ensures.into_iter_gives.0 in
    let none = c.in-None.ensures.steps in
    subst (λ rs. RunsList g.S.Shelf.standing g.S.Shelf.failed c.args.self.now at.self c.args.shelf.now at.shelf c.args.seat c.args.client c.args.form rs at.outcomes.items) all
    (ran_all g.S.Shelf.standing g.S.Shelf.failed c.args.seat c.args.client c.args.form c.args.self.now at.self c.args.shelf.now at.shelf _ _ at.outcomes.items at.invariant.ran (nothing_left _ (sym at.invariant.left ∙ none.0)))
