use Rattle.std.proofs.Common.{◌≡◌, ◌++◌, ◌∙◌, ap, subst, sym, ℕ, List, length, map, take, arith}
use Rattle.song_queue.specs.declared.entry.Entry.{Entry}
use Rattle.song_queue.specs.State.{entries_of, queue_of}
use Rattle.play_order.specs.Waits.{HaveOwnIds, Key, key_of}
use Rattle.play_order.proofs.Firsts.{distinct-from}
use Rattle.play_order.proofs.Lists.{take-all}
use Rattle.play_order.proofs.Orders.{own-ids}
use Rattle.play_order.proofs.Waits.{keys-join}
use Rattle.play_order.proofs.waiting.keys_of.Goals as goal

pub loop-at-preserved : goal.loop-at-preserved
loop-at-preserved c =
    let ranks = c.args.ranks.now in
    let queue : List Entry = queue_of c.args.queue.now in
    let at : ℕ = c.loop-at.at in
    record {
      high = omega arith;
      keys =
          c.in_ok-push_keys.ensures ∙ ap (λ (keys : List Key). keys ++ map (key_of ranks) (entries_of c.run-run.result.now)) c.loop-at.invariant.keys
          ∙ ap (λ (some : List Entry). map (key_of ranks) (take at queue) ++ map (key_of ranks) some) c.run-run.ensures.part ∙ sym (keys-join ranks queue at (length c.run-run.result.now));
    }

pub returns-clause-own : goal.returns-clause-own
returns-clause-own c =
    let ranks = c.args.ranks.now in
    let queue : List Entry = queue_of c.args.queue.now in
    let all : take c.loop-at.at queue ≡ queue = take-all queue c.loop-at.at (omega arith) in
    subst (λ (known : List Key). HaveOwnIds known) (sym (c.loop-at.invariant.keys ∙ ap (map (key_of ranks)) all)) (own-ids ranks queue (distinct-from queue c.len-len.ensures.valid.distinct))
