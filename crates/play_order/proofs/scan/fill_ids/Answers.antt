use Rattle.std.proofs.Common.{◌≡◌, ℕ, ◌+◌, ◌≤◌, ◌++◌, [], ◌∷◌, List, ap, sym, ◌∙◌, arith, rules, append_assoc, vec_len, vec_capacity}
use Rattle.song_queue.specs.declared.entry.Entry.{Entry}
use Rattle.song_queue.specs.State.{queue_of}
use Rattle.play_order.specs.Order.{ids_taken}
use Rattle.play_order.proofs.Lists.{get-within}
use Rattle.play_order.proofs.Scanning.{ids-more}
use Rattle.play_order.proofs.scan.fill_ids.Goals as goal
use Rattle.play_order.proofs.scan.fill_ids.Goals.{in-Some, in_default}

pub loop-position-preserved : goal.loop-position-preserved
loop-position-preserved c =
    let queue : List Entry = queue_of c.args.queue.now in
    elim c.match-get.branch [
      | in-Some w ↦
          let pushed : w.push.new.self.items ≡ c.loop-position.ids.items ++ w.in-Some.entry.now.id ∷ [] = search rules in
          let len : vec_len w.push.new.self ≤ vec_len c.loop-position.ids + 1 = w.push.ensures.upper_bound in
          let cap : vec_capacity c.loop-position.ids ≤ vec_capacity w.push.new.self = w.push.ensures.capacity in
          rw w.ids-is
          (record {
            ids =
                pushed ∙ ap (λ (ids : List ℕ). ids ++ w.in-Some.entry.now.id ∷ []) c.loop-position.invariant.ids
                ∙ append_assoc c.args.ids.now.items (ids_taken queue c.args.from c.loop-position.position) (w.in-Some.entry.now.id ∷ [])
                ∙ ap (λ (ids : List ℕ). c.args.ids.now.items ++ ids) (sym (ids-more queue c.args.from c.loop-position.position w.in-Some.entry.now (omega arith) (sym w.in-Some.ensures)));
            room = omega (arith, len, cap, c.loop-position.invariant.room);
          })
      | in_default w ↦ absurd (get-within queue c.loop-position.position (omega arith) (sym w.in_default.ensures))
    ]
