use Rattle.std.proofs.Common.{◌≡◌, ◌∙◌, ap, List, ℕ, ◌++◌}
use Rattle.song_queue.specs.declared.entry.Entry.{Entry}
use Rattle.song_queue.specs.State.{queue_of}
use Rattle.play_order.specs.Order.{ids_taken}
use Rattle.play_order.proofs.Firsts.{distinct-from}
use Rattle.play_order.proofs.Going.{taken-all-apart}
use Rattle.play_order.proofs.scan.taken_ids.Goals as goal

pub returns-clause-apart : goal.returns-clause-apart
returns-clause-apart c =
    let queue : List Entry = queue_of c.args.queue.now in
    let taken : c.push_ids.new.ids.items ≡ ids_taken queue c.args.from c.args.end =
    c.in_ok-push_ids.ensures ∙ ap (λ (ids : List ℕ). ids ++ ids_taken queue c.args.from c.args.end) c.new-ids.ensures.items in
    taken-all-apart c.args.from c.args.end queue c.push_ids.new.ids.items c.requires.order (distinct-from queue c.len-len.ensures.valid.distinct) taken
