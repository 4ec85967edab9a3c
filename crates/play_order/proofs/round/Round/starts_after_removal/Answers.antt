use Rattle.std.proofs.Common.{List, refl}
use Rattle.song_queue.specs.declared.entry.Entry.{Entry}
use Rattle.song_queue.specs.State.{queue_of}
use Rattle.play_order.specs.Order.{ids_taken}
use Rattle.play_order.proofs.Firsts.{distinct-from}
use Rattle.play_order.proofs.Going.{taken-all-apart}
use Rattle.play_order.proofs.round.Round.starts_after_removal.Goals as goal

pub returns : goal.returns
returns c =
    let queue : List Entry = queue_of c.args.queue.now in
    c.goes_on.ensures.starts (ids_taken queue c.args.range.start c.args.range.end)
    (taken-all-apart c.args.range.start c.args.range.end queue (ids_taken queue c.args.range.start c.args.range.end) c.requires.order (distinct-from queue c.goes_on.ensures.distinct) refl)
