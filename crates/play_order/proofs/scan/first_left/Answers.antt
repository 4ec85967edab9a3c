use Rattle.std.proofs.Common.{◌∙◌, ap, List, fold, Option, None, ℕ}
use Rattle.std.specs.List.{slice_range}
use Rattle.song_queue.specs.declared.entry.Entry.{Entry}
use Rattle.song_queue.specs.State.{queue_of}
use Rattle.play_order.specs.Order.{left_by, unplayed}
use Rattle.play_order.specs.Scans.{better}
use Rattle.play_order.proofs.Firsts.{distinct-from, distinct-left, distinct-unplayed}
use Rattle.play_order.proofs.Scanning.{first-left}
use Rattle.play_order.proofs.scan.first_left.Goals as goal

pub returns : goal.returns
returns c =
    let queue : List Entry = queue_of c.args.queue.now in
    let ranks = c.args.ranks.now in
    let played = c.args.played.now in
    let distinct = distinct-unplayed played (left_by queue c.args.from c.args.end) (distinct-left c.args.from c.args.end queue c.requires.order (distinct-from queue c.len.ensures.valid.distinct)) in
    c.first_within.ensures
    ∙ ap (λ (b : Option Entry). fold (better ranks) b (unplayed played (slice_range queue c.args.end c.len.result))) c.first_within-best.ensures
    ∙ ap (λ (n : ℕ). fold (better ranks) (fold (better ranks) None (unplayed played (slice_range queue 0 c.args.from))) (unplayed played (slice_range queue c.args.end n))) c.len.ensures.len
    ∙ first-left ranks played queue c.args.from c.args.end distinct
