use Rattle.std.proofs.Common.{◌∙◌, ap, sym, ◌||◌, Bool}
use Rattle.std.specs.List.{slice_range}
use Rattle.song_queue.specs.State.{queue_of}
use Rattle.play_order.specs.Scans.{has_unplayed}
use Rattle.play_order.proofs.Firsts.{distinct-from}
use Rattle.play_order.proofs.Scanning.{any-left}
use Rattle.play_order.proofs.scan.any_left.Goals as goal

pub returns-then-any_within : goal.returns-then-any_within
returns-then-any_within c = λ ranks.
    c.if-any_within.true
    ∙ ap (λ (b : Bool). b || has_unplayed c.args.played.now (slice_range (queue_of c.args.queue.now) c.args.end c.len-len.result)) (sym c.if-any_within.true ∙ c.any_within.ensures)
    ∙ any-left ranks c.args.played.now (queue_of c.args.queue.now) c.args.from c.args.end c.len-len.result c.requires.order (distinct-from (queue_of c.args.queue.now) c.len-len.ensures.valid.distinct) c.len-len.ensures.len

pub returns-else-any_within : goal.returns-else-any_within
returns-else-any_within c = λ ranks.
    c.any_within-else-any_within.ensures
    ∙ ap (λ (b : Bool). b || has_unplayed c.args.played.now (slice_range (queue_of c.args.queue.now) c.args.end c.len-len.result)) (sym c.if-any_within.false ∙ c.any_within.ensures)
    ∙ any-left ranks c.args.played.now (queue_of c.args.queue.now) c.args.from c.args.end c.len-len.result c.requires.order (distinct-from (queue_of c.args.queue.now) c.len-len.ensures.valid.distinct) c.len-len.ensures.len
