use Rattle.std.proofs.Common.{◌∙◌, ap, List}
use Rattle.song_queue.specs.State.{queue_of}
use Rattle.play_order.specs.Waits.{Key, has_key, unplayed_keys}
use Rattle.play_order.proofs.Waits.{ranked-keys}
use Rattle.play_order.proofs.waiting.Waiting.of.Goals as goal

pub returns-clause-order : goal.returns-clause-order
returns-clause-order c = record {
  ranked = ranked-keys c.args.ranks.now (queue_of c.args.queue.now) c.in_ok-known.known.items c.in_ok-known.ensures.known;
  own = c.in_ok-known.ensures.own;
  waits = λ k. c.in_ok-keys.ensures k ∙ ap (λ (some : List Key). has_key (unplayed_keys c.args.played.now some) k) c.deref.ensures.value;
}
