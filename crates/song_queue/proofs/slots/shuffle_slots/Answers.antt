use Rattle.std.proofs.Common.{sym, ◌∙◌, drop, arith}
use Rattle.song_queue.proofs.Shuffles.{shuffled-few}
use Rattle.song_queue.proofs.slots.shuffle_slots.Goals as goal

pub returns-then-end-le1 : goal.returns-then-end-le1
returns-then-end-le1 c =
    sym (shuffled-few c.loop-word.slots 0 c.loop-word.end (drop c.loop-word.word-index c.args.words.now) (omega arith)) ∙ c.loop-word.invariant.shuffles
