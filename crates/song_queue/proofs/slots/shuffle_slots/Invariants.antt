use Rattle.std.proofs.Common.{◌≡◌, ◌≤◌, length, drop}
use Rattle.song_queue.specs.Shuffles.{shuffled}
use Rattle.song_queue.proofs.slots.shuffle_slots.Given as goal

-- the words that are left shuffle the slots to what all words do
abbrev pub invariant-loop-word : goal.invariant-loop-word
invariant-loop-word l =
    record {
      within : l.end ≤ length l.slots;
      shuffles : shuffled l.slots 0 l.end (drop l.word-index l.words) ≡ shuffled l.fn.slots 0 (length l.fn.slots) l.fn.words;
    }
