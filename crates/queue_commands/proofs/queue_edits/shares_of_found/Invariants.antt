use Rattle.std.proofs.Common.{◌≡◌, take}
use Rattle.std.specs.Prelude.{map}
use Rattle.queue_commands.proofs.queue_edits.shares_of_found.Given as goal

abbrev pub invariant-loop-song : goal.invariant-loop-song
invariant-loop-song l =
    l.shared ≡ map (λ s. s.now) (take l.song-index l.songs)
