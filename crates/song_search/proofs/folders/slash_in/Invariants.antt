use Rattle.std.proofs.Common.{◌≡◌, ℕ, ◌<◌, get_or}
use Rattle.song_search.proofs.folders.slash_in.Given as goal

-- no slash so far
abbrev pub invariant-loop-offset : goal.invariant-loop-offset
invariant-loop-offset l = (k : ℕ) → k < l.offset → get_or l.path k 0 ≡ 47 → ⊥
