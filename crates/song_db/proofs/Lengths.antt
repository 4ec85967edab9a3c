-- How long a song can be.
use Rattle.std.proofs.Common.{ℕ, ◌*◌, ◌^◌, ◌<◌, ◌≤◌, arith}
use Rattle.std.proofs.Math.Nat.{div-lt_iff_lt-mul}
use Rattle.song_db.specs.Lines.{millis}

-- no song has more frames than 64 bits can count
pub small_length : (frames rate : ℕ) → frames < 2 ^ 64 → 8000 ≤ rate → millis rate frames < 2 ^ 62
small_length frames rate counted low = (div-lt_iff_lt-mul {k = rate} {x = frames * 1000} {y = 2 ^ 62} (omega arith)).1 (omega arith)
