-- The frames that the outputs are given of a have.
use Rattle.std.proofs.Common.{◌≡◌, ℕ, true, false, Option, Some, None, is_some, map, refl, arith, if◌then◌else◌}
use Rattle.std.specs.List.{range_with_len}
use Rattle.player_state.specs.Outputs.{OutputsData, fed_at, no_frames}
use Rattle.player_state.specs.FrameCounts.{given_of}

pub accepted : (outputs : OutputsData) (frames : ℕ) (cut : Option ℕ) → is_some cut ≡ true
    → given_of outputs frames cut ≡ map (λ n. if is_some (fed_at outputs n) then frames else 0) (range_with_len 0 8)
accepted outputs frames (Some cut) e = refl
accepted outputs frames None e = grind (arith, e)

pub stale : (outputs : OutputsData) (frames : ℕ) (cut : Option ℕ) → is_some cut ≡ false → given_of outputs frames cut ≡ no_frames
stale outputs frames None e = refl
stale outputs frames (Some cut) e = grind (arith, e)
