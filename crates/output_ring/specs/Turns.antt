-- What a drainer does with its hand at a turn (this profile's).
use Rattle.std.specs.Prelude.{ℕ, ◌≡◌, true, false, ◌||◌, List, [], length, Option, Result, Ok}
use Rattle.std.specs.Io.KnownBytes.{Appends}
use Rattle.output_ring.specs.declared.frames.Fates.{Fates}
use Rattle.output_ring.specs.declared.frames.Live.{Live}
use Rattle.output_ring.specs.declared.frames.WriteFault.{WriteFault}
use Rattle.output_ring.specs.declared.drainer.Drainer.{Drainer}
use Rattle.output_ring.specs.Frames.{bytes_of, fates, no_fates, StopsInside}
use Rattle.output_ring.specs.Rings.{hand_of, hand_fates, has_failed, heard_of}

-- where a writer failed before, this holds
abbrev pub OnFault : Drainer → Type 0 → Type 0
OnFault old P = has_failed old ≡ true → P

-- where no writer failed before, and the output is paused or at the end, this holds
abbrev pub OnHold : Drainer → Live → Type 0 → Type 0
OnHold old live P = has_failed old ≡ false → (live.paused || live.ended) ≡ true → P

-- where no writer failed before, and the output plays, this holds
abbrev pub OnPlay : Drainer → Live → Type 0 → Type 0
OnPlay old live P = has_failed old ≡ false → (live.paused || live.ended) ≡ false → P

-- the whole hand is discarded, and the writer stays
abbrev pub DiscardsHand : {W : Type 0} → Drainer → Drainer → W → W → Result Fates WriteFault → Type 0
DiscardsHand old new before after r = (r ≡ Ok (fates 0 (length (hand_of old)))) × (hand_of new ≡ []) × (after ≡ before)

-- the hand is kept, and the writer stays
abbrev pub KeepsHand : {W : Type 0} → Drainer → Drainer → W → W → Result Fates WriteFault → Type 0
KeepsHand old new before after r = (r ≡ Ok no_fates) × (hand_of new ≡ hand_of old) × (after ≡ before)

-- the writer took what is heard of the hand, and these are the hand's fates
abbrev pub WritesHand : Live → Drainer → Option (List ℕ) → Option (List ℕ) → Fates → Type 0
WritesHand live d before after f =
    (f ≡ hand_fates d (length (heard_of live d))) × Appends before after (bytes_of (heard_of live d))

-- the writer failed inside a frame of the hand, and these are the hand's fates
abbrev pub FailsInHand : Live → Drainer → Option (List ℕ) → Option (List ℕ) → WriteFault → Type 0
FailsInHand live d before after e =
    (e.fates ≡ hand_fates d e.fates.written) × StopsInside before after live (hand_of d) e.fates.written e.torn
