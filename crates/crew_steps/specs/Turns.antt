-- What becomes of an output's frames at its turn (this profile's).
use Rattle.std.specs.Prelude.{ℕ, ◌≡◌, ◌⊎◌, ◌+◌, ◌++◌, All, Bool, true, false, List, [], ◌∷◌, Option, Some, None, min}
use Rattle.std.specs.Io.KnownBytes.{Appends}
use Rattle.output_ring.specs.Frames.{StopsInside, both, bytes_of, heard, no_fates}
use Rattle.output_ring.specs.Rings.{SameDrainer, fates_of, hand_of, has_failed, popped_of, totals_of, unreported_of}
use Rattle.output_ring.specs.declared.drainer.Drainer.{Drainer}
use Rattle.output_ring.specs.declared.frames.CutFrame.{CutFrame}
use Rattle.output_ring.specs.declared.frames.Fates.{Fates}
use Rattle.output_ring.specs.declared.frames as ring
use Rattle.player_events.specs.Outcomes.{OutcomeData}
use Rattle.player_state.specs.declared.report.Heard.{Heard}
use Rattle.player_state.specs.declared.report.Report.{Report}
use Rattle.player_state.specs.declared.report.Report.TheVariants.{ToPlay, Ended}
use Rattle.house.specs.Seats.{seat_count}
use Rattle.house.specs.Views.{TellsSomewhere, turn_of}

-- these frames came from the ring into the hand, and none got its fate
pub record Pops (old new : Drainer) (came : List CutFrame) : Type 0 where
  pub ring : SameDrainer old new
  pub popped : popped_of new ≡ popped_of old ++ came
  pub hand : hand_of new ≡ hand_of old ++ came
  pub fates : fates_of new ≡ fates_of old
  pub totals : totals_of new ≡ totals_of old
  pub unreported : unreported_of new ≡ unreported_of old
  pub failed : has_failed new ≡ has_failed old

-- what an output does with its frames, as its turn was told
abbrev pub live_at : Heard → ring.Live.Live
live_at told = record {
  cut = record { moves = told.moves; number = told.live.cut };
  enabled = told.live.enabled;
  paused = told.live.paused;
  ended = false;
}

-- whether a thread of the house goes on after it was told this: whatever is no end
abbrev pub goes_on : Report → Bool
goes_on Ended = false
goes_on _ = true

-- What the player of one thread tells of the turn of an output, after some past: so many frames got which fate,
-- and whether its writer had failed. The turn is the event of the output's own seat.
abbrev pub TellsOutput : ℕ → Fates → Bool → OutcomeData → Type 0
TellsOutput output fates failed outcome = (made : ℕ) × TellsSomewhere (seat_count (5 + min output 7) made) (turn_of output fates failed) outcome

-- frames got fates: they are counted, and are told of at the next turn
abbrev pub GivesFates : Drainer → Drainer → Type 0
GivesFates old new =
    (given : Fates) × ((totals_of new).written ≡ (totals_of old).written + given.written)
    × ((totals_of new).discarded ≡ (totals_of old).discarded + given.discarded) × (unreported_of new ≡ both (unreported_of old) given)

-- the fates that were not told of yet are all that frames got since
abbrev pub AreUntold : Drainer → Drainer → Type 0
AreUntold old new =
    ((totals_of new).written ≡ (totals_of old).written + (unreported_of new).written)
    × ((totals_of new).discarded ≡ (totals_of old).discarded + (unreported_of new).discarded)

module _ {W : Type 0} (contents : W → Option (List ℕ)) where
  -- The frames of a hand got their fates: after a failure of the writer all are discarded, in a pause they
  -- are kept; else those are written that are heard, in order, up to the one in which the writer fails, and
  -- none is left.
  pub record Plays (told : Heard) (hand : List CutFrame) (had_failed : Bool) (before : W) (new : Drainer) (after : W) : Type 0 where
    pub after_failure : had_failed ≡ true → (hand_of new ≡ []) × (after ≡ before)
    pub in_pause : had_failed ≡ false → told.live.paused ≡ true → (hand_of new ≡ hand) × (after ≡ before)
    pub played : had_failed ≡ false → told.live.paused ≡ false → has_failed new ≡ false → (hand_of new ≡ []) × Appends (contents before) (contents after) (bytes_of (heard (live_at told) hand))
    pub failed : had_failed ≡ false → told.live.paused ≡ false → has_failed new ≡ true → (hand_of new ≡ []) × ((written : ℕ) × (torn : ℕ) × StopsInside (contents before) (contents after) (live_at told) hand written torn)

  -- the same of a drainer's own hand
  abbrev pub PlaysHand : Heard → Drainer → W → Drainer → W → Type 0
  PlaysHand told old before new after = Plays told (hand_of old) (has_failed old) before new after

  -- an output does with its hand what its turn was told; at the end it leaves all as it is
  abbrev pub DoesAs : Report → Drainer → W → Drainer → W → Type 0
  DoesAs (ToPlay told) old before new after = (popped_of new ≡ popped_of old) × Plays told (hand_of old) (has_failed old) before new after × GivesFates old new
  DoesAs _ old before new after = (new ≡ old) × (after ≡ before)

  -- Frames came from the ring into the hand, none got its fate, and all fates are told of.
  pub record Keeps (old : Drainer) (before : W) (new : Drainer) (after : W) (came : List CutFrame) : Type 0 where
    pub popped : popped_of new ≡ popped_of old ++ came
    pub hand : hand_of new ≡ hand_of old ++ came
    pub fates : fates_of new ≡ fates_of old
    pub failed : has_failed new ≡ has_failed old
    pub told : unreported_of new ≡ no_fates
    pub writer : after ≡ before

  -- The frames of the hand, and those that came into it before the turn, got the fates that the turn was told,
  -- and no others are untold. At the end the hand keeps them all.
  abbrev pub Obeys : Report → Drainer → W → Drainer → W → Type 0
  Obeys (ToPlay told) old before new after =
      (came : List CutFrame) × (popped_of new ≡ popped_of old ++ came) × Plays told (hand_of old ++ came) (has_failed old) before new after × AreUntold old new
  Obeys _ old before new after = (came : List CutFrame) × Keeps old before new after came

  -- An output had its turn: it told of all fates since it told last, and whether its writer failed, and obeyed
  -- what it was told.
  pub record HasTurn (output : ℕ) (failed : Bool) (told : OutcomeData) (old : Drainer) (before : W) (new : Drainer) (after : W) : Type 0 where
    pub told_so : TellsOutput output (unreported_of old) failed told
    pub obeyed : Obeys told.report old before new after

  -- it had no turn, and no frame got its fate
  abbrev pub Waits : Drainer → W → Drainer → W → Type 0
  Waits old before new after = ((came : List CutFrame) × Pops old new came) × (after ≡ before)

  -- An output waited or had a turn, and goes on; or its turn was told this, the end.
  abbrev pub Drains : ℕ → Bool → Option OutcomeData → Drainer → W → Drainer → W → Type 0
  Drains output failed None old before new after =
      Waits old before new after ⊎ ((told : OutcomeData) × (goes_on told.report ≡ true) × HasTurn output failed told old before new after)
  Drains output failed (Some told) old before new after = (told.report ≡ Ended) × HasTurn output failed told old before new after

  -- An output had these turns, the last of them first: each told of the fates that frames got at the one before,
  -- and of a failure of the writer at any before.
  abbrev pub HasTurns : ℕ → List OutcomeData → Drainer → W → Drainer → W → Type 0
  HasTurns output [] old before new after = (new ≡ old) × (after ≡ before)
  HasTurns output (told ∷ earlier) old before new after =
      (mid : Drainer) × (between : W) × HasTurns output earlier old before mid between × HasTurn output (has_failed mid) told mid between new after

  -- An output ran: it had turns, of which the last alone was told of the end, and this; it obeyed each, and gave
  -- no frame a fate but by these.
  abbrev pub Runs : ℕ → OutcomeData → Drainer → W → Drainer → W → Type 0
  Runs output last old before new after =
      (last.report ≡ Ended) × ((turns : List OutcomeData) × All (λ told. goes_on told.report ≡ true) turns × HasTurns output (last ∷ turns) old before new after)

  -- the same, whatever the end was told and whatever its writer is then
  abbrev pub RunsToEnd : ℕ → Drainer → W → Drainer → Type 0
  RunsToEnd output old before new = (last : OutcomeData) × (after : W) × Runs output last old before new after

-- An output of this number ran from a ring's end as it was first to what is left of it, whatever bytes its writer
-- had then.
pub record HasRun (output : ℕ) (old new : Drainer) : Type 0 where
  pub before : Option (List ℕ)
  pub run : RunsToEnd (λ (bytes : Option (List ℕ)). bytes) output old before new
