-- The numbers of one output, and what is left of its ring (this profile's).
use Rattle.std.specs.Prelude.{ℕ, ◌≡◌, ◌+◌, ◌<◌, ◌^◌, Bool, ◌&&◌, nat_lt, List, ◌++◌, length, sum, slice_index, slice_set}
use Rattle.std.specs.declared.sync.ledger.Blank.{Blank}
use Rattle.std.specs.declared.sync.ledger.Share.{Share}
use Rattle.output_ring.specs.declared.frames.CutFrame.{CutFrame}
use Rattle.output_ring.specs.declared.frames.Fates.{Fates}
use Rattle.output_ring.specs.declared.feeder.FeederEnd.{FeederEnd}
use Rattle.output_ring.specs.declared.drainer.Drainer.{Drainer}
use Rattle.output_ring.specs.Rings.{EndTook, end_owed, fates_of, hand_of, totals_of, unreported_of}
use Rattle.frame_ledger.specs.declared.settlement.Settled.{Settled}

-- a blank that opens a ledger of this name and so many parts
abbrev pub IsBlankOf : Blank → ℕ → ℕ → Type 0
IsBlankOf blank name parts = (blank.name ≡ name) × (blank.parts ≡ parts)

-- an output's number grows
abbrev pub raised : List ℕ → ℕ → ℕ → List ℕ
raised numbers output n = slice_set numbers output (slice_index numbers output + n)

-- an output's number and the share grew by n, and all outputs together stay below 2^63
abbrev pub Raises : {L : Type 0} → List ℕ → List ℕ → ℕ → Share L → Share L → ℕ → Type 0
Raises old new output before after n =
    (new ≡ raised old output n) × (after.amount ≡ before.amount + n) × (sum new < 2 ^ 63)

-- whether what was written and what was discarded stay at or below 2^63-1 with these fates, all outputs
-- together
abbrev pub has_room : List ℕ → List ℕ → Fates → Bool
has_room written discarded f = nat_lt (sum written + f.written) (2 ^ 63) && nat_lt (sum discarded + f.discarded) (2 ^ 63)

-- every frame that the feeder of this end took: the fates in order, then the hand, the ring and what is owed
abbrev pub all_frames : FeederEnd → Drainer → List CutFrame → List CutFrame
all_frames e d ring = ((fates_of d ++ hand_of d) ++ ring) ++ end_owed e

-- The feeder took just these frames, and the settled numbers are theirs.
pub record Balances (e : FeederEnd) (d : Drainer) (s : Settled) : Type 0 where
  pub ring : List CutFrame
  pub took : EndTook e (all_frames e d ring)
  pub decoded : s.decoded ≡ length (all_frames e d ring)
  pub left : s.left ≡ length ((hand_of d ++ ring) ++ end_owed e)
  pub fates : s.written + s.discarded ≡ length (fates_of d)
  pub written : s.written ≡ (totals_of d).written
  pub discarded : s.discarded ≡ (totals_of d).discarded
  pub torn : s.torn ≡ (totals_of d).torn

-- the books agree with what was taken, once the unreported fates are counted, and no total passes 2^63-1
pub record Agrees (e : FeederEnd) (d : Drainer) (decoded written discarded : List ℕ) (output : ℕ) (taken : List CutFrame) : Type 0 where
  pub took : EndTook e taken
  pub taken_is : slice_index decoded output ≡ length taken
  pub written_room : sum written + (unreported_of d).written < 2 ^ 63
  pub discarded_room : sum discarded + (unreported_of d).discarded < 2 ^ 63
  pub written_is : slice_index written output + (unreported_of d).written ≡ (totals_of d).written
  pub discarded_is : slice_index discarded output + (unreported_of d).discarded ≡ (totals_of d).discarded
