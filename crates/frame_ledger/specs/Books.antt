-- The books of all outputs, and what is counted in them (this profile's).
use Rattle.std.specs.Prelude.{ℕ, ◌≡◌, ◌+◌, ◌<◌, List, Result, IsOk, IsSome, length, replicate, slice_index, if◌then◌else◌}
use Rattle.std.specs.declared.sync.ledger.Share.{Share}
use Rattle.output_ring.specs.Rings.{unreported_of}
use Rattle.output_ring.specs.declared.drainer.Drainer.{Drainer}
use Rattle.output_ring.specs.declared.feeder.FeederEnd.{FeederEnd}
use Rattle.output_ring.specs.declared.frames.CutFrame.{CutFrame}
use Rattle.output_ring.specs.declared.frames.Fates.{Fates}
use Rattle.output_ring.specs.declared.frames.Totals.{Totals}
use Rattle.frame_ledger.specs.Balance.{Agrees, has_room, raised}
use Rattle.frame_ledger.specs.declared.books.Books.{Books}
use Rattle.frame_ledger.specs.declared.books.OutputShares.{OutputShares}
use Rattle.frame_ledger.specs.declared.settlement.Booked.{Booked}
use Rattle.frame_ledger.specs.declared.settlement.SettleFault.{SettleFault}
use Rattle.frame_ledger.specs.declared.settlement.Settled.{Settled}

module _ {E W X : Type 0} where
  -- each book has a number of 0 for each output
  abbrev pub AreEmptyFor : Books E W X → ℕ → Type 0
  AreEmptyFor books outputs =
      (books.decoded ≡ replicate outputs 0) × (books.written ≡ replicate outputs 0)
      × (books.discarded ≡ replicate outputs 0)

  -- each book has a number of this output
  abbrev pub HaveOutput : Books E W X → ℕ → Type 0
  HaveOutput books output =
      (output < length books.decoded) × (output < length books.written) × (output < length books.discarded)

  -- the settled numbers are those that the books have of the output
  abbrev pub HaveNumbers : Books E W X → ℕ → Settled → Type 0
  HaveNumbers books output s =
      (slice_index books.decoded output ≡ s.decoded) × (slice_index books.written output ≡ s.written)
      × (slice_index books.discarded output ≡ s.discarded)

  -- the output's fates are counted in its written and its discarded
  abbrev pub CountFates : Books E W X → Books E W X → ℕ → Fates → Type 0
  CountFates old new output f =
      (new.written ≡ raised old.written output f.written) × (new.discarded ≡ raised old.discarded output f.discarded)

  -- the written once the output's unreported fates are counted, if they fit in both books
  abbrev pub written_after : Books E W X → Drainer → ℕ → List ℕ
  written_after books d output =
      if has_room books.written books.discarded (unreported_of d)
      then raised books.written output (unreported_of d).written else books.written

  -- the discarded once the output's unreported fates are counted, if they fit in both books
  abbrev pub discarded_after : Books E W X → Drainer → ℕ → List ℕ
  discarded_after books d output =
      if has_room books.written books.discarded (unreported_of d)
      then raised books.discarded output (unreported_of d).discarded else books.discarded

  -- the shares have these parts, each of its ledger
  abbrev pub HaveParts : Share E → OutputShares W X → ℕ → ℕ → ℕ → Type 0
  HaveParts share shares decoded written discarded =
      (share.parts ≡ decoded) × (shares.written.parts ≡ written) × (shares.discarded.parts ≡ discarded)

  -- the shares grew by the unreported fates, if they fit in both books
  abbrev pub GrowByUnreported : Books E W X → Drainer → OutputShares W X → OutputShares W X → Type 0
  GrowByUnreported books d old new =
      (new.written.amount ≡ old.written.amount
      + (if has_room books.written books.discarded (unreported_of d) then (unreported_of d).written else 0))
      × (new.discarded.amount ≡ old.discarded.amount
      + (if has_room books.written books.discarded (unreported_of d) then (unreported_of d).discarded else 0))

  -- with the token, whatever the feeder took: where the books agree with it, the output is settled
  abbrev pub IsSettledIfBooksAgree : FeederEnd → Drainer → Books E W X → ℕ → Result Settled SettleFault → Type 0
  IsSettledIfBooksAgree e d books output r = (taken : List CutFrame) → IsSome e.finished
      → Agrees e d books.decoded books.written books.discarded output taken → IsOk r

module _ {W X : Type 0} where
  -- the shares grew by these fates
  abbrev pub GrowByFates : OutputShares W X → OutputShares W X → Fates → Type 0
  GrowByFates old new f =
      (new.written.amount ≡ old.written.amount + f.written)
      × (new.discarded.amount ≡ old.discarded.amount + f.discarded)

  -- the shares keep their parts
  abbrev pub KeepParts : OutputShares W X → OutputShares W X → Type 0
  KeepParts old new = (new.written.parts ≡ old.written.parts) × (new.discarded.parts ≡ old.discarded.parts)

-- the books have of an output what its drainer counted in all, and what is left is the rest of the decoded
abbrev pub AgreesWithTotals : Booked → Totals → ℕ → Type 0
AgreesWithTotals booked totals left = ((totals.written + totals.discarded) + left ≡ booked.decoded)
    × (totals.written ≡ booked.written) × (totals.discarded ≡ booked.discarded)

-- the settled numbers of an output whose drainer counted these totals, where so many frames are left
abbrev pub settled_numbers : Totals → ℕ → Settled
settled_numbers totals left = record {
  decoded = (totals.written + totals.discarded) + left;
  written = totals.written;
  discarded = totals.discarded;
  left = left;
  torn = totals.torn;
}
