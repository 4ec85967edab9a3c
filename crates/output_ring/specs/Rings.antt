-- What a contract sees of the two ends of a ring (this profile's).
use Rattle.std.specs.Prelude.{ℕ, ℤ, ◌≡◌, ◌+◌, ◌-◌, ◌^◌, ◌<◌, ◌≤◌, Bool, false, List, [], ◌++◌, take, drop, length, IfSome}
use mathlib.Core.List.{IsPrefix}
use Rattle.output_ring.specs.Ends.{sent_in, room_in, popped_from, known_in, end_sent, ArePair, ArePairAfter, IsTokenOf, SameInlet, SameOutlet}
use Rattle.output_ring.specs.Frames.{both, fates, heard, no_fates, no_totals, with_cut}
use Rattle.output_ring.specs.Runs.{cuts_of, paired}
use Rattle.output_ring.specs.declared.frames.CutFrame.{CutFrame}
use Rattle.output_ring.specs.declared.frames.Fates.{Fates}
use Rattle.output_ring.specs.declared.frames.Live.{Live}
use Rattle.output_ring.specs.declared.frames.Totals.{Totals}
use Rattle.output_ring.specs.declared.feeder.Feeder.{Feeder}
use Rattle.output_ring.specs.declared.feeder.FeederEnd.{FeederEnd}
use Rattle.output_ring.specs.declared.drainer.Drainer.{Drainer}

-- every frame that the feeder moved into the ring, in order
abbrev pub sent_of : Feeder → List CutFrame
sent_of f = sent_in f.inlet

-- the frames that wait for room in the ring
abbrev pub owed_of : Feeder → List CutFrame
owed_of f = with_cut f.cut (drop f.sent f.block.items)

-- every frame that the feeder took, in order
abbrev pub taken_of : Feeder → List CutFrame
taken_of f = sent_of f ++ owed_of f

-- how many frames the feeder knows to have room
abbrev pub room_of : Feeder → ℕ
room_of f = room_in f.inlet

-- every frame that the drainer popped, in order
abbrev pub popped_of : Drainer → List CutFrame
popped_of d = popped_from d.outlet

-- the frames that were popped since
abbrev pub came_of : Drainer → Drainer → List CutFrame
came_of old new = drop (length (popped_of old)) (popped_of new)

-- the fates of all frames so far
abbrev pub totals_of : Drainer → Totals
totals_of d = d.totals

-- the fates since the last report
abbrev pub unreported_of : Drainer → Fates
unreported_of d = d.unreported

-- whether a writer failed
abbrev pub has_failed : Drainer → Bool
has_failed d = d.failed

-- how many frames were written or discarded
abbrev pub settled_of : Drainer → ℕ
settled_of d = (totals_of d).written + (totals_of d).discarded

-- the frames that were written or discarded, in order
abbrev pub fates_of : Drainer → List CutFrame
fates_of d = take (settled_of d) (popped_of d)

-- the popped frames that have no fate yet
abbrev pub hand_of : Drainer → List CutFrame
hand_of d = paired (cuts_of d.runs.items) (take d.held d.slots.items)

-- how many frames the hand can hold
abbrev pub most_of : Drainer → ℕ
most_of d = length d.slots.items

-- the frames that the drainer knows to be in the ring
abbrev pub ring_of : Drainer → List CutFrame
ring_of d = known_in d.outlet

-- the frames that a drainer accounts for, in order: those with a fate, the hand, and those known in the ring
abbrev pub accounted_of : Drainer → List CutFrame
accounted_of d = (fates_of d ++ hand_of d) ++ ring_of d

-- the frames of the hand that a playing output writes, in order
abbrev pub heard_of : Live → Drainer → List (List ℤ)
heard_of live d = heard live (hand_of d)

-- the fates of the hand where so many of its frames are written: the rest are discarded
abbrev pub hand_fates : Drainer → ℕ → Fates
hand_fates d written = fates written (length (hand_of d) - written)

-- these fates are still to be reported, beside those before
abbrev pub AddsUnreported : Drainer → Drainer → Fates → Type 0
AddsUnreported old new f = unreported_of new ≡ both (unreported_of old) f

-- nothing was taken, and nothing is owed; so many frames are known to have room
abbrev pub HasTakenNothing : Feeder → ℕ → Type 0
HasTakenNothing f capacity = (taken_of f ≡ []) × (owed_of f ≡ []) × (room_of f ≡ capacity)

-- no frame was popped, and none is in the hand or known to be in the ring; the hand can hold so many
abbrev pub HasNoFrames : Drainer → ℕ → Type 0
HasNoFrames d hand = (popped_of d ≡ []) × (hand_of d ≡ []) × (ring_of d ≡ []) × (most_of d ≡ hand)

-- no fate was counted, and no writer failed
abbrev pub HasNoFates : Drainer → Type 0
HasNoFates d = (totals_of d ≡ no_totals) × (unreported_of d ≡ no_fates) × (has_failed d ≡ false)

-- the hand has room for one frame more
abbrev pub HandHasRoom : Drainer → Type 0
HandHasRoom d = length (hand_of d) < most_of d

-- the hand has room for all frames that are known to be in the ring
abbrev pub HandHasRoomForRing : Drainer → Type 0
HandHasRoomForRing d = length (hand_of d) + length (ring_of d) ≤ most_of d

-- fewer than 2^64-1 frames were popped in all, so the drainer pops more
abbrev pub CanPop : Drainer → Type 0
CanPop d = length (popped_of d) < 2 ^ 64 - 1

-- with all frames that are known to be in the ring, fewer than 2^64 are popped in all
abbrev pub CanPopRing : Drainer → Type 0
CanPopRing d = length (popped_of d) + length (ring_of d) < 2 ^ 64

-- so many frames are all that were known to be in the ring, where the hand had room for them
abbrev pub PopsAllKnown : Drainer → ℕ → Type 0
PopsAllKnown old count = HandHasRoomForRing old → CanPopRing old → length (ring_of old) ≤ count

-- no more frames are known to be in the ring, where the hand has room for one
abbrev pub KnowsNoMore : Drainer → Type 0
KnowsNoMore d = HandHasRoom d → CanPop d → ring_of d ≡ []

-- no frame got its fate: the fates and their counts, the hand's size and a failure stay
abbrev pub KeepsFates : Drainer → Drainer → Type 0
KeepsFates old new = (fates_of new ≡ fates_of old) × (totals_of new ≡ totals_of old)
    × (unreported_of new ≡ unreported_of old) × (most_of new ≡ most_of old) × (has_failed new ≡ has_failed old)

-- a drainer's end stays that of its ring
abbrev pub SameDrainer : Drainer → Drainer → Type 0
SameDrainer a b = SameOutlet a.outlet b.outlet

-- frames came from the ring into the hand, and none got its fate
pub record Comes (old new : Drainer) : Type 0 where
  pub popped : popped_of new ≡ popped_of old ++ came_of old new
  pub hand : hand_of new ≡ hand_of old ++ came_of old new
  pub known : IsPrefix (ring_of old) (came_of old new ++ ring_of new)
  pub kept : KeepsFates old new
  pub ring : SameDrainer old new

-- no frame was popped: the popped frames, those known to be in the ring and the hand's size stay
abbrev pub KeepsPopped : Drainer → Drainer → Type 0
KeepsPopped old new = (popped_of new ≡ popped_of old) × (ring_of new ≡ ring_of old) × (most_of new ≡ most_of old)

-- all but the unreported fates stays
abbrev pub KeepsAllButReport : Drainer → Drainer → Type 0
KeepsAllButReport old new = (totals_of new ≡ totals_of old) × (popped_of new ≡ popped_of old)
    × (hand_of new ≡ hand_of old) × (ring_of new ≡ ring_of old) × (most_of new ≡ most_of old)
    × (has_failed new ≡ has_failed old)

-- all but what is known of the ring stays
abbrev pub KeepsAllButRing : Drainer → Drainer → Type 0
KeepsAllButRing old new = (totals_of new ≡ totals_of old) × (unreported_of new ≡ unreported_of old)
    × (popped_of new ≡ popped_of old) × (hand_of new ≡ hand_of old) × (most_of new ≡ most_of old)
    × (has_failed new ≡ has_failed old)

-- the two ends of one ring
abbrev pub AreEnds : Feeder → Drainer → Type 0
AreEnds f d = ArePair f.inlet d.outlet

-- a feeder's end stays that of its ring
abbrev pub SameFeeder : Feeder → Feeder → Type 0
SameFeeder a b = SameInlet a.inlet b.inlet

-- what a feeder took and owes stays, and its end that of its ring
abbrev pub KeepsFeeder : Feeder → Feeder → Type 0
KeepsFeeder old new = (taken_of new ≡ taken_of old) × (owed_of new ≡ owed_of old) × SameFeeder old new

-- the frames that waited for room when the feeder finished
abbrev pub end_owed : FeederEnd → List CutFrame
end_owed e = with_cut e.cut (drop e.sent e.block.items)

-- with its token, what the feeder took in all
abbrev pub EndTook : FeederEnd → List CutFrame → Type 0
EndTook e taken = IfSome e.finished (λ f. end_sent f ++ end_owed e ≡ taken)

-- so many frames are in the ring, and the drainer and the feeder's end account for all that was taken
abbrev pub AccountsForAll : FeederEnd → Drainer → ℕ → Type 0
AccountsForAll e d n = (n ≡ length (ring_of d)) × EndTook e (accounted_of d ++ end_owed e)

-- with its token, the two ends of one ring
abbrev pub AreEndsAfter : FeederEnd → Drainer → Type 0
AreEndsAfter e d = IfSome e.finished (λ f. ArePairAfter f d.outlet)

-- with its token, what the feeder left
abbrev pub EndsFeeder : Feeder → FeederEnd → Type 0
EndsFeeder f e = IfSome e.finished (λ t. IsTokenOf f.inlet t)
