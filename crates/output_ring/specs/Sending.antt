-- A hand on its way to a writer: room for its bytes, and how far it came.
use Rattle.std.specs.Prelude.{ℕ, ℤ, ◌≡◌, ◌<◌, ◌≤◌, ◌+◌, ◌*◌, List, ◌++◌, Option, Result}
use Rattle.std.specs.Prelude.{MatchResult, length, take, vec_len}
use Rattle.counted_devices.specs.CallCounts.{HasFailed}
use Rattle.counted_devices.specs.declared.call_counts.CallCounts.{CallCounts}
use Rattle.output_ring.specs.Frames.{StopsInside, WritesHeard, bytes_of, heard, heard_run}
use Rattle.output_ring.specs.Runs.{cuts_of, paired}
use Rattle.output_ring.specs.declared.frames.Cut.{Cut}
use Rattle.output_ring.specs.declared.frames.CutFrame.{CutFrame}
use Rattle.output_ring.specs.declared.frames.Live.{Live}
use Rattle.output_ring.specs.declared.outgoing.Outgoing.{Outgoing}
use Rattle.output_ring.specs.declared.outgoing.Torn.{Torn}
use Rattle.output_ring.specs.declared.runs.Run.{Run}

-- room for the bytes of this many frames
abbrev pub HasRoom : ℕ → Outgoing → Type 0
HasRoom most o = 4 * most ≤ vec_len o.bytes

abbrev pub KeepsRoom : Outgoing → Outgoing → Type 0
KeepsRoom old new = vec_len new.bytes ≡ vec_len old.bytes

-- the frames of a hand, each with the cut of its run
abbrev pub hand_in : List Run → List (List ℤ) → List CutFrame
hand_in runs frames = paired (cuts_of runs) frames

-- the frames of a hand that are heard, in order
abbrev pub heard_in : Live → List Run → List (List ℤ) → List (List ℤ)
heard_in live runs frames = heard live (hand_in runs frames)

-- The writer took the bytes of all frames of a hand that are heard; or it failed, and took those of so many
-- frames and a part of the next.
abbrev pub Sends : Option (List ℕ) → Option (List ℕ) → Live → List Run → List (List ℤ) → Result ℕ Torn → Type 0
Sends before after live runs frames r = MatchResult r
    (λ n. WritesHeard before after live (hand_in runs frames) n)
    (λ t. StopsInside before after live (hand_in runs frames) t.written t.bytes)

-- so many frames of a hand are heard, which are no more than all
abbrev pub CountsHeard : ℕ → Live → List Run → List (List ℤ) → Type 0
CountsHeard count live runs frames = (count ≡ length (heard_in live runs frames)) × (count ≤ length frames)

-- so many frames are those before, and of frames of one cut those that are heard
abbrev pub CountsOn : ℕ → ℕ → Live → Cut → List (List ℤ) → Type 0
CountsOn before count live cut frames =
    (count ≡ before + length (heard_run live cut frames)) × (count ≤ before + length frames)

-- no more than so many frames were written whole
abbrev pub WritesAtMost : ℕ → Result ℕ Torn → Type 0
WritesAtMost most r = MatchResult r (λ n. n ≤ most) (λ t. t.written ≤ most)

-- the bytes stay up to `from`, and those of these frames stand from there up to `end`
abbrev pub PutsFrames : ℕ → ℕ → List ℕ → List ℕ → List (List ℤ) → Type 0
PutsFrames from end old new frames = take end new ≡ take from old ++ bytes_of frames

-- where not all of some bytes went out, the writer failed
abbrev pub FailsIfShort : CallCounts → CallCounts → ℕ → List ℕ → Type 0
FailsIfShort before after done bytes = done < length bytes → HasFailed before after
