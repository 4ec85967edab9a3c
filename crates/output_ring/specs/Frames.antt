-- Frames, and what becomes of them at an output (this profile's).
use Rattle.std.specs.Prelude.{Result, Ok, Err, ℕ, ℤ, ◌≡◌, ◌+◌, ◌<◌, ◌≤◌, ◌==◌, Bool, ◌&&◌, ◌||◌, List, ◌++◌, Option, length, map, take, drop, filter, nat_le, nat_lt}
use Rattle.std.specs.List.{flat_map}
use Rattle.std.specs.Io.KnownBytes.{Appends}
use Rattle.pcm_mix.specs.Layouts.{frame_bytes}
use Rattle.output_ring.specs.declared.frames.Cut.{Cut}
use Rattle.output_ring.specs.declared.frames.CutFrame.{CutFrame}
use Rattle.output_ring.specs.declared.frames.Fates.{Fates}
use Rattle.output_ring.specs.declared.frames.Totals.{Totals}
use Rattle.output_ring.specs.declared.frames.Live.{Live}
use Rattle.output_ring.specs.declared.frames.WriteFault.{WriteFault}

-- a block's frames, each with the block's cut
abbrev pub with_cut : Cut → List (List ℤ) → List CutFrame
with_cut cut frames = map (λ frame. record { frame = frame; cut = cut }) frames

-- whether a cut comes no later than another: by the moves, and where these are the same by the numbers
abbrev pub cut_le : Cut → Cut → Bool
cut_le a b = nat_lt a.moves b.moves || ((a.moves == b.moves) && nat_le a.number b.number)

-- whether a playing output writes frames of this cut: it is enabled, and the cut is at least the live one
abbrev pub is_cut_heard : Live → Cut → Bool
is_cut_heard live cut = live.enabled && cut_le live.cut cut

-- whether a playing output writes the frame
abbrev pub is_heard : Live → CutFrame → Bool
is_heard live item = is_cut_heard live item.cut

-- whether a frame's block was accepted since the output was last moved
abbrev pub is_since_move : Live → CutFrame → Bool
is_since_move live item = nat_le live.cut.moves item.cut.moves

-- of some frames those that are written, in order
abbrev pub heard : Live → List CutFrame → List (List ℤ)
heard live items = map (λ item. item.frame) (filter (is_heard live) items)

-- no frame is heard of a block that was accepted before the output was last moved
abbrev pub HearsSinceMove : Live → List CutFrame → Type 0
HearsSinceMove live items = heard live items ≡ heard live (filter (is_since_move live) items)

-- of frames of one cut those that are written, in order
abbrev pub heard_run : Live → Cut → List (List ℤ) → List (List ℤ)
heard_run live cut frames = heard live (with_cut cut frames)

-- the frames that came into the slots after the first `held`
abbrev pub came_into : List (List ℤ) → ℕ → ℕ → List (List ℤ)
came_into slots held count = take count (drop held slots)

-- the bytes of frames, four for each
abbrev pub bytes_of : List (List ℤ) → List ℕ
bytes_of frames = flat_map frame_bytes frames

-- the writer took the bytes of all frames of a hand that are heard, so many
abbrev pub WritesHeard : Option (List ℕ) → Option (List ℕ) → Live → List CutFrame → ℕ → Type 0
WritesHeard before after live hand n =
    (n ≡ length (heard live hand)) × Appends before after (bytes_of (heard live hand))

-- The writer failed: it took the bytes of the first `written` frames of a hand that are heard, and `torn`
-- bytes of the next.
pub record StopsInside (before after : Option (List ℕ)) (live : Live) (hand : List CutFrame) (written torn : ℕ) : Type 0 where
  pub inside : written < length (heard live hand)
  pub part : torn < 4
  pub bytes : Appends before after (bytes_of (take written (heard live hand)) ++ take torn (bytes_of (drop written (heard live hand))))

abbrev pub fates : ℕ → ℕ → Fates
fates written discarded = record { written = written; discarded = discarded }

abbrev pub no_fates : Fates
no_fates = fates 0 0

abbrev pub no_totals : Totals
no_totals = record { written = 0; discarded = 0; torn = 0 }

-- how many frames were written or discarded
abbrev pub settled : Totals → ℕ
settled totals = totals.written + totals.discarded

-- the fates are among those of the totals
abbrev pub AreAmong : Fates → Totals → Type 0
AreAmong f totals = (f.written ≤ totals.written) × (f.discarded ≤ totals.discarded)

-- the sums of both
abbrev pub both : Fates → Fates → Fates
both a b = fates (a.written + b.written) (a.discarded + b.discarded)

-- the fates that a writing out answers, at a fault too
abbrev pub fates_in : Result Fates WriteFault → Fates
fates_in (Ok f) = f
fates_in (Err e) = e.fates

-- the totals with some more fates
abbrev pub counted : Totals → Fates → Totals
counted totals f = record totals { written = totals.written + f.written; discarded = totals.discarded + f.discarded }

-- the totals once a writing out has answered so
abbrev pub totals_after : Totals → Result Fates WriteFault → Totals
totals_after totals (Ok f) = counted totals f
totals_after totals (Err e) = record (counted totals e.fates) { torn = e.torn }
