-- What books of frames there are after an event.
use Rattle.std.specs.Prelude.{◌≡◌, ℕ, true, false, List, Option, Some, None, is_some, map, if◌then◌else◌}
use Rattle.std.specs.List.{range_with_len}
use Rattle.player_state.specs.declared.effect.Effect.{Effect}
use Rattle.player_state.specs.declared.report.Report.{Report}
use Rattle.player_state.specs.declared.state.Part.{Part}
use Rattle.player_state.specs.Effects.{report_after}
use Rattle.player_state.specs.Outputs.{FrameBooks, OutputsData, books_after, can_count, can_count_all, decoded_by, fed_at, no_frames}

-- these numbers, where they can be counted
abbrev pub IsCounted : Option (List ℕ) → List ℕ → Type 0
IsCounted None numbers = can_count numbers ≡ false
IsCounted (Some counted) numbers = (can_count numbers ≡ true) × (counted ≡ numbers)

-- these books, where all their numbers can be counted
abbrev pub IsBooked : Option FrameBooks → FrameBooks → Type 0
IsBooked None books = can_count_all books ≡ false
IsBooked (Some booked) books = (can_count_all books ≡ true) × (booked ≡ books)

-- the frames that an output is given at an event of this part
abbrev pub given_by_part : ℕ → Part → Effect → Report → ℕ → ℕ
given_by_part rate part effect report = decoded_by effect (report_after rate part effect report)

-- so many frames for each of eight outputs that a have is for, where it has a cut, which says that it was
-- accepted
abbrev pub given_of : OutputsData → ℕ → Option ℕ → List ℕ
given_of outputs frames None = no_frames
given_of outputs frames (Some cut) = map (λ number. if is_some (fed_at outputs number) then frames else 0) (range_with_len 0 8)

-- the books after an event of this part
abbrev pub books_by_part : FrameBooks → ℕ → Part → Effect → Report → FrameBooks
books_by_part books rate part effect report = books_after books effect (report_after rate part effect report)
