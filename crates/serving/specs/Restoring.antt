-- What becomes of the lines of a state that are told to the player before the daemon listens (that a client of the
-- daemon's own says them, and which it says, is this profile's).
use Rattle.std.specs.Prelude.{ℕ, ◌≡◌, Bool, true, false, List, min}
use Rattle.std.specs.Str.Lines.{lines}
use Rattle.house.specs.Seats.{SeatCount, after_events}
use Rattle.house.specs.Views.{AnswersClient, Handed}
use Rattle.kept_state.specs.Telling.{TellsSteps, is_of_state, steps_in}
use Rattle.mpd_command.specs.Names.{fewest}
use Rattle.mpd_command.specs.Requests.{request_of}
use Rattle.shelf.specs.Calls.{Call}
use Rattle.shelf.specs.Maps.{Standing}

-- who says lines: a seat, and the shelf that is lent to it
pub record Speaker (S : Type 0) : Type 0 where
  pub shelf : S
  pub seat : SeatCount

abbrev pub sender : {S : Type 0} → S → SeatCount → Speaker S
sender shelf seat = record { shelf = shelf; seat = seat }

module _ {S : Type 0} (standing : S → Standing) (failed : S → S → Call → Type 0) where
  -- The daemon's own client, of the number 65, says a line, which is read without `kill` and without the everyday
  -- profile: one event of its seat. The answer is the one-thread player's after some past in which the seat had made
  -- just the events before; the line is refused just where it is a refusal.
  abbrev pub IsSaid : S → S → SeatCount → SeatCount → List ℕ → Bool → Type 0
  IsSaid old new seat seat_then line refused =
      (seat_then ≡ after_events seat 1)
      × ((answer : Handed) × AnswersClient standing failed old new seat 65 (request_of line fewest) answer
      × (refused ≡ answer.told.answer.refused))

  -- the same, by the shelf and the seat that who says it has before and after
  abbrev pub Says : Speaker S → List ℕ → Speaker S → Bool → Type 0
  Says old line new refused = IsSaid old.shelf new.shelf old.seat new.seat line refused

  -- the player answers the line
  abbrev pub AnswersLine : Speaker S → List ℕ → Speaker S → Handed → Type 0
  AnswersLine old line new answer = AnswersClient standing failed old.shelf new.shelf old.seat 65 (request_of line fewest) answer

  abbrev pub IsSaidIf : Bool → S → S → SeatCount → SeatCount → List ℕ → Bool → Type 0
  IsSaidIf true old new seat seat_then line refused = IsSaid old new seat seat_then line refused
  IsSaidIf false old new seat seat_then line refused = (refused ≡ true) × (seat_then ≡ seat) × (new ≡ old)

  -- A line of a state is said; another one is refused, and nothing happens to the player.
  abbrev pub IsHeard : S → S → SeatCount → SeatCount → List ℕ → Bool → Type 0
  IsHeard old new seat seat_then line refused = IsSaidIf (is_of_state line) old new seat seat_then line refused

  abbrev pub Hears : Speaker S → List ℕ → Bool → Speaker S → Type 0
  Hears old line refused new = IsHeard old.shelf new.shelf old.seat new.seat line refused

  -- The lines of a text are told, each by itself or in a list. So many of them are refused; no more than 2^64 - 1 are
  -- counted.
  abbrev pub IsTextTold : S → SeatCount → SeatCount → List ℕ → ℕ → Type 0
  IsTextTold shelf seat seat_then text refused =
      (count : ℕ) × (after : Speaker S) × TellsSteps Hears (steps_in false (lines text)) (sender shelf seat) count after
      × (seat_then ≡ after.seat) × (refused ≡ min count 18446744073709551615)
