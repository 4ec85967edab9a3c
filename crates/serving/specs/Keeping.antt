-- What is kept of the player, and by which of its answers (that a client of the daemon's own asks for them, and what it
-- asks, is this profile's).
use Rattle.std.specs.Prelude.{ℕ, ◌≡◌, Bool, List, [], ◌∷◌, ◌++◌, Some, codes, length}
use Rattle.std.specs.Global.{Vec}
use Rattle.std.specs.List.{flat_map}
use Rattle.std.specs.Str.Lines.{lines}
use Rattle.command_lists.specs.declared.word.ListForm.TheVariants.{Plain}
use Rattle.house.specs.Seats.{SeatCount, after_events}
use Rattle.house.specs.Lists.{HandedList, TellsListSomewhere}
use Rattle.kept_state.specs.Partitions.{IsPlayerTold, IsTurnedOn, Pairwise}
use Rattle.kept_state.specs.Players.{player_text}
use Rattle.kept_state.specs.declared.partitions.KeptPartition.{KeptPartition}
use Rattle.mpd_command.specs.Names.{fewest}
use Rattle.mpd_command.specs.Requests.{request_of}
use Rattle.mpd_command.specs.declared.request.Request.{Request}
use Rattle.mpd_text.specs.Lines.Quoted.{quoted_text}
use Rattle.own_lines.specs.Answered.{answers_in}
use Rattle.shelf.specs.Calls.{Call}
use Rattle.shelf.specs.Maps.{Standing}

-- what a line asks for, which is read without `kill` and without the everyday profile
abbrev pub asked_by : List ℕ → Request
asked_by line = request_of line fewest

-- what is asked of a partition, in which the client then is
abbrev pub questions_in : List ℕ → List Request
questions_in name =
    asked_by (codes "partition " ++ quoted_text name) ∷ asked_by (codes "status") ∷ asked_by (codes "outputs")
    ∷ asked_by (codes "playlistinfo") ∷ []

-- what is asked: which partitions there are, and then each of those that are known; the client ends in the default one
abbrev pub questions : List (List ℕ) → List Request
questions names =
    asked_by (codes "listpartitions") ∷ (flat_map questions_in names ++ asked_by (codes "partition default") ∷ [])

-- What is kept is what these answers tell of each partition that there is, and none of them is a refusal.
abbrev pub IsKeptBy : HandedList → Vec KeptPartition → Type 0
IsKeptBy answered kept = (text : List ℕ) × (answers_in answered.tolds ≡ Some text) × IsPlayerTold (lines text) (Some kept)

-- The text of what is kept, with outputs on that are off for their paths alone: those that were off for them before the
-- player was asked, and those that are after it.
abbrev pub IsTextOf : List Bool → List Bool → List KeptPartition → List ℕ → Type 0
IsTextOf before after kept text =
    (between shown : List KeptPartition) × Pairwise (IsTurnedOn before) kept between × Pairwise (IsTurnedOn after) between shown
    × (text ≡ player_text shown)

module _ {S : Type 0} (standing : S → Standing) (failed : S → S → Call → Type 0) where
  -- The daemon's own client, of the number 65, is answered to all that it asks, at one moment. The answers are those of
  -- the one-thread player after some past in which the seat had made just the events before; each is one event more.
  abbrev pub IsAnswered : S → S → SeatCount → SeatCount → List (List ℕ) → HandedList → Type 0
  IsAnswered old new seat seat_then names answered =
      (seat_then ≡ after_events seat (length answered.tolds))
      × TellsListSomewhere standing failed old new seat 65 Plain (questions names) answered.tolds

  -- what is kept is what the player then answers
  abbrev pub IsKeptThen : S → S → SeatCount → SeatCount → List (List ℕ) → Vec KeptPartition → Type 0
  IsKeptThen old new seat seat_then names kept =
      (answered : HandedList) × IsAnswered old new seat seat_then names answered × IsKeptBy answered kept

  -- The text is that of what the player then answers. Which outputs are off for their paths is known to their gates alone.
  abbrev pub IsStateThen : S → S → SeatCount → SeatCount → List (List ℕ) → List ℕ → Type 0
  IsStateThen old new seat seat_then names text =
      (kept : Vec KeptPartition) × IsKeptThen old new seat seat_then names kept
      × ((before after : List Bool) × IsTextOf before after kept.items text)
