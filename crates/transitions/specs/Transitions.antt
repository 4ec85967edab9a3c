-- What an event makes of a player, before it happens.
use Rattle.std.specs.Prelude.{◌≡◌, ℕ, Bool, ◌&&◌, not, codes, if◌then◌else◌, List, map, Option, Some, None, Result, IfOk}
use Rattle.std.specs.declared.alloc.AllocError.{AllocError}
use Rattle.player_state.specs.declared.effect.Effect.{Effect}
use Rattle.player_state.specs.declared.effect.CommandEffect.{CommandEffect}
use Rattle.player_state.specs.declared.effect.AudioStep.{AudioStep}
use Rattle.player_state.specs.declared.effect.Effect.TheVariants.{ByCommand, ByAudio}
use Rattle.player_state.specs.declared.effect.CommandEffect.TheVariants.{Rests, Leaves}
use Rattle.player_state.specs.declared.report.Report.{Report}
use Rattle.player_state.specs.declared.report.Report.TheVariants.{Nothing, Ended}
use Rattle.player_state.specs.declared.scan.ScanMove.{ScanMove}
use Rattle.player_state.specs.declared.scan.ScanMove.TheVariants.{Stay}
use Rattle.transitions.specs.declared.shelf_calls.ShelfWrite.{ShelfWrite}
use Rattle.transitions.specs.declared.shelf_calls.ShelfWrite.TheVariants.{Nothing as Unwritten}
use Rattle.player_state.specs.declared.state.Library.{Library}
use Rattle.player_state.specs.declared.state.Part.{Part}
use Rattle.transitions.specs.Answers.{Answer, ResponseData, disconnects, stays, succeeds, tells}
use Rattle.player_state.specs.Effects.{begins_beyond}
use Rattle.partition_table.specs.declared.crossing.Crossing.{Crossing}
use Rattle.partition_table.specs.declared.crossing.Crossing.TheVariants.{Stays}
use Rattle.partition_table.specs.Parts.{changed, crosses_beyond, is_within_in, known, part_at, parts_moved, report_in}
use Rattle.transitions.specs.declared.asked.Asked.{Asked}
use Rattle.transitions.specs.declared.reply.Move.TheVariants.{Enter}

-- what an event makes of a player: what it does to what the player owns and to the scans, what it writes to
-- the shelf, what is answered, what the client that it comes from does, what a part of the daemon is told that
-- is no client, where it is no step of the player, and what passes between the partitions
pub record TransitionData : Type 0 where
  pub effect : Effect
  pub scan : ScanMove
  pub written : ShelfWrite
  pub response : ResponseData
  pub report : Report
  pub crossing : Crossing

-- what a command of the player makes of it: as a transition, but the client that asks makes no move
pub record CommandResult : Type 0 where
  pub effect : CommandEffect
  pub scan : ScanMove
  pub written : ShelfWrite
  pub answer : Answer

-- a command asks for this, and no step of the decoder or of an output
abbrev pub IsOfCommand : Effect → Type 0
IsOfCommand (ByCommand effect) = Unit {0}
IsOfCommand (ByAudio step) = ⊥

-- these together are a transition
abbrev pub transition_from : Effect → ScanMove → ShelfWrite → ResponseData → Report → Crossing → TransitionData
transition_from effect scan written response report crossing =
    record { effect = effect; scan = scan; written = written; response = response; report = report; crossing = crossing }

abbrev pub transition_by : CommandResult → TransitionData
transition_by command_result = record { effect = ByCommand command_result.effect; scan = command_result.scan; written = command_result.written; response = stays command_result.answer; report = Nothing; crossing = Stays }

-- unless there is no memory, the transition is the one of this command's result
abbrev pub IsDecidedBy : Result TransitionData AllocError → CommandResult → Type 0
IsDecidedBy result command_result = IfOk result (λ transition. transition ≡ transition_by command_result)

-- the player stays as it is
abbrev pub quiet : ResponseData → TransitionData
quiet response = record { effect = ByCommand Rests; scan = Stay; written = Unwritten; response = response; report = Nothing; crossing = Stays }

-- what a transition writes, and what is answered, alone
abbrev pub only_written : TransitionData → TransitionData
only_written t = record (quiet t.response) { written = t.written }

-- a client goes, with its channels and its messages, which is answered so
abbrev pub leaves : ℕ → ResponseData → TransitionData
leaves number response = record (quiet response) { effect = ByCommand (Leaves number) }

-- a client goes without an answer
abbrev pub departs : ℕ → TransitionData
departs number = leaves number (stays disconnects)

-- an event that comes from no client is answered by its report alone
abbrev pub no_response : ResponseData
no_response = stays (tells (codes ""))

-- a step of the decoder or of an output, which comes from no client
abbrev pub acts : AudioStep → TransitionData
acts step = record { effect = ByAudio step; scan = Stay; written = Unwritten; response = no_response; report = Nothing; crossing = Stays }

-- the end, whatever else is told
abbrev pub or_ended : Bool → TransitionData → TransitionData
or_ended ended t = record t { report = if ended then Ended else t.report }

-- a step of the decoder; after the end it does nothing, and is told so
abbrev pub acts_unless : Bool → Report → AudioStep → TransitionData
acts_unless ended report step = record (acts step) { effect = if ended then ByCommand Rests else ByAudio step; report = if ended then report else Nothing }

-- something passes between the partitions, and no lines are shown
abbrev pub crosses : Asked → Crossing → TransitionData
crosses asked crossing = record (quiet (stays (succeeds asked.list_place (codes "")))) { crossing = crossing }

-- the client that asks goes to the partition of a number: its channels and its messages end in the other
abbrev pub enters : Asked → ℕ → TransitionData
enters asked index = leaves asked.client (record { answer = succeeds asked.list_place (codes ""); move = Enter index })

-- what a part of the daemon is told that is no client, by an event of the partition of a number
abbrev pub report_of : ℕ → List Part → Library → TransitionData → Report
report_of index parts library t = report_in library.rate (part_at index parts) t.effect t.report

-- the partitions after an event of the one of a number, and after what passes between them
abbrev pub parts_after : ℕ → ℕ → TransitionData → List Part → List Part
parts_after rate index t parts = parts_moved t.crossing (changed rate index t.effect parts)

-- the limit of numbers of a partition
abbrev pub max_cut_in : Option Part → ℕ
max_cut_in None = 9223372036854775807
max_cut_in (Some part) = part.player.max_cut

-- whether a transition leaves the numbers of cuts, starts, jobs and scans at or below their limit, and how often
-- each output was moved
abbrev pub keeps_all_numbers : ℕ → List Part → Library → TransitionData → Bool
keeps_all_numbers index parts library t =
    let max_cut = max_cut_in (part_at index parts) in
    is_within_in library.rate (part_at index parts) t.effect
    && (not (begins_beyond max_cut library.scan t.scan) && not (crosses_beyond max_cut t.crossing (map known parts)))
