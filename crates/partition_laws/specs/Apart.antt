-- What is true of every daemon, whatever its clients do: what happens in other partitions is not seen in one.
use Rattle.std.specs.Prelude.{◌≡◌, ℕ, ◌==◌, Bool, true, false, not, ◌&&◌, ◌||◌, List, [], ◌∷◌, ◌++◌, map, filter, Option, Some, None, option_map, if◌then◌else◌}
use Rattle.mpd_text.specs.declared.songs.song.TagName.{TagName}
use Rattle.player_state.specs.Outputs.{is_output}
use Rattle.player_state.specs.declared.report.Report.{Report}
use Rattle.player_state.specs.declared.state.Client.{Client}
use Rattle.player_state.specs.declared.state.Library.{Library}
use Rattle.partition_table.specs.Parts.{Known, known_at, part_at}
use Rattle.partition_table.specs.declared.crossing.Crossing.{Crossing}
use Rattle.partition_table.specs.declared.crossing.Crossing.TheVariants.{Brings}
use Rattle.partition_commands.specs.Partitions.{Seated}
use Rattle.transitions.specs.Answers.{Answer}
use Rattle.transitions.specs.Shelves.{changes_lists, changes_stickers}
use Rattle.transitions.specs.Transitions.{TransitionData}
use Rattle.transitions.specs.declared.reply.Move.{Move}
use Rattle.transitions.specs.declared.reply.Move.TheVariants.{Enter}
use Rattle.transitions.specs.declared.shelf_calls.ShelfWrite.{ShelfWrite}
use Rattle.connected_clients.specs.Clients.{Rising, client_of, move_of}
use Rattle.connected_clients.specs.UpToDate.{AllUpToDate}
use Rattle.connected_clients.specs.declared.notices.Notice.{Notice}
use Rattle.player_events.specs.declared.event.Event.{Event}
use Rattle.player_events.specs.declared.event.Event.TheVariants.{ScanQuestion, ScanResult, End}
use Rattle.player_events.specs.declared.event.LogEntry.{LogEntry}
use Rattle.partition.specs.History.{replay}
use Rattle.partition.specs.Image.{Image, Overview, opening, overview}
use Rattle.partition.specs.Step.{keeps_limits, next_image, index_at, sender_in, told, transition}
use Rattle.partition.specs.declared.state.Setup.{Setup}

-- What all share: what all know, and what can be played. How many events each seat made, and the frames of
-- the outputs, are aside
pub record Common : Type 0 where
  pub overview : Overview
  pub library : Library

abbrev pub common : Image → Common
common i = record { overview = overview i; library = i.shared.library }

-- the partition that the client of a number is in, if it is there
abbrev pub seat_of : ℕ → List Seated → Option ℕ
seat_of number [] = None
seat_of number (k ∷ ks) = if k.number == number then Some k.index else seat_of number ks

-- the client of a number is in the partition of a number
abbrev pub IsIn : ℕ → ℕ → Image → Type 0
IsIn index number i = seat_of number (overview i).clients ≡ Some index

-- Two daemons agree on a partition: what all share is the same, so is the partition, and so is each client in
-- it. Nothing is said of other partitions, and of what is pending for the clients there.
pub record Agree (index : ℕ) (i j : Image) : Type 0 where
  pub common : common i ≡ common j
  pub part : part_at index i.parts ≡ part_at index j.parts
  pub clients : (number : ℕ) → IsIn index number i → client_of number i.clients ≡ client_of number j.clients

-- what is true of each daemon from its opening on: clients are in the order of their numbers, and none waits
-- for what is pending for it
pub record Legal (i : Image) : Type 0 where
  pub rising : Rising i.clients
  pub up_to_date : AllUpToDate i.clients

abbrev pub OpensLegal : Type 0
OpensLegal = (setup : Setup) (library : Library) → Legal (opening setup library)

abbrev pub StaysLegal : Type 0
StaysLegal = (seat : ℕ) (i : Image) (event : Event) → Legal i → Legal (next_image seat i event)

-- so each is that some history led to
abbrev pub LeadsToLegal : Type 0
LeadsToLegal =
    (setup : Setup) (library : Library) (history : List LogEntry) → Legal (replay (opening setup library) history)

-- events of no partition: the questions and the ends of scans, and the end of the daemon
abbrev pub is_of_none : Event → Bool
is_of_none ScanQuestion = true
is_of_none (ScanResult songs second) = true
is_of_none End = true
is_of_none _ = false

-- An event happens in a partition where its client, its job or its output is in it. One whose client or
-- output is nowhere happens in the first
abbrev pub happens_in : ℕ → Image → Event → Bool
happens_in index i event = not (is_of_none event) && (index_at i event == index)

-- a client comes to a partition from another one
abbrev pub comes_to : ℕ → Move → Bool
comes_to index (Enter to) = to == index
comes_to index _ = false

abbrev pub has_output : ℕ → Option Known → Bool
has_output output None = false
has_output output (Some f) = is_output f.outputs output

-- an output comes to a partition, or goes from it
abbrev pub passes : ℕ → List Known → Crossing → Bool
passes index fs (Brings output to) = (to == index) || has_output output (known_at index fs)
passes index fs _ = false

-- what an event makes reaches a partition: a client or an output comes to it, or an output goes from it
abbrev pub reaches : ℕ → List Known → TransitionData → Bool
reaches index fs t = comes_to index (move_of t.response) || passes index fs t.crossing

-- an event belongs to a partition where it happens in it, or reaches it
abbrev pub belongs : ℕ → Image → Event → Bool
belongs index i event = happens_in index i event || reaches index (overview i).parts (transition i event)

abbrev pub tags_of : Option Client → Option (List TagName)
tags_of client = option_map (λ (k : Client). k.tags) client

-- the tags that the client of an event is shown, and takes along where it comes to a partition by it
abbrev pub tags_along : ℕ → Image → Event → Option (List TagName)
tags_along index i event =
    if comes_to index (move_of (transition i event).response) then tags_of (sender_in i.clients event) else None

-- the notices to the client of a number
abbrev pub notices_to : ℕ → List Notice → List Notice
notices_to number notices = filter (λ (n : Notice). n.client == number) notices

abbrev pub told_to : ℕ → Image → Event → List Notice
told_to number i event = notices_to number (told i event).notices

-- whether an event leaves the numbers of its partition at or below their limit
abbrev pub is_within : Image → Event → Bool
is_within i event = keeps_limits i event (transition i event)

-- Two daemons that agree on a partition, at an event of it: what is told is the same, and they go on
-- agreeing. One that happens in it brings a number above its limit in both, or in neither
pub record HearTheSame (index seat : ℕ) (i j : Image) (event : Event) : Type 0 where
  pub answer : (told i event).answer ≡ (told j event).answer
  pub report : (told i event).report ≡ (told j event).report
  pub notices : (number : ℕ) → IsIn index number i → told_to number i event ≡ told_to number j event
  pub agree : Agree index (next_image seat i event) (next_image seat j event)
  pub limits : happens_in index i event ≡ true → is_within i event ≡ is_within j event

-- the event belongs to the partition in both. A client that comes to it by the event, from wherever it was,
-- is shown the same tags in both: it takes them along
pub record IsOfBoth (index : ℕ) (i j : Image) (event : Event) : Type 0 where
  pub one : belongs index i event ≡ true
  pub other : belongs index j event ≡ true
  pub tags : tags_along index i event ≡ tags_along index j event

-- Of two daemons that agree on a partition, an event that belongs to it in both is answered alike, each
-- client in it hears the same, and they agree on it after the event.
abbrev pub EqualViewsHearTheSame : Type 0
EqualViewsHearTheSame = (index seat : ℕ) (i j : Image) (event : Event) → Legal i → Legal j → Agree index i j
    → IsOfBoth index i j event → HearTheSame index seat i j event

-- an event of a list, with its seat, that stays in the list or is left out
pub data Choice : Type 0 where
  Keeps : (seat : ℕ) (event : Event) → Choice
  LeavesOut : (seat : ℕ) (event : Event) → Choice

abbrev pub whole : List Choice → List (ℕ × Event)
whole [] = []
whole (Keeps seat event ∷ choices) = (seat, event) ∷ whole choices
whole (LeavesOut seat event ∷ choices) = (seat, event) ∷ whole choices

abbrev pub left : List Choice → List (ℕ × Event)
left [] = []
left (Keeps seat event ∷ choices) = (seat, event) ∷ left choices
left (LeavesOut seat event ∷ choices) = left choices

-- which of the shelf's two maps an event makes others, which all share
pub record ShelfChanges : Type 0 where
  pub lists : Bool
  pub stickers : Bool

abbrev pub shelf_changes : ShelfWrite → ShelfChanges
shelf_changes written = record { lists = changes_lists written; stickers = changes_stickers written }

abbrev pub no_shelf_changes : ShelfChanges
no_shelf_changes = record { lists = false; stickers = false }

-- an event that stays leaves what all share alike in both lists, and a client that comes by it is shown the
-- same tags in both
pub record MayStay (index seat : ℕ) (i j : Image) (event : Event) : Type 0 where
  pub common : common (next_image seat i event) ≡ common (next_image seat j event)
  pub shelf : shelf_changes (transition i event).written ≡ shelf_changes (transition j event).written
  pub tags : tags_along index i event ≡ tags_along index j event

-- an event that is left out belongs to other partitions alone, and leaves what all share as it was
pub record MayGo (index seat : ℕ) (i : Image) (event : Event) : Type 0 where
  pub foreign : belongs index i event ≡ false
  pub common : common (next_image seat i event) ≡ common i
  pub shelf : shelf_changes (transition i event).written ≡ no_shelf_changes

abbrev pub MayLeaveOut : ℕ → Image → Image → List Choice → Type 0
MayLeaveOut index i j [] = Unit {0}
MayLeaveOut index i j (Keeps seat event ∷ choices) =
    MayStay index seat i j event × MayLeaveOut index (next_image seat i event) (next_image seat j event) choices
MayLeaveOut index i j (LeavesOut seat event ∷ choices) =
    MayGo index seat i event × MayLeaveOut index (next_image seat i event) j choices

-- what is heard in a partition: what is answered to an event of it, with what is reported of it, and notices
pub data Word : Type 0 where
  Says : (answer : Answer) (report : Report) → Word
  Notifies : (notice : Notice) → Word

abbrev pub is_seat : ℕ → Option ℕ → Bool
is_seat index None = false
is_seat index (Some own) = own == index

abbrev pub said : ℕ → Image → Event → List Word
said index i event = if happens_in index i event then Says (told i event).answer (told i event).report ∷ [] else []

-- the notices to a client while it is in the partition
abbrev pub noticed : ℕ → ℕ → Image → Event → List Word
noticed index number i event =
    if is_seat index (seat_of number (overview i).clients) then map Notifies (told_to number i event) else []

-- all that is heard in a partition, with the notices to one client, over a list of events
abbrev pub all_heard : ℕ → ℕ → Image → List (ℕ × Event) → List Word
all_heard index number i [] = []
all_heard index number i (e ∷ es) =
    said index i e.1 ++ noticed index number i e.1 ++ all_heard index number (next_image e.0 i e.1) es

-- a daemon after events of seats
abbrev pub after_events : Image → List (ℕ × Event) → Image
after_events i [] = i
after_events i (e ∷ es) = after_events (next_image e.0 i e.1) es

-- One daemon went through a list of events, the other through what is left of it: the same was heard in the
-- partition, and they agree on it.
pub record HeardTheSame (index : ℕ) (i j : Image) (choices : List Choice) : Type 0 where
  pub heard : (number : ℕ) → all_heard index number i (whole choices) ≡ all_heard index number j (left choices)
  pub agree : Agree index (after_events i (whole choices)) (after_events j (left choices))

-- Of two daemons that agree on a partition, others' events may be left out for one, where they leave what all
-- share as it was, and those that stay still leave it as they do for the other.
abbrev pub OthersMayBeLeftOut : Type 0
OthersMayBeLeftOut = (index : ℕ) (i j : Image) (choices : List Choice) → Legal i → Legal j → Agree index i j
    → MayLeaveOut index i j choices → HeardTheSame index i j choices
