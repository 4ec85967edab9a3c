-- What the application of an event leaves of a player's state and tells: as its transition says.
use Rattle.std.specs.Prelude.{◌≡◌, ◌∷◌, ◌++◌, ◌-◌, ◌^◌, ◌≤◌, [], min, true, ℕ, List, Option, Some, None, Result, IfOk, count_by, slice_index_or}
use Rattle.std.specs.Borrow.{Bor}
use Rattle.std.specs.List.{flat_map}
use Rattle.std.specs.Option.{option_copied}
use Rattle.connected_clients.specs.declared.notices.Notice.{Notice}
use Rattle.connected_clients.specs.declared.notices.Notices.{Notices}
use Rattle.connected_clients.specs.Clients.{clients_after, entering, move_of, moved, notice_for, notices_after, staying}
use Rattle.connected_clients.specs.Fingerprint.{FingerprintData, RaisedData, fingerprint, raised_in}
use Rattle.connected_clients.specs.Rooms.{is_waiting, listed, room_in}
use Rattle.partition.specs.Image.{Image, image_of_state, overview}
use Rattle.partition.specs.Refusals.{RefusesFrames, RefusesTransition}
use Rattle.mpd_command.specs.declared.command.Command.{Command}
use Rattle.mpd_command.specs.declared.name.Name.{Name}
use Rattle.mpd_command.specs.declared.request.Request.{Request}
use Rattle.partition_table.specs.Parts.{FitsIn, part_at}
use Rattle.partition_table.specs.declared.crossing.Crossing.{Crossing}
use Rattle.transitions.specs.declared.asked.Asked.{Asked}
use Rattle.transitions.specs.declared.asked.ListPlace.{ListPlace}
use Rattle.transitions.specs.declared.shelf_calls.Read.{Read}
use Rattle.partition.specs.Steps.{entry}
use Rattle.partition.specs.Step.{after_transition, books_by, counts_frames, keeps_limits, index_at, report_at, told_by, transition, transition_command, transition_line, transition_request, transition_run, transition_there}
use Rattle.partition.specs.declared.happen.Applied.{Applied}
use Rattle.partition.specs.declared.partition.PartitionFault.{PartitionFault}
use Rattle.partition.specs.declared.prepare.Prepared.{Prepared}
use Rattle.partition.specs.declared.state.State.{State}
use Rattle.player_events.specs.Events.{store_reply_at, with_store_reply}
use Rattle.player_events.specs.Sizes.{event_bytes}
use Rattle.player_events.specs.Outcomes.{OutcomeData}
use Rattle.player_events.specs.declared.event.Event.{Event}
use Rattle.player_events.specs.declared.event.LogEntry.{LogEntry}
use Rattle.player_state.specs.declared.effect.Effect.{Effect}
use Rattle.player_state.specs.declared.report.Report.{Report}
use Rattle.player_state.specs.Outputs.{FrameBooks}
use Rattle.player_state.specs.declared.state.Client.{Client}
use Rattle.player_state.specs.declared.state.Part.{Part}
use Rattle.transitions.specs.Answers.{Answer, ResponseData}
use Rattle.transitions.specs.Shelves.{is_written}
use Rattle.transitions.specs.Transitions.{IsOfCommand, TransitionData, quiet}
use Rattle.transitions.specs.declared.reply.Move.{Move}
use Rattle.transitions.specs.declared.transition.Telling.{Telling}

-- a result is this value, unless it is an error
abbrev pub OkGives : {A E : Type 0} → Result A E → A → Type 0
OkGives result value = IfOk result (λ given. given ≡ value)

-- the image after an event
abbrev pub image_after : State → Event → Image
image_after state event = after_transition (image_of_state state) event (transition (image_of_state state) event)

-- a state is the one that a transition of an event leaves
abbrev pub IsImageAfter : State → Event → TransitionData → State → Type 0
IsImageAfter state event t new = image_of_state new ≡ after_transition (image_of_state state) event t

-- the report of a transition, and the notices that it makes
abbrev pub report_by : State → Event → TransitionData → Report
report_by state event t = report_at (image_of_state state) event t

abbrev pub notices_by : State → Event → TransitionData → List Notice
notices_by state event t = (told_by (image_of_state state) event t).notices

-- the answer to an event
abbrev pub answer_to : State → Event → Answer
answer_to state event = (transition (image_of_state state) event).response.answer

module _ {E : Type 0} where
  -- a result, unless it is an error, is what a state's daemon makes of a line of a client that is in a partition,
  -- if both are there
  abbrev pub OkGivesLine : Result TransitionData E → State → Option (Bor Part) → Option Client → ListPlace → Request → Read → Type 0
  OkGivesLine result state part client list_place request read =
      OkGives result (transition_line (overview (image_of_state state)) (option_copied part) state.library client list_place request read)

  -- a result, unless it is an error, is what it makes of a request of a client that is there
  abbrev pub OkGivesRequest : Result TransitionData E → State → Option (Bor Part) → Client → ListPlace → Request → Read → Type 0
  OkGivesRequest result state part client list_place request read =
      OkGives result (transition_request (overview (image_of_state state)) (option_copied part) state.library client list_place request read)

  -- a result, unless it is an error, is what it makes of a command of a client that is there
  abbrev pub OkGivesRun : Result TransitionData E → State → Option (Bor Part) → Client → Name → ListPlace → Command → Read → Type 0
  OkGivesRun result state part client name list_place command read =
      OkGives result (transition_command (overview (image_of_state state)) (option_copied part) state.library client name list_place command read)

  -- a result, unless it is an error, is what it makes of a command that is no wish, whether or not its partition
  -- is there
  abbrev pub OkGivesAsked : Result TransitionData E → State → Option (Bor Part) → Asked → Read → Command → Type 0
  OkGivesAsked result state part asked read command =
      OkGives result (transition_there (overview (image_of_state state)) asked (option_copied part) state.library read command)

-- what a state's daemon makes of a command that is no wish, where its partition is there
abbrev pub run_in : State → Part → Asked → Read → Command → TransitionData
run_in state part asked read command = transition_run (overview (image_of_state state)) asked part state.library read command

-- the readings of a state before an event of a partition
abbrev pub readings_in : State → Crossing → ℕ → FingerprintData
readings_in state crossing index = fingerprint crossing index state.parts state.library

-- the readings that were taken are those of this state
abbrev pub HasReadings : State → Crossing → ℕ → Prepared → Type 0
HasReadings state crossing index prepared = prepared.before ≡ readings_in state crossing index

-- there is room for a notice to each client that waits
abbrev pub HasRoomForWaiting : State → Prepared → Type 0
HasRoomForWaiting state prepared = count_by is_waiting state.clients.items ≤ room_in prepared.notices

-- the partition that an event of a state happens in
abbrev pub index_in_state : State → Event → ℕ
index_in_state state event = index_at (image_of_state state) event

-- its frames could not be counted any more, or there was no memory for what it needs
abbrev pub RefusesFramesIn : State → ℕ → TransitionData → PartitionFault → Type 0
RefusesFramesIn state index t fault = RefusesFrames state.books index state.parts state.library t fault

-- the queue and the channels of the partition of a number can take what a transition does to it
abbrev pub FitsAt : State → ℕ → TransitionData → Type 0
FitsAt state index t = FitsIn (part_at index state.parts) t.effect

-- only a partition that is there is decoded and played
abbrev pub ActsWithin : Option Part → Effect → Type 0
ActsWithin None effect = IsOfCommand effect
ActsWithin (Some part) effect = Unit {0}

-- only a partition that is there is decoded and played, by its number
abbrev pub ActsAt : State → ℕ → TransitionData → Type 0
ActsAt state index t = ActsWithin (part_at index state.parts) t.effect

-- the partition that an event happens in can take what a transition does to it
abbrev pub FitsEvent : State → Event → TransitionData → Type 0
FitsEvent state event t = FitsAt state (index_in_state state event) t

-- the partition that an event happens in is there, if the transition decodes or plays it
abbrev pub ActsForEvent : State → Event → TransitionData → Type 0
ActsForEvent state event t = ActsAt state (index_in_state state event) t

-- what an event makes clients hear
abbrev pub telling_of : State → Event → OutcomeData
telling_of state event = told_by (image_of_state state) event (transition (image_of_state state) event)

-- what was applied has the answer to an event
abbrev pub AnswersEvent : State → Event → Applied → Type 0
AnswersEvent state event applied = applied.telling.response.answer ≡ answer_to state event

-- what was applied has the report of an event
abbrev pub ReportsEvent : State → Event → Applied → Type 0
ReportsEvent state event applied = applied.telling.report ≡ (telling_of state event).report

-- what was applied has the notices of an event
abbrev pub NotifiesOfEvent : State → Event → Applied → Type 0
NotifiesOfEvent state event applied = listed applied.notices ≡ (telling_of state event).notices

-- what was applied has the answer of a transition
abbrev pub AnswersBy : TransitionData → Applied → Type 0
AnswersBy t applied = applied.telling.response.answer ≡ t.response.answer

-- what was applied has the report of a transition of an event
abbrev pub ReportsBy : State → Event → TransitionData → Applied → Type 0
ReportsBy state event t applied = applied.telling.report ≡ report_by state event t

-- what was applied has the notices that a transition of an event makes
abbrev pub NotifiesBy : State → Event → TransitionData → Applied → Type 0
NotifiesBy state event t applied = listed applied.notices ≡ notices_by state event t

-- a transition passes no limit: its frames can be counted, and its numbers are not above theirs
abbrev pub PassesNoLimit : State → Event → TransitionData → Type 0
PassesNoLimit state event t = (counts_frames (image_of_state state) event t ≡ true) × (keeps_limits (image_of_state state) event t ≡ true)

-- the same of the transition of an event
abbrev pub IsWithinLimits : State → Event → Type 0
IsWithinLimits state event = PassesNoLimit state event (transition (image_of_state state) event)

-- why a state refuses a transition of an event, if it does
abbrev pub RefusesTransitionIn : State → Event → TransitionData → PartitionFault → Type 0
RefusesTransitionIn state event t fault = RefusesTransition (image_of_state state) event t fault

-- why an event may be refused
abbrev pub RefusesEvent : State → Event → PartitionFault → Type 0
RefusesEvent state event fault = RefusesTransition (image_of_state state) event (transition (image_of_state state) event) fault

-- of an event nothing changes but that the shelf refused what it was to write, or did not
abbrev pub HearsRefusal : Event → Event → Type 0
HearsRefusal old new = new ≡ with_store_reply old (record (store_reply_at old) { refused = (store_reply_at new).refused })

-- a transition that writes to the shelf does nothing else, its response aside
abbrev pub IsAlone : TransitionData → Type 0
IsAlone t = t ≡ record (quiet t.response) { written = t.written }

-- a transition that writes to the shelf does nothing else
abbrev pub WritesAlone : TransitionData → Type 0
WritesAlone t = is_written t.written ≡ true → IsAlone t

-- a history grows by an event of a seat that was told so
abbrev pub AddsEntry : List LogEntry → List LogEntry → ℕ → Event → OutcomeData → Type 0
AddsEntry old new seat event told = new ≡ old ++ entry seat event told ∷ []

-- what was told at an event, with these notices
abbrev pub outcome_with : Telling → Notices → OutcomeData
outcome_with telling notices = record { answer = telling.response.answer; notices = listed notices; report = telling.report }

-- the frames of the outputs after it
abbrev pub books_in : State → ℕ → TransitionData → FrameBooks
books_in state index t = books_by state.books index state.parts state.library t

-- no client goes to another partition by this move
abbrev pub GoesNowhere : Move → Type 0
GoesNowhere move = (number : ℕ) → entering number move ≡ None

-- a transition does nothing but answer its client, which goes to no other partition, and report what was known before
abbrev pub IsStill : TransitionData → Type 0
IsStill t = (t ≡ record (quiet t.response) { report = t.report }) × GoesNowhere t.response.move

-- the clients once the one that an event comes from has done what it does; one that is closed is gone
abbrev pub clients_moved : ℕ → ResponseData → List Client → List Client
clients_moved sender response clients = moved sender (move_of response) (staying sender response clients)

-- the clients once they were told of what was raised, and the event's own client has done what it does
abbrev pub clients_told : ℕ → RaisedData → ResponseData → List Client → List Client
clients_told number raised response clients = clients_after number (raised_in raised) response clients

-- the notices of what was raised, and of what the event's own client does
abbrev pub notices_told : ℕ → RaisedData → ResponseData → List Client → List Notice
notices_told number raised response clients = notices_after number (raised_in raised) response clients

-- clients were told of what was raised, and the event's own client has done what it does
abbrev pub HearRaised : ℕ → RaisedData → ResponseData → List Client → List Client → Type 0
HearRaised number raised response before after = after ≡ clients_told number raised response before

-- what was applied has the notices of what was raised, and of what the event's own client does
abbrev pub ListsNotices : ℕ → RaisedData → ResponseData → List Client → Applied → Type 0
ListsNotices number raised response clients applied = listed applied.notices ≡ notices_told number raised response clients

-- the notices of what was raised
abbrev pub notices_of : RaisedData → List Client → List Notice
notices_of raised clients = flat_map (notice_for (raised_in raised)) clients

-- a list of notices grows by these
abbrev pub GrowsBy : Notices → Notices → List Notice → Type 0
GrowsBy old new more = listed new ≡ listed old ++ more

-- a list of notices grows by those of what was raised, and of what the event's own client does
abbrev pub GrowsByRaised : Notices → Notices → ℕ → RaisedData → ResponseData → List Client → Type 0
GrowsByRaised old new number raised response clients = GrowsBy old new (notices_told number raised response clients)

-- how many events a seat made before an image
abbrev pub made_by : ℕ → Image → ℕ
made_by seat i = slice_index_or i.shared.made seat 0

-- a number is the bytes of the last of these entries, as far as it can be counted
abbrev pub AreBytesOfLast : List LogEntry → ℕ → Type 0
AreBytesOfLast history bytes = (front : List LogEntry) (last : LogEntry) → history ≡ front ++ last ∷ [] → bytes ≡ min (event_bytes last) (2 ^ 64 - 1)
