-- What an event does to a daemon, and what it makes clients hear.
use Rattle.std.specs.Prelude.{ℕ, Bool, true, false, not, ◌&&◌, ◌||◌, List, map, Option, Some, None, is_some, unwrap_or, length, nat_le, slice_index_or, codes, if◌then◌else◌}
use Rattle.idle_notes.specs.declared.sets.Subsystems.{Subsystems}
use Rattle.mpd_command.specs.declared.command.Command.{Command}
use Rattle.mpd_command.specs.declared.command.Command.TheVariants as command
use Rattle.mpd_command.specs.declared.name.Name.{Name}
use Rattle.mpd_command.specs.declared.request.Request.{Request}
use Rattle.mpd_text.specs.Songs.Song.{SongData}
use Rattle.mpd_command.specs.declared.request.Request.TheVariants.{Run, Refused}
use Rattle.transitions.specs.declared.asked.Asked.{Asked}
use Rattle.player_events.specs.declared.event.Event.{Event}
use Rattle.player_events.specs.declared.event.Event.TheVariants.{Connect, Disconnect, Line, ScanQuestion, ScanResult, Want, Have, Failed, OutputTurn, End}
use Rattle.transitions.specs.declared.reply.Move.TheVariants.{Join}
use Rattle.transitions.specs.declared.asked.ListPlace.{ListPlace}
use Rattle.transitions.specs.declared.asked.ListPlace.TheVariants.{Alone, InList}
use Rattle.player_state.specs.declared.effect.AudioStep.TheVariants.{Wants, Accepts, Fails, Settles}
use Rattle.partition.specs.declared.partition.PartitionFault.{PartitionFault}
use Rattle.partition.specs.declared.partition.PartitionFault.TheVariants.{CutsAtLimit, AtLimit}
use Rattle.player_state.specs.declared.effect.AudioStep.{AudioStep}
use Rattle.player_state.specs.declared.report.Report.{Report}
use Rattle.player_state.specs.declared.report.Report.TheVariants.{ToDecode, ToScan, ScanEnded, ToFeed, ToPlay, Ended}
use Rattle.partition_table.specs.Parts.{Known, holder, known, part_at}
use Rattle.partition_commands.specs.Partitions.{Seated, planned}
use Rattle.player_state.specs.declared.scan.ScanMove.TheVariants.{End as EndsScan}
use Rattle.player_state.specs.declared.state.Client.{Client}
use Rattle.player_state.specs.declared.state.Library.{Library}
use Rattle.player_state.specs.declared.state.Part.{Part}
use Rattle.player_events.specs.Outcomes.{OutcomeData}
use Rattle.transitions.specs.Answers.{ResponseData, refused_by_shelf, refuses, disconnects, stays, tells}
use Rattle.connected_clients.specs.Clients.{entering, move_of, watched_all, raised, clients_after, notices_after}
use Rattle.status_commands.specs.Connection.{result_of as connection_result}
use Rattle.library_commands.specs.Database.{result_of as database_result}
use Rattle.status_commands.specs.Options.{result_of as options_result}
use Rattle.queue_commands.specs.Playback.{result_of as playback_result}
use Rattle.status_commands.specs.Outputs.{result_of as outputs_result}
use Rattle.queue_commands.specs.Queue.{result_of as queue_result}
use Rattle.status_commands.specs.Messages.{result_of as messages_result}
use Rattle.library_commands.specs.Asking.{question_by}
use Rattle.library_commands.specs.Playlists.{result_of as playlists_result}
use Rattle.library_commands.specs.Stickers.{result_of as stickers_result}
use Rattle.status_commands.specs.Status.{Wish, ToGoOn, wish_of, wished, result_of as status_result}
use Rattle.player_state.specs.Scans.{running}
use Rattle.transitions.specs.Shelves.{Question, NoQuestion, is_written}
use Rattle.transitions.specs.declared.shelf_calls.Read.{Read}
use Rattle.shelf.specs.declared.faults.ShelfFault.{ShelfFault}
use Rattle.player_state.specs.Outputs.{FrameBooks, books_after, can_count_all, is_output, owes_any}
use Rattle.partition.specs.Image.{Image, Overview, counted, overview}
use Rattle.transitions.specs.Transitions.{TransitionData, acts, acts_unless, departs, keeps_all_numbers, or_ended, parts_after, quiet, report_of, transition_by, no_response}
use Rattle.player_state.specs.Libraries.{library_after}
use Rattle.connected_clients.specs.Clients.{client_of}
use Rattle.player_events.specs.Events.{name_of}

-- what a command makes: those of partitions by what all know, the others by the partition of its client. Those by
-- which a client waits, or is shown other tags, are wishes and make nothing of it
abbrev pub transition_run : Overview → Asked → Part → Library → Read → Command → TransitionData
transition_run o asked part library read (command.Status command) = transition_by (status_result asked part library command)
transition_run o asked part library read (command.Options command) = transition_by (options_result asked part command)
transition_run o asked part library read (command.Playback command) = transition_by (playback_result asked part library command)
transition_run o asked part library read (command.Queue command) = transition_by (queue_result asked part library command)
transition_run o asked part library read (command.Playlists command) = transition_by (playlists_result asked part library read command)
transition_run o asked part library read (command.Database command) = transition_by (database_result asked part library read command)
transition_run o asked part library read (command.Stickers command) = transition_by (stickers_result asked library read command)
transition_run o asked part library read (command.Connection command) = transition_by (connection_result asked command)
transition_run o asked part library read (command.Outputs command) = transition_by (outputs_result asked part command)
transition_run o asked part library read (command.Messages command) = transition_by (messages_result asked part command)
transition_run o asked part library read (command.Partitions command) = planned o.parts o.clients o.openings asked part.index command

-- a client's wish leaves the daemon as it is; another command makes what it makes
abbrev pub transition_wished : Asked → Client → TransitionData → Option Wish → TransitionData
transition_wished asked client t (Some wish) = quiet (wished asked client wish)
transition_wished asked client t None = t

-- what an answer is made for: a command of a client, which names it so and whose line comes so
abbrev pub asked_by : Client → Name → ListPlace → Asked
asked_by client name list_place = record { client = client.number; tags = client.tags; name = name; list_place = list_place }

-- a command of a client whose partition is not there closes it
abbrev pub transition_there : Overview → Asked → Option Part → Library → Read → Command → TransitionData
transition_there o asked None library read command = quiet (stays disconnects)
transition_there o asked (Some part) library read command = transition_run o asked part library read command

abbrev pub transition_command : Overview → Option Part → Library → Client → Name → ListPlace → Command → Read → TransitionData
transition_command o part library client name list_place command read =
    let asked : Asked = asked_by client name list_place in
    transition_wished asked client (transition_there o asked part library read command) (wish_of command)

abbrev pub transition_request : Overview → Option Part → Library → Client → ListPlace → Request → Read → TransitionData
transition_request o part library client list_place (Run name command) read = transition_command o part library client name list_place command read
transition_request o part library client list_place (Refused ack) read = quiet (stays (refuses list_place ack.command ack.number ack.text))

abbrev pub greeting : ResponseData
greeting = record { answer = tells (codes "OK MPD 0.23.0\n"); move = Join }

-- a client that comes is greeted; one that is there stays as it is; one that finds no room is closed
abbrev pub response_to_new : List Seated → Option Client → ResponseData
response_to_new clients (Some client) = stays (tells (codes ""))
response_to_new clients None = if nat_le 64 (length clients) then stays disconnects else greeting

abbrev pub is_to_go_on : Option Wish → Bool
is_to_go_on (Some ToGoOn) = true
is_to_go_on _ = false

-- the one command that a client may send while it waits is `noidle`, alone in its line
abbrev pub ends_by : ListPlace → Option Wish → Bool
ends_by Alone wish = is_to_go_on wish
ends_by (InList form place) wish = false

abbrev pub ends_waiting : ListPlace → Request → Bool
ends_waiting list_place (Run name command) = ends_by list_place (wish_of command)
ends_waiting list_place (Refused ack) = false

-- a line of a client that is not there closes it; so does a line other than `noidle` while it waits, whatever
-- the line says
abbrev pub transition_line : Overview → Option Part → Library → Option Client → ListPlace → Request → Read → TransitionData
transition_line o part library None list_place request read = quiet (stays disconnects)
transition_line o part library (Some client) list_place request read =
    if is_some client.pending.waiting && not (ends_waiting list_place request) then departs client.number
    else transition_request o part library client list_place request read

-- a transition that writes to the shelf does nothing else; where the shelf refuses, it is answered so, and
-- nothing happens
abbrev pub once_written : ListPlace → Request → Option ShelfFault → TransitionData → TransitionData
once_written list_place request None t = record (quiet t.response) { written = t.written }
once_written list_place request (Some fault) t = quiet (stays (refused_by_shelf list_place (name_of request) fault))

abbrev pub written_transition : ListPlace → Request → Option ShelfFault → TransitionData → TransitionData
written_transition list_place request refused t = if is_written t.written then once_written list_place request refused t else t

-- an output that is not there has nothing to play (this profile's)
abbrev pub absent : TransitionData
absent = record (quiet no_response) {
  report = ToPlay (record { moves = 0; live = record { cut = 0; enabled = false; paused = false } });
}

-- the turn of an output, by the partition that it is in
abbrev pub output_turn : Option Part → ℕ → AudioStep → TransitionData
output_turn None output step = absent
output_turn (Some part) output step = if is_output part.outputs output then acts step else absent

-- a step of the decoder for a partition that is not there: it is told this, or the end
abbrev pub tells_of : Bool → Report → Report → TransitionData
tells_of ended at_end report = record (quiet no_response) { report = if ended then at_end else report }

-- the decoder wants a job of a partition, whose own outputs' feeders must owe nothing
abbrev pub want : Bool → Option Part → List Bool → TransitionData
want ended None owes = tells_of ended Ended (ToDecode None)
want ended (Some part) owes = acts_unless ended Ended (Wants (owes_any part.outputs owes))

-- frames of a job of a partition are decoded
abbrev pub have : Bool → Option Part → ℕ → ℕ → TransitionData
have ended None number frames = tells_of ended (ToFeed None) (ToFeed None)
have ended (Some part) number frames = acts_unless ended (ToFeed None) (Accepts number frames)

-- the song of a job of a partition cannot be read
abbrev pub failure : Option Part → ℕ → Bool → TransitionData
failure None number of_partner = quiet no_response
failure (Some part) number of_partner = acts (Fails number of_partner)

-- the end of a scan: what it found, if it found songs, and whether that scan ran
abbrev pub ended_scan : Library → Option (List SongData) → ℕ → TransitionData
ended_scan library songs second = record (quiet no_response) { scan = EndsScan songs second; report = ScanEnded library.scan.runs }

-- the scanner asks for a scan: it is told the one that runs, or the end
abbrev pub question_of_scan : Bool → Library → TransitionData
question_of_scan ended library = record (quiet no_response) { report = if ended then Ended else ToScan (running library.scan) }

-- What an event makes, by what all know, by the partition that it happens in, and by the client that it comes from.
-- The turn of an output that is not there changes nothing. After the end wants, scan questions and turns are told
-- of it, and a have is stale; an output still tells of its frames.
abbrev pub transition_of : Overview → Option Part → Library → Option Client → Event → TransitionData
transition_of o part library client (Connect number) = quiet (response_to_new o.clients client)
transition_of o part library client (Disconnect number) = departs number
transition_of o part library client (Line number list_place request heard) =
    written_transition list_place request heard.refused (transition_line o part library client list_place request heard.read)
transition_of o part library client ScanQuestion = question_of_scan o.ended library
transition_of o part library client (ScanResult songs second) = ended_scan library songs second
transition_of o part library client (Want index owes) = want o.ended part owes
transition_of o part library client (Have index number frames) = have o.ended part number frames
transition_of o part library client (Failed index number of_partner) = failure part number of_partner
transition_of o part library client (OutputTurn output written discarded failed) =
    or_ended o.ended (output_turn part output (Settles output written discarded failed))
transition_of o part library client End = quiet no_response

-- what an event asks the shelf: a line alone asks, and only one that is run
abbrev pub question_in : Library → Request → Question
question_in library (Run name command) = question_by library command
question_in library (Refused ack) = NoQuestion

abbrev pub question_line : Library → Option Client → ListPlace → Request → Question
question_line library None list_place request = NoQuestion
question_line library (Some client) list_place request =
    if is_some client.pending.waiting && not (ends_waiting list_place request) then NoQuestion else question_in library request

abbrev pub question_of : Library → List Client → Event → Question
question_of library clients (Line number list_place request heard) = question_line library (client_of number clients) list_place request
question_of library clients _ = NoQuestion

-- the client that an event comes from, if it comes from one
abbrev pub sender : Event → Option ℕ
sender (Connect number) = Some number
sender (Disconnect number) = Some number
sender (Line number list_place request heard) = Some number
sender ScanQuestion = None
sender (ScanResult songs second) = None
sender (Want index owes) = None
sender (Have index number frames) = None
sender (Failed index number of_partner) = None
sender (OutputTurn output written discarded failed) = None
sender End = None

-- the client whose answer and move those of an event are. An event that comes from none makes no move and
-- closes nobody, so that it does not matter which one is named
abbrev pub sender_number : Event → ℕ
sender_number event = unwrap_or (sender event) 0

-- the client that an event comes from, if it is there
abbrev pub client_among : Option ℕ → List Client → Option Client
client_among None clients = None
client_among (Some number) clients = client_of number clients

abbrev pub sender_in : List Client → Event → Option Client
sender_in clients event = client_among (sender event) clients

-- the partition of a client; the first for one that is not there
abbrev pub index_in : Option Client → ℕ
index_in None = 0
index_in (Some client) = client.index

-- The partition that an event happens in: the one of the client that it comes from, the one whose job is asked
-- for, decoded or failed, or the one of an output. The others happen in the first, where they change nothing.
abbrev pub index_of : List Known → Option Client → Event → ℕ
index_of parts client (Connect number) = index_in client
index_of parts client (Disconnect number) = index_in client
index_of parts client (Line number list_place request heard) = index_in client
index_of parts client ScanQuestion = 0
index_of parts client (ScanResult songs second) = 0
index_of parts client (Want index owes) = index
index_of parts client (Have index number frames) = index
index_of parts client (Failed index number of_partner) = index
index_of parts client (OutputTurn output written discarded failed) = unwrap_or (holder output parts) 0
index_of parts client End = 0

abbrev pub index_at : Image → Event → ℕ
index_at i event = index_of (map known i.parts) (sender_in i.clients event) event

abbrev pub transition : Image → Event → TransitionData
transition i event = transition_of (overview i) (part_at (index_at i event) i.parts) i.shared.library (sender_in i.clients event) event

-- the client that goes to another partition by an event of this client
abbrev pub moved_client : ℕ → ResponseData → Option ℕ
moved_client number response = entering number (move_of response)

-- what a transition of an event of a partition raises for each client: everything for the one that goes to another
-- partition; else what differs before and after it
abbrev pub raised_by : ℕ → ℕ → List Part → Library → TransitionData → Client → Subsystems
raised_by number index parts library t =
    raised (moved_client number t.response) t.written (watched_all library parts)
    (watched_all (library_after library t.scan) (parts_after library.rate index t parts))

-- whether the daemon has ended, after an event
abbrev pub ended_after : Bool → Event → Bool
ended_after ended End = true
ended_after ended _ = ended

-- what it raises, in an image
abbrev pub raised_of : Image → Event → TransitionData → Client → Subsystems
raised_of i event t = raised_by (sender_number event) (index_at i event) i.parts i.shared.library t

abbrev pub report_at : Image → Event → TransitionData → Report
report_at i event t = report_of (index_at i event) i.parts i.shared.library t

-- the image after a transition, with its clients
abbrev pub after_transition : Image → Event → TransitionData → Image
after_transition i event t = record {
  parts = parts_after i.shared.library.rate (index_at i event) t i.parts;
  shared = record i.shared {
    library = library_after i.shared.library t.scan;
    books = books_after i.shared.books t.effect (report_at i event t);
    ended = ended_after i.shared.ended event;
  };
  clients = clients_after (sender_number event) (raised_of i event t) t.response i.clients;
}

-- the image after an event of a seat
unfoldable pub next_image : ℕ → Image → Event → Image
next_image seat i event = counted seat (after_transition i event (transition i event))

-- what a transition makes clients hear
abbrev pub told_by : Image → Event → TransitionData → OutcomeData
told_by i event t = record {
  answer = t.response.answer;
  notices = notices_after (sender_number event) (raised_of i event t) t.response i.clients;
  report = report_at i event t;
}

-- what an event makes clients hear
unfoldable pub told : Image → Event → OutcomeData
told i event = told_by i event (transition i event)

-- the numbers of frames after a transition of an event of a partition
abbrev pub books_by : FrameBooks → ℕ → List Part → Library → TransitionData → FrameBooks
books_by books index parts library t = books_after books t.effect (report_of index parts library t)

-- whether the frames that a transition tells of can be counted with all others
abbrev pub counts_frames : Image → Event → TransitionData → Bool
counts_frames i event t = can_count_all (books_by i.shared.books (index_at i event) i.parts i.shared.library t)

-- whether a transition leaves the numbers of cuts, starts, jobs and scans, and how often an output was moved, at
-- or below their limit
abbrev pub keeps_limits : Image → Event → TransitionData → Bool
keeps_limits i event t = keeps_all_numbers (index_at i event) i.parts i.shared.library t

-- why an event of a seat is refused, if it is: the seat made 2^63-1 events, or the frames could not be
-- counted any more; or a number would be above its limit
abbrev pub limit_by : ℕ → Image → Event → TransitionData → Option PartitionFault
limit_by seat i event t =
    if nat_le 9223372036854775807 (slice_index_or i.shared.made seat 0) || not (counts_frames i event t) then Some AtLimit
    else (if keeps_limits i event t then None else Some CutsAtLimit)

unfoldable pub limit_of : ℕ → Image → Event → Option PartitionFault
limit_of seat i event = limit_by seat i event (transition i event)
