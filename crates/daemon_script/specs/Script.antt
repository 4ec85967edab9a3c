-- What a script run prints (this profile's script), over the events of a player of one thread. What a player
-- is, is left open: Kinds.antt has two.
use Rattle.std.specs.Prelude.{ℕ, ◌+◌, ◌==◌, Bool, true, false, not, ◌&&◌, nat_lt, List, [], ◌∷◌, ◌++◌, length, map, take, slice_index_or, slice_set, Option, Some, None, is_some, codes, decimal, if◌then◌else◌}
use Rattle.std.specs.List.{filter, flat_map, list_any, onto_first}
use Rattle.command_lists.specs.Lists.{outcome_of}
use Rattle.command_lists.specs.declared.collector.Taken.{Taken}
use Rattle.command_lists.specs.declared.collector.Taken.TheVariants.{Alone as AloneLine, Begun, Collected, Ended, TooLarge}
use Rattle.command_lists.specs.declared.list.CommandList.{CommandList}
use Rattle.command_lists.specs.declared.list.ListLine.{ListLine}
use Rattle.command_lists.specs.declared.list.ListLine.TheVariants.{Text, NotText}
use Rattle.command_lists.specs.declared.word.ListForm.{ListForm}
use Rattle.mpd_text.specs.Answers.Answer.{ack_line}
use Rattle.mpd_text.specs.Songs.Song.{SongData}
use Rattle.song_db.specs.Library.{same_uri, in_byte_order}
use Rattle.script_lines.specs.Lines.{LineData, ClientLine, StepLine, BadLine, script_line_of}
use Rattle.script_lines.specs.Steps.{step_of}
use Rattle.script_lines.specs.declared.limit.LimitName.{LimitName}
use Rattle.script_lines.specs.declared.limit.LimitName.TheVariants.{MaxQueue, MaxVersion, MaxId, MaxCut, History, Everyday}
use Rattle.script_lines.specs.declared.step.Step.{Step}
use Rattle.script_lines.specs.declared.step.Step.TheVariants.{Song, Limit, Gone, Scanned, Job, JobIn, Turn as TurnStep, Window}
use Rattle.script_lines.specs.declared.step.JobStep.{JobStep}
use Rattle.script_lines.specs.declared.step.JobStep.TheVariants.{Want as WantStep, Have as HaveStep, Failed as FailedStep}
use Rattle.transitions.specs.Answers.{Answer, closes}
use Rattle.player_events.specs.Outcomes.{OutcomeData}
use Rattle.status_commands.specs.Status.{notice_text}
use Rattle.mpd_command.specs.Names.{fewest}
use Rattle.mpd_command.specs.Requests.{request_of, name_in}
use Rattle.mpd_command.specs.declared.command_set.CommandSet.{CommandSet}
use Rattle.mpd_command.specs.declared.request.Request.{Request}
use Rattle.mpd_command.specs.declared.request.Request.TheVariants.{Refused}
use Rattle.mpd_text.specs.declared.answers.answer.ErrorNumber.TheVariants.{Argument}
use Rattle.player_events.specs.Events.{ends_list}
use Rattle.partition.specs.Lists.{fault_text, next_after}
use Rattle.transitions.specs.declared.asked.ListPlace.TheVariants.{Alone, InList}
use Rattle.player_events.specs.declared.event.Event.{Event}
use Rattle.player_events.specs.declared.event.Event.TheVariants.{Connect, Disconnect, Line, ScanResult, Want, Have, Failed, OutputTurn}
use Rattle.transitions.specs.declared.reply.Next.{Next}
use Rattle.connected_clients.specs.declared.notices.Notice.{Notice}
use Rattle.partition.specs.declared.partition.PartitionFault.{PartitionFault}
use Rattle.partition.specs.declared.partition.PartitionFault.TheVariants.{HistoryFull, NoMemory}
use Rattle.partition.specs.declared.state.Limits.{Limits}
use Rattle.player_state.specs.Outputs.{all_off}
use Rattle.transitions.specs.Shelves.{no_store_reply}
use Rattle.daemon_script.specs.Kinds.{PlayerKind}
use Rattle.daemon_script.specs.Reports.{report_text, window_text}
use Rattle.daemon_script.specs.declared.memory.Memory.{Memory}
use Rattle.daemon_script.specs.declared.memory.Memory.TheVariants.{NoneToConnect, NoneToFoldFirst, NoneToRead, NoneToRun, NoneToFold}

-- the limits, the commands that clients may give and the songs that were collected, the command list that
-- each client has open, by its number, and the player, which is there from the first client line on
pub record ScriptData (P : Type 0) : Type 0 where
  pub limits : Limits
  pub commands : CommandSet
  pub songs : List SongData
  pub lists : List (Option CommandList)
  pub player : Option P

-- what a line makes of a script, and what it prints
pub record Shown (P : Type 0) : Type 0 where
  pub script : ScriptData P
  pub text : List ℕ

abbrev pub bad : {P : Type 0} → ScriptData P → Shown P
bad s = record { script = s; text = codes "! bad\n" }

-- a step that found no memory to be read does nothing
abbrev pub refused : {P : Type 0} → ScriptData P → Shown P
refused s = record { script = s; text = codes "! refused out of memory\n" }

abbrev pub has_uri : List ℕ → List SongData → Bool
has_uri uri songs = list_any (λ song. same_uri song.uri uri) songs

-- a song is collected, except for one whose URI was, and the one above the 100,000th
abbrev pub collects : {P : Type 0} → ScriptData P → SongData → Shown P
collects s song =
    if nat_lt (length s.songs) 100000 && not (has_uri song.uri s.songs) then record { script = record s { songs = s.songs ++ song ∷ [] }; text = [] } else bad s

-- a step that could not be read, or what it is
abbrev pub once_read : {P : Type 0} → ScriptData P → Memory → Shown P → Shown P
once_read s (NoneToRead place) shown = refused s
once_read s _ shown = shown

abbrev pub collect_line : {P : Type 0} → ScriptData P → SongData → Memory → Shown P
collect_line s song memory = once_read s memory (collects s song)

abbrev pub limits_with : Limits → LimitName → ℕ → Limits
limits_with limits MaxQueue n = record limits { max_queue = n }
limits_with limits MaxVersion n = record limits { max_version = n }
limits_with limits MaxId n = record limits { max_id = n }
limits_with limits MaxCut n = record limits { max_cut = n }
limits_with limits History n = record limits { history = n }
limits_with limits Everyday n = limits

-- the limit of the everyday profile gives clients its commands and forms, and no other changes what they have
abbrev pub commands_with : CommandSet → LimitName → CommandSet
commands_with set Everyday = record set { everyday = true }
commands_with set _ = set

-- a limit is set, before the player is there
abbrev pub lowers : {P : Type 0} → ScriptData P → LimitName → ℕ → Shown P
lowers s name n =
    if is_some s.player then bad s
    else record { script = record s { limits = limits_with s.limits name n; commands = commands_with s.commands name }; text = [] }

-- the lines of a text, each with its newline, and what is left after the last newline
abbrev pub lines_in_text : List ℕ → List (List ℕ)
lines_in_text [] = []
lines_in_text (b ∷ bs) = if b == 10 then (b ∷ []) ∷ lines_in_text bs else onto_first b (lines_in_text bs)

-- a client's number and a space, which begin each line for it
abbrev pub label : ℕ → List ℕ
label number = decimal number ++ 32 ∷ []

abbrev pub numbered : ℕ → List ℕ → List ℕ
numbered number line = label number ++ line

-- a text, each of whose lines begins with the client's number
unfoldable pub lines_for : ℕ → List ℕ → List ℕ
lines_for number text = flat_map (numbered number) (lines_in_text text)

abbrev pub closing : ℕ → Next → List ℕ
closing number next = if closes next then lines_for number (codes "closed\n") else []

abbrev pub reply_for : ℕ → Answer → List ℕ
reply_for number answer = lines_for number answer.text ++ closing number answer.next

-- the notices to others, by rising client
abbrev pub notice_lines : Notice → List ℕ
notice_lines notice = lines_for notice.client (notice_text notice.names)

abbrev pub notices_for : List Notice → List ℕ
notices_for notices = flat_map notice_lines notices

-- what an event makes clients hear: the one that it comes from first, and then others
abbrev pub told_for : ℕ → OutcomeData → List ℕ
told_for number told = reply_for number told.answer ++ notices_for told.notices

-- an event that was refused prints its line of number 52
abbrev pub fault_for : ℕ → List ℕ → PartitionFault → List ℕ
fault_for number name fault = lines_for number (ack_line 52 0 name (fault_text fault))

-- what an event found of memory: enough, none to fold the full window before it, or none to run it
pub data Found : Type 0 where
  Enough : Found
  NoneFold : Found
  NoneRun : Found

-- why an event of the script's one seat is refused, if it is: for lack of memory, to fold the window only
-- where that is full, or else for the limit that it would pass
abbrev pub fault_of : Found → Bool → Option PartitionFault → Option PartitionFault
fault_of Enough full limit = limit
fault_of NoneFold full limit = Some (if full then HistoryFull else NoMemory)
fault_of NoneRun full limit = Some NoMemory

-- a step that the player refuses is no event
abbrev pub refusal_text : PartitionFault → List ℕ
refusal_text fault = codes "! refused " ++ (fault_text fault ++ codes "\n")

-- what a client line makes of the player and of the command list that its client has open, what it prints,
-- and whether its client was there when it was run
pub record LineRun (P : Type 0) : Type 0 where
  pub player : P
  pub list : Option CommandList
  pub text : List ℕ
  pub connected : Bool

abbrev pub after_text : {P : Type 0} → List ℕ → LineRun P → LineRun P
after_text text ran = record ran { text = text ++ ran.text }

-- what the connect of a line found of memory
abbrev pub found_first : Memory → Found
found_first NoneToConnect = NoneRun
found_first NoneToFoldFirst = NoneFold
found_first _ = Enough

-- what the event of a line or step found of memory
abbrev pub found_then : Memory → Found
found_then (NoneToRun place) = NoneRun
found_then (NoneToFold place) = NoneFold
found_then _ = Enough

-- what a command list makes of the player, what its commands made clients hear, and what follows their
-- answers
pub record ListRun (P : Type 0) : Type 0 where
  pub player : P
  pub tolds : List OutcomeData
  pub ending : List ℕ

-- what a line of a list asks for, where clients may give these commands
abbrev pub request_in : CommandSet → ListLine → Request
request_in set (Text line) = request_of line set
request_in set NotText = Refused (record { number = Argument; command = None; text = codes "line is not UTF-8" })

-- the lines of a list are read before its first command is run: those that there was memory to read
abbrev pub read_of : Memory → List Request → List Request
read_of (NoneToRead place) requests = take place requests
read_of _ requests = requests

-- what follows the answers where all commands that were read succeed, of a list of so many commands
abbrev pub end_of : Memory → ℕ → List ℕ
end_of (NoneToRead place) count = if nat_lt place count then ack_line 52 place [] (fault_text NoMemory) else codes "OK\n"
end_of _ count = codes "OK\n"

-- what the command at a place of a list found of memory
abbrev pub found_at : Memory → ℕ → Found
found_at (NoneToRun other) place = if other == place then NoneRun else Enough
found_at (NoneToFold other) place = if other == place then NoneFold else Enough
found_at _ place = Enough

-- a refusal ends a list with its own text
abbrev pub closed_line : Next → List ℕ
closed_line next = if closes next then codes "closed\n" else []

-- what follows the answers of a list that ran: that its last answer closed the client, nothing where a
-- refusal ended it, and `end` where all succeeded
abbrev pub ending_of : List ℕ → List OutcomeData → List ℕ
ending_of end tolds = if closes (next_after tolds) then codes "closed\n" else (if list_any ends_list tolds then [] else end)

-- a command that was run, and the rest of its list, which is run unless this ended it
abbrev pub list_goes : {P : Type 0} → P → OutcomeData → ListRun P → ListRun P
list_goes after told rest =
    if ends_list told then record { player = after; tolds = told ∷ []; ending = closed_line told.answer.next }
    else record rest { tolds = told ∷ rest.tolds }

-- a command that is refused ends its list
abbrev pub list_stop : {P : Type 0} → P → ℕ → Request → PartitionFault → ListRun P
list_stop left place request fault = record { player = left; tolds = []; ending = ack_line 52 place (name_in request) (fault_text fault) }

-- the whole answer of a list
abbrev pub list_answer : {P : Type 0} → ListRun P → List ℕ
list_answer ran = flat_map (λ t. t.answer.text) ran.tolds ++ ran.ending

-- those of some notices that are to one client
unfoldable pub notices_to : ℕ → List Notice → List ℕ
notices_to number notices = notices_for (filter (λ notice. notice.client == number) notices)

-- the numbers of a script's clients
abbrev pub client_numbers : List ℕ
client_numbers = 1 ∷ 2 ∷ 3 ∷ 4 ∷ 5 ∷ 6 ∷ 7 ∷ 8 ∷ 9 ∷ []

-- the notices of a list's commands, by rising client
unfoldable pub notices_by_number : List OutcomeData → List ℕ
notices_by_number tolds = flat_map (λ number. notices_to number (flat_map (λ t. t.notices) tolds)) client_numbers

-- the command list that a client has open, if it has one
abbrev pub list_of : ℕ → List (Option CommandList) → Option CommandList
list_of number lists = slice_index_or lists number None

abbrev pub with_list : ℕ → Option CommandList → List (Option CommandList) → List (Option CommandList)
with_list number list lists = slice_set lists number list

-- a request in no list; the shelf answers to it when it is run
abbrev pub alone_line : ℕ → Request → Event
alone_line number request = Line number Alone request no_store_reply

-- the scan that runs ends with all songs that were collected
abbrev pub scan_result : {P : Type 0} → ScriptData P → Event
scan_result s = ScanResult (Some (in_byte_order s.songs)) 0

-- the event of a step of the decoder in the partition of a number; no output's feeder owes frames
abbrev pub job_event : ℕ → JobStep → Event
job_event index WantStep = Want index all_off
job_event index (HaveStep number frames) = Have index number frames
job_event index (FailedStep number of_partner) = Failed index number of_partner

module _ {P : Type 0} (kind : PlayerKind P) where
  -- why an event is refused, if it is, by what it found of memory
  abbrev pub refusal : P → Event → Found → Option PartitionFault
  refusal player event found = fault_of found (kind.is_full player) (kind.limit player event)

  abbrev pub sent_off : ScriptData P → P → ℕ → Option PartitionFault → Shown P
  sent_off s player number (Some fault) = record { script = record s { player = Some (kind.left player fault) }; text = refusal_text fault }
  sent_off s player number None =
      record {
        script = record s { player = Some (kind.after player (Disconnect number)); lists = with_list number None s.lists };
        text = notices_for (kind.told player (Disconnect number)).notices;
      }

  -- a client goes, once the player is there, and its open list with it; one that is not there changes nothing
  abbrev pub sends_off : ScriptData P → Option P → ℕ → Found → Shown P
  sends_off s None number found = bad s
  sends_off s (Some player) number found = sent_off s player number (refusal player (Disconnect number) found)

  abbrev pub applied : ScriptData P → P → Event → Option PartitionFault → Shown P
  applied s player event (Some fault) = record { script = record s { player = Some (kind.left player fault) }; text = refusal_text fault }
  applied s player event None =
      record {
        script = record s { player = Some (kind.after player event) };
        text = report_text (kind.told player event).report ++ notices_for (kind.told player event).notices;
      }

  -- a step that is one event, once the player is there: what the event tells, and then the notices to clients
  abbrev pub applies : ScriptData P → Option P → Event → Found → Shown P
  applies s None event found = bad s
  applies s (Some player) event found = applied s player event (refusal player event found)

  abbrev pub gone_line : ScriptData P → ℕ → Memory → Shown P
  gone_line s number memory = once_read s memory (sends_off s s.player number (found_then memory))

  abbrev pub event_line : ScriptData P → Event → Memory → Shown P
  event_line s event memory = once_read s memory (applies s s.player event (found_then memory))

  -- a step of the decoder in the partition of a name, once the player is there: one that no partition has is bad
  abbrev pub applies_at : ScriptData P → Option ℕ → JobStep → Found → Shown P
  applies_at s None step found = bad s
  applies_at s (Some index) step found = applies s s.player (job_event index step) found

  abbrev pub applies_in : ScriptData P → Option P → List ℕ → JobStep → Found → Shown P
  applies_in s None name step found = bad s
  applies_in s (Some player) name step found = applies_at s (kind.index_named name player) step found

  abbrev pub named_line : ScriptData P → List ℕ → JobStep → Memory → Shown P
  named_line s name step memory = once_read s memory (applies_in s s.player name step (found_then memory))

  -- what is told of the history, once the player is there
  abbrev pub shows_window : ScriptData P → Option P → Shown P
  shows_window s None = bad s
  shows_window s (Some player) = record { script = s; text = window_text (kind.window player) (kind.own player) }

  -- a step, by what its event found of memory if it is one
  abbrev pub shown_step : ScriptData P → Option Step → Found → Shown P
  shown_step s None found = bad s
  shown_step s (Some (Song song)) found = collects s song
  shown_step s (Some (Limit name n)) found = lowers s name n
  shown_step s (Some (Gone number)) found = sends_off s s.player number found
  shown_step s (Some Scanned) found = applies s s.player (scan_result s) found
  shown_step s (Some (Job step)) found = applies s s.player (job_event 0 step) found
  shown_step s (Some (JobIn name step)) found = applies_in s s.player name step found
  shown_step s (Some (TurnStep written discarded failed)) found = applies s s.player (OutputTurn 0 written discarded failed) found
  shown_step s (Some Window) found = shows_window s s.player

  abbrev pub step_line : ScriptData P → List ℕ → Memory → Shown P
  step_line s rest memory = once_read s memory (shown_step s (step_of s.commands.everyday rest) (found_then memory))

  abbrev pub request_run : P → ℕ → Request → Option PartitionFault → LineRun P
  request_run player number request (Some fault) =
      record { player = kind.left player fault; list = None; text = fault_for number (name_in request) fault; connected = true }
  request_run player number request None =
      record {
        player = kind.after player (alone_line number request);
        list = None;
        text = told_for number (kind.told player (alone_line number request));
        connected = true;
      }

  -- a request in no list, by what it found of memory
  abbrev pub asked_run : P → ℕ → Request → Found → LineRun P
  asked_run player number request found = request_run player number request (refusal player (alone_line number request) found)

  -- a line in no list, where clients may give these commands
  abbrev pub alone_run : CommandSet → P → ℕ → List ℕ → Memory → LineRun P
  alone_run set player number line (NoneToRead place) = record { player = player; list = None; text = fault_for number [] NoMemory; connected = true }
  alone_run set player number line memory = asked_run player number (request_of line set) (found_then memory)

  -- the requests of a list from this place on, one event after the other, up to the first that ends the list
  -- or finds no memory
  abbrev pub list_step : P → ℕ → Request → Option PartitionFault → P → OutcomeData → ListRun P → ListRun P
  list_step player place request (Some fault) after told rest = list_stop (kind.left player fault) place request fault
  list_step player place request None after told rest = list_goes after told rest

  unfoldable pub list_run : P → ℕ → ListForm → ℕ → List Request → (ℕ → Found) → List ℕ → ListRun P
  list_run player number form place [] found end = record { player = player; tolds = []; ending = end }
  list_run player number form place (request ∷ requests) found end =
      let event = Line number (InList form place) request no_store_reply in
      list_step player place request (refusal player event (found place)) (kind.after player event) (kind.told player event)
      (list_run (kind.after player event) number form (place + 1) requests found end)

  -- a list that has ended is run under other clients' eyes: first comes its whole answer, and then the
  -- notices to others
  abbrev pub commands_run : CommandSet → P → ℕ → CommandList → Memory → LineRun P
  commands_run set player number commands memory =
      let ran = list_run player number commands.form 0 (read_of memory (map (request_in set) commands.lines)) (found_at memory) (end_of memory (length commands.lines)) in
      record { player = ran.player; list = None; text = lines_for number (list_answer ran) ++ notices_by_number ran.tolds; connected = true }

  -- a line that is collected prints nothing
  abbrev pub collected_run : P → Option CommandList → Option CommandList → ℕ → Memory → LineRun P
  collected_run player list next number (NoneToRead place) = record { player = player; list = list; text = fault_for number [] NoMemory; connected = true }
  collected_run player list next number _ = record { player = player; list = next; text = []; connected = true }

  -- a list that is too large closes its client, which is a disconnect
  abbrev pub too_large_run : P → Option CommandList → ℕ → Option PartitionFault → LineRun P
  too_large_run player list number (Some fault) = record { player = kind.left player fault; list = list; text = fault_for number [] fault; connected = true }
  too_large_run player list number None =
      record {
        player = kind.after player (Disconnect number);
        list = None;
        text = told_for number (kind.told player (Disconnect number));
        connected = true;
      }

  abbrev pub taken_run : CommandSet → P → Option CommandList → Option CommandList → ℕ → List ℕ → Memory → Taken → LineRun P
  taken_run set player list next number line memory AloneLine = alone_run set player number line memory
  taken_run set player list next number line memory Begun = record { player = player; list = next; text = []; connected = true }
  taken_run set player list next number line memory Collected = collected_run player list next number memory
  taken_run set player list next number line memory (Ended commands) = commands_run set player number commands memory
  taken_run set player list next number line memory TooLarge = too_large_run player list number (refusal player (Disconnect number) (found_then memory))

  -- the line of a client that is there, by the list that it has open
  abbrev pub line_run : CommandSet → P → Option CommandList → ℕ → List ℕ → Memory → LineRun P
  line_run set player list number line memory =
      taken_run set player list (outcome_of list (Some line)).open_list number line memory (outcome_of list (Some line)).taken

  -- the connect of a client that is not there
  abbrev pub connect_run : P → Option CommandList → ℕ → Option PartitionFault → LineRun P
  connect_run player list number (Some fault) = record { player = kind.left player fault; list = list; text = fault_for number [] fault; connected = false }
  connect_run player list number None =
      record { player = kind.after player (Connect number); list = list; text = told_for number (kind.told player (Connect number)); connected = true }

  -- a line that follows its client's connect; where that was refused it is not run
  abbrev pub line_after : CommandSet → LineRun P → ℕ → List ℕ → Memory → LineRun P
  line_after set ran number line memory = if ran.connected then after_text ran.text (line_run set ran.player ran.list number line memory) else ran

  unfoldable pub client_run : CommandSet → P → Option CommandList → ℕ → List ℕ → Memory → LineRun P
  client_run set player list number line memory =
      if kind.is_there number player then line_run set player list number line memory
      else line_after set (connect_run player list number (refusal player (Connect number) (found_first memory))) number line memory

  -- a client line, which opens the player over the songs so far if it is the first. Where the connect of a
  -- first line is refused, no player is there
  abbrev pub shown_client : ScriptData P → Option P → ℕ → List ℕ → Memory → Shown P
  shown_client s (Some player) number line memory =
      let ran = client_run s.commands player (list_of number s.lists) number line memory in
      record { script = record s { player = Some ran.player; lists = with_list number ran.list s.lists }; text = ran.text }
  shown_client s None number line memory =
      let ran = client_run s.commands (kind.opens s.limits (in_byte_order s.songs)) (list_of number s.lists) number line memory in
      record { script = if ran.connected then record s { player = Some ran.player; lists = with_list number ran.list s.lists } else s; text = ran.text }

  abbrev pub shown_kind : ScriptData P → LineData → Memory → Shown P
  shown_kind s (ClientLine number line) memory = shown_client s s.player number line memory
  shown_kind s (StepLine rest) memory = step_line s rest memory
  shown_kind s BadLine memory = bad s

  -- what a line prints that found so much memory. A line that is not UTF-8 is bad
  unfoldable pub shown_of : ScriptData P → Option (List ℕ) → Memory → Shown P
  shown_of s None memory = bad s
  shown_of s (Some line) memory = shown_kind s (script_line_of line) memory

-- no client has a list open; the numbers of clients are below 10
abbrev pub no_lists : List (Option CommandList)
no_lists = None ∷ None ∷ None ∷ None ∷ None ∷ None ∷ None ∷ None ∷ None ∷ None ∷ []

-- a script to which no line came
abbrev pub opening_script : {P : Type 0} → ScriptData P
opening_script = record { limits = record { max_queue = 16384; max_version = 2147483647; max_id = 2147483647; max_cut = 9223372036854775807; history = 4096 }; commands = fewest; songs = []; lists = no_lists; player = None }
