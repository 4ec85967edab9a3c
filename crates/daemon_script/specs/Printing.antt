-- What lines of a script leave and print, said of the code that runs them: `run` is what the definitions make
-- of it, by what it found of memory (`M`).
use Rattle.std.specs.Prelude.{◌≡◌, ◌++◌, ℕ, List, Option, None, is_none, unwrap_or, Result, IfOk}
use Rattle.std.specs.Global.{Vec}
use Rattle.command_lists.specs.declared.list.CommandList.{CommandList}
use Rattle.daemon_script.specs.Kinds.{Shelved, images}
use Rattle.daemon_script.specs.Pieces.{found_in}
use Rattle.daemon_script.specs.Script.{LineRun, ScriptData, Shown, alone_run, asked_run, client_run, commands_run, connect_run, ending_of, event_line, found_first, found_then, line_run, lines_for, list_of, notices_by_number, notices_to, once_read, refusal, scan_result, shown_client, shown_of, shows_window, too_large_run, with_list}
use Rattle.connected_clients.specs.declared.notices.Notice.{Notice}
use Rattle.mpd_text.specs.declared.lines.splitter.Line.{Line}
use Rattle.mpd_text.specs.Lines.Split.{view}
use Rattle.song_db.specs.Library.{in_byte_order}
use Rattle.partition.specs.Lists.{Stop, answers_of, stop_text}
use Rattle.player_events.specs.Outcomes.{OutcomeData}
use Rattle.std.specs.List.{flat_map}
use Rattle.daemon_script.specs.declared.client_lines.LineRun as code_run
use Rattle.daemon_script.specs.declared.memory.Memory.{Memory}
use Rattle.daemon_script.specs.declared.memory.Memory.TheVariants.{Ample}
use Rattle.mpd_command.specs.declared.request.Request.{Request}
use Rattle.daemon_script.specs.Contents.{no_contents}
use Rattle.mpd_command.specs.Requests.{request_of}
use Rattle.mpd_command.specs.declared.command_set.CommandSet.{CommandSet}
use Rattle.partition.specs.Image.{Image, opening}
use Rattle.partition.specs.declared.state.Setup.{Setup}
use Rattle.player_state.specs.declared.state.Library.{Library}
use Rattle.partition.specs.declared.partition.PartitionFault.{PartitionFault}
use Rattle.player_events.specs.declared.event.Event.TheVariants.{Connect, Disconnect}

-- bytes follow what was shown
abbrev pub Prints : Vec ℕ → Vec ℕ → List ℕ → Type 0
Prints old new bytes = new.items ≡ old.items ++ bytes

module _ {M P : Type 0} where
  -- a script is left as a line leaves it, and the line's text is printed
  abbrev pub Leaves : (M → Shown P) → ScriptData P → M → Type 0
  Leaves run script memory = script ≡ (run memory).script

  abbrev pub PrintsBy : (M → Shown P) → Vec ℕ → Vec ℕ → M → Type 0
  PrintsBy run old new memory = Prints old new (run memory).text

  -- a player and a client's open list are left as a client's line leaves them, and the line's text is printed
  abbrev pub LeavesPlayer : (M → LineRun P) → P → M → Type 0
  LeavesPlayer run player memory = player ≡ (run memory).player

  abbrev pub LeavesList : (M → LineRun P) → Option CommandList → M → Type 0
  LeavesList run list memory = list ≡ (run memory).list

  abbrev pub LeavesLists : (M → LineRun P) → ℕ → List (Option CommandList) → List (Option CommandList) → M → Type 0
  LeavesLists run number old new memory = new ≡ with_list number (run memory).list old

  abbrev pub PrintsRun : (M → LineRun P) → Vec ℕ → Vec ℕ → M → Type 0
  PrintsRun run old new memory = Prints old new (run memory).text

  -- the same of a call that succeeds
  abbrev pub LeavesPlayerIfOk : {E : Type 0} → (M → LineRun P) → P → Result M E → Type 0
  LeavesPlayerIfOk run player result = IfOk result (LeavesPlayer run player)

  abbrev pub PrintsIfOk : {E : Type 0} → (M → LineRun P) → Vec ℕ → Vec ℕ → Result M E → Type 0
  PrintsIfOk run old new result = IfOk result (PrintsRun run old new)

-- the line of a client that is there
abbrev pub run_line : CommandSet → Shelved Image → Option CommandList → ℕ → List ℕ → Memory → LineRun (Shelved Image)
run_line set player list number line memory = line_run images set player list number line memory

-- a command list that has ended
abbrev pub run_list : CommandSet → Shelved Image → ℕ → CommandList → Memory → LineRun (Shelved Image)
run_list set player number commands memory = commands_run images set player number commands memory

-- a line of a script
abbrev pub run_shown : ScriptData (Shelved Image) → Line → Memory → Shown (Shelved Image)
run_shown script line memory = shown_of images script (view line) memory

-- the step that ends the scan
abbrev pub run_scanned : ScriptData (Shelved Image) → Memory → Shown (Shelved Image)
run_scanned script memory = event_line images script (scan_result script) memory

-- the step that shows what the history holds
abbrev pub run_window : ScriptData (Shelved Image) → Shown (Shelved Image)
run_window script = shows_window images script script.player

-- a client's line in a script that has no player yet
abbrev pub run_first : ScriptData (Shelved Image) → ℕ → List ℕ → Memory → Shown (Shelved Image)
run_first script number line memory = shown_client images script None number line memory

-- a client's line in a script
abbrev pub run_client : ScriptData (Shelved Image) → ℕ → List ℕ → Memory → Shown (Shelved Image)
run_client script number line memory = shown_client images script script.player number line memory

-- the line of a client that is there, in no list
abbrev pub run_alone : CommandSet → Shelved Image → ℕ → List ℕ → Memory → LineRun (Shelved Image)
run_alone set player number line memory = alone_run images set player number line memory

-- a client's line, by what the code says of its run
abbrev pub run_of : CommandSet → Shelved Image → Option CommandList → ℕ → List ℕ → code_run.LineRun → LineRun (Shelved Image)
run_of set player list number line ran = client_run images set player list number line ran.memory

-- the same over the lists of all clients
abbrev pub run_in : CommandSet → Shelved Image → List (Option CommandList) → ℕ → List ℕ → code_run.LineRun → LineRun (Shelved Image)
run_in set player lists number line ran = run_of set player (list_of number lists) number line ran

-- the lists of all clients are left as a client's line leaves its own
abbrev pub LeavesAllLists : CommandSet → Shelved Image → ℕ → List ℕ → List (Option CommandList) → List (Option CommandList) → code_run.LineRun → Type 0
LeavesAllLists set player number line old new ran = LeavesLists (run_in set player old number line) number old new ran

-- the connect of a client that is not there, by what it found of memory where it was refused
abbrev pub connecting : Shelved Image → ℕ → Option Memory → LineRun (Shelved Image)
connecting player number refused =
    connect_run images player None number (refusal images player (Connect number) (found_first (unwrap_or refused Ample)))

-- a connect was not refused just where the client is connected by it
abbrev pub SaysIfConnected : Shelved Image → ℕ → Option Memory → Type 0
SaysIfConnected player number refused = is_none refused ≡ (connecting player number refused).connected

-- a client is closed for a list that is too large
abbrev pub closing_list : Shelved Image → Option CommandList → ℕ → Memory → LineRun (Shelved Image)
closing_list player list number memory = too_large_run images player list number (refusal images player (Disconnect number) (found_then memory))

-- a request in no list, by why it was refused, if it was
abbrev pub asking : Shelved Image → ℕ → Request → Option PartitionFault → LineRun (Shelved Image)
asking player number request refused = asked_run images player number request (found_in refused)

-- the whole answer of a list that ran
abbrev pub whole_answer_of : List ℕ → List OutcomeData → List ℕ
whole_answer_of end tolds = answers_of tolds ++ ending_of end tolds

-- what a list prints that ran, and one that stopped: its answer, and then the notices to others
abbrev pub list_lines : ℕ → List ℕ → List OutcomeData → List ℕ
list_lines number end tolds = lines_for number (whole_answer_of end tolds) ++ notices_by_number tolds

abbrev pub stopped_lines : ℕ → Stop → List ℕ
stopped_lines number stop = lines_for number (stop_text stop) ++ notices_by_number stop.tolds

-- those of some notices that are to these clients, in the order of their numbers in the list
abbrev pub notices_in_turn : List Notice → List ℕ → List ℕ
notices_in_turn notices numbers = flat_map (λ number. notices_to number notices) numbers

-- the code says that a client was there when its line was run just where it was
abbrev pub WasConnected : (code_run.LineRun → LineRun (Shelved Image)) → code_run.LineRun → Type 0
WasConnected run ran = ran.connected ≡ (run ran).connected

-- what a line in no list found of memory, by why its request was refused, if it was
abbrev pub IsFoundByRefused : Memory → Option PartitionFault → Type 0
IsFoundByRefused memory refused = (set : CommandSet) (player : Shelved Image) (number : ℕ) (line : List ℕ)
    → alone_run images set player number line memory ≡ asked_run images player number (request_of line set) (found_in refused)

-- there was memory to read a step
abbrev pub IsRead : Memory → Type 0
IsRead memory = (script : ScriptData (Shelved Image)) (shown : Shown (Shelved Image)) → once_read script memory shown ≡ shown

-- a player to which nothing happened, with an empty shelf
abbrev pub opened_player : Setup → Library → Shelved Image
opened_player setup library = record { player = opening setup library; shelf = no_contents; window = 0; most = setup.limits.history }

-- a player is opened over the songs that a script has collected, with its limits
abbrev pub IsOpenedOver : ScriptData (Shelved Image) → Shelved Image → Type 0
IsOpenedOver script player = player ≡ images.opens script.limits (in_byte_order script.songs)
