-- The lines of a state, said to the player of one thread (MPD protocol reference, Command reference).
use Rattle.std.specs.Prelude.{ℕ, ◌≡◌, ◌≤◌, ◌+◌, Bool, true, false, List, [], ◌∷◌, length, Option, Some, None, codes, is_some, if◌then◌else◌}
use Rattle.command_arguments.specs.Forms.{fade_of, song_mode_of, switch_of, uri_of, volume_of}
use Rattle.command_arguments.specs.declared.forms.Position.TheVariants.{At}
use Rattle.connected_clients.specs.Clients.{client_of}
use Rattle.kept_state.specs.Lines.{Line, state_steps}
use Rattle.kept_state.specs.Lines.{Line as lines}
use Rattle.kept_state.specs.Reading.{Player, after_line, given_back, opened, read_line}
use Rattle.kept_state.specs.declared.kept.Kept.{Kept}
use Rattle.kept_state.specs.declared.kept.KeptOptions.{KeptOptions}
use Rattle.kept_state.specs.declared.kept.KeptPlayback.{KeptPlayback}
use Rattle.kept_state.specs.declared.kept.KeptPlayback.TheVariants as kept_playback
use Rattle.mpd_command.specs.declared.command.Command.{Command}
use Rattle.mpd_command.specs.declared.command.Command.TheVariants as command
use Rattle.mpd_command.specs.declared.name.Name.{Name}
use Rattle.mpd_command.specs.declared.options.OptionCommand.TheVariants as options
use Rattle.mpd_command.specs.declared.outputs.OutputCommand.{OutputCommand}
use Rattle.mpd_command.specs.declared.outputs.OutputCommand.TheVariants as outputs
use Rattle.mpd_command.specs.declared.playback.PlaybackCommand.TheVariants as playback
use Rattle.mpd_command.specs.declared.queue.QueueCommand.TheVariants as queue
use Rattle.mpd_command.specs.declared.request.Request.{Request}
use Rattle.mpd_command.specs.declared.request.Request.TheVariants.{Run}
use Rattle.mpd_text.specs.Answers.Millis.{millis, millis_of}
use Rattle.mpd_text.specs.declared.answers.ranges.Range.TheVariants.{Lone}
use Rattle.partition_table.specs.Parts.{part_at}
use Rattle.partition.specs.History.{AreTold, replay}
use Rattle.partition.specs.Image.{Image, opening}
use Rattle.partition.specs.Step.{next_image, told}
use Rattle.partition.specs.declared.state.Setup.{Setup}
use Rattle.player_events.specs.declared.event.Event.{Event}
use Rattle.player_events.specs.declared.event.Event.TheVariants.{Connect, Line as Says}
use Rattle.player_events.specs.declared.event.LogEntry.{LogEntry}
use Rattle.player_state.specs.declared.state.Client.{Client}
use Rattle.player_state.specs.declared.state.Library.{Library}
use Rattle.player_state.specs.declared.state.Part.{Part}
use Rattle.queue_commands.specs.Queue.{CanAdd}
use Rattle.song_db.specs.Library.{song_of}
use Rattle.transitions.specs.Shelves.{no_store_reply}
use Rattle.transitions.specs.declared.asked.ListPlace.TheVariants.{Alone}
use Rattle.state_laws.specs.Having.{Has}

abbrev pub switch_to : ℕ → Bool → OutputCommand
switch_to number true = outputs.EnableOutput number
switch_to number false = outputs.DisableOutput number

-- a word can be read, and the command is made of what it is read as
abbrev pub IsMadeOf : {A : Type 0} → Option A → (A → Command) → Command → Type 0
IsMadeOf {A} read made it = (a : A) × (read ≡ Some a) × (it ≡ made a)

-- a line asks for this command, since its texts and numbers can be read
abbrev pub Asks : Line → Command → Type 0
Asks (lines.Volume text) it = IsMadeOf (volume_of text) (λ volume. command.Options (options.SetVol volume)) it
Asks (lines.Repeat text) it = IsMadeOf (switch_of text) (λ on. command.Options (options.Repeat on)) it
Asks (lines.Random text) it = IsMadeOf (switch_of text) (λ on. command.Options (options.Random on)) it
Asks (lines.Single text) it = IsMadeOf (song_mode_of text) (λ mode. command.Options (options.Single mode)) it
Asks (lines.Consume text) it = IsMadeOf (song_mode_of text) (λ mode. command.Options (options.Consume mode)) it
Asks (lines.Crossfade text) it = IsMadeOf (fade_of text) (λ seconds. command.Options (options.Crossfade seconds)) it
Asks (lines.Switch output) it =
    (output.number ≤ 4294967295) × (it ≡ command.Outputs (switch_to output.number output.is_on))
Asks (lines.Put uri) it =
    (uri_of uri ≡ Some (record { 0 = uri }))
    × (it ≡ command.Queue (queue.AddId (record { 0 = uri }) (Some (At 0))))
Asks (lines.Prioritize priority) it = (priority ≤ 255) × (it ≡ command.Queue (queue.Prio priority (Lone 0 ∷ [])))
Asks (lines.Seek text) it =
    (time : ℕ) × (millis_of text ≡ millis time)
    × (it ≡ command.Playback (playback.Seek 0 (record { 0 = time })))
Asks lines.Play it = it ≡ command.Playback (playback.Play (Some 0))
Asks lines.Pause it = it ≡ command.Playback (playback.Pause (Some true))
Asks lines.Stop it = it ≡ command.Playback playback.Stop

-- lines are read so: each that asks for a command is this command's request
abbrev pub ReadsLines : (Line → Request) → Type 0
ReadsLines asked = (line : Line) (it : Command) → Asks line it → (name : Name) × (asked line ≡ Run name it)

abbrev pub CanAsk : Line → Type 0
CanAsk line = (it : Command) × Asks line it

abbrev pub AllAsk : List Line → Type 0
AllAsk [] = Unit {0}
AllAsk (line ∷ more) = CanAsk line × AllAsk more

-- each line of some steps asks for a command
abbrev pub EachAsks : List (List Line) → Type 0
EachAsks [] = Unit {0}
EachAsks (step ∷ steps) = AllAsk step × EachAsks steps

-- the event by which a client asks for this
abbrev pub asking : ℕ → Request → Event
asking number request = Says number Alone request no_store_reply

-- whether the player of one thread refuses it
abbrev pub is_refused : Image → Event → Bool
is_refused i event = (told i event).answer.refused

-- a daemon to which a client says lines that are told together: the first that is refused ends them
abbrev pub after_step : ℕ → ℕ → (Line → Request) → List Line → Image → Image
after_step seat number asked [] i = i
after_step seat number asked (line ∷ more) i =
    let event = asking number (asked line) in
    if is_refused i event then next_image seat i event
    else after_step seat number asked more (next_image seat i event)

-- all lines of a state
abbrev pub after_steps : ℕ → ℕ → (Line → Request) → List (List Line) → Image → Image
after_steps seat number asked [] i = i
after_steps seat number asked (step ∷ steps) i =
    after_steps seat number asked steps (after_step seat number asked step i)

-- how many songs lines put into the queue
abbrev pub puts : Line → ℕ
puts (lines.Put uri) = 1
puts _ = 0

abbrev pub songs_in : List Line → ℕ
songs_in [] = 0
songs_in (line ∷ more) = puts line + songs_in more

abbrev pub songs_of : List (List Line) → ℕ
songs_of [] = 0
songs_of (step ∷ steps) = songs_in step + songs_of steps

-- whether there is a song
abbrev pub is_song : Library → List ℕ → Bool
is_song library uri = is_some (song_of library.songs uri)

-- A client is there that does not wait, and its partition has what a reading says; so many songs find room in its
-- queue, and each an id.
pub record PlayerHas (library : Library) (number songs : ℕ) (i : Image) (player : Player) : Type 0 where
  pub same : i.shared.library ≡ library
  pub client : Client
  pub there : client_of number i.clients ≡ Some client
  pub listens : client.pending.waiting ≡ None
  pub part : Part
  pub placed : part_at client.index i.parts ≡ Some part
  pub has : Has library.rate part player
  pub room : CanAdd part songs

-- whether a player stands still
abbrev pub stands_still : Option (ℕ × KeptPlayback) → Bool
stands_still (Some (position, kept_playback.Pause elapsed)) = true
stands_still _ = false

-- a seek leaves a paused player paused, where a reading says that the song is played: so the player must not be
-- paused
abbrev pub IsReady : Player → Line → Type 0
IsReady player (lines.Seek text) = stands_still player.song ≡ false
IsReady player _ = Unit {0}

-- what a reading is after a line; one that is refused leaves it
abbrev pub read_or_same : Player → Option Player → Player
read_or_same player read = after_line player (λ after. after) read

abbrev pub after_reading : Library → Player → Line → Player
after_reading library player line = read_or_same player (read_line (is_song library) player line)

-- A line is to the player of one thread what it is to a reading: it has what the reading says then.
abbrev pub LineIsRead : Type 0
LineIsRead =
    (seat number more : ℕ) (library : Library) (asked : Line → Request) (i : Image) (player : Player) (line : Line)
    → ReadsLines asked → CanAsk line → IsReady player line → PlayerHas library number (puts line + more) i player
    → PlayerHas library number more (next_image seat i (asking number (asked line)))
    (after_reading library player line)

-- The player of one thread, with an empty queue, that is told the lines of a state has what is kept, of the songs
-- that there are.
abbrev pub StateComesBack : Type 0
StateComesBack =
    (seat number more : ℕ) (library : Library) (asked : Line → Request) (i : Image) (kept : Kept)
    (options : KeptOptions) → ReadsLines asked → EachAsks (state_steps kept)
    → PlayerHas library number (songs_of (state_steps kept) + more) i (opened options)
    → PlayerHas library number more (after_steps seat number asked (state_steps kept) i)
    (given_back (is_song library) kept)

-- what a player that was just opened is set to
abbrev pub first_options : KeptOptions
first_options = record {
  volume = codes "100";
  repeat = codes "0";
  random = codes "0";
  single = codes "0";
  consume = codes "0";
  crossfade = codes "0";
}

-- a player that was just opened, and its first client
abbrev pub begun : ℕ → ℕ → Setup → Library → Image
begun seat number setup library = next_image seat (opening setup library) (Connect number)

-- it is known of each output of the settings whether it is on, and so many songs find room, and each an id
pub record HasRoom (setup : Setup) (songs : ℕ) : Type 0 where
  pub known : length setup.outputs.enabled ≡ length setup.outputs.here
  pub queue : songs ≤ setup.limits.max_queue
  pub ids : songs ≤ setup.limits.max_id

-- such a player has what one with an empty queue has
abbrev pub OpensEmpty : Type 0
OpensEmpty =
    (seat number songs : ℕ) (setup : Setup) (library : Library) → HasRoom setup songs
    → PlayerHas library number songs (begun seat number setup library) (opened first_options)

-- events led from a daemon to another, each told what the player of one thread tells at its position
abbrev pub LeadsTo : Image → Image → Type 0
LeadsTo i j = (entries : List LogEntry) × (j ≡ replay i entries) × AreTold i entries

-- so did lines that were said; whether one of them passes a limit, `OpenedStaysWithin` says
abbrev pub StepsHappen : Type 0
StepsHappen =
    (seat number : ℕ) (asked : Line → Request) (steps : List (List Line)) (i : Image)
    → LeadsTo i (after_steps seat number asked steps i)
