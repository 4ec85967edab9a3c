-- The commands that ask how the player is, and what changed (MPD protocol reference, Querying MPD's status).
use Rattle.std.specs.Prelude.{ℕ, Bool, true, false, ◌==◌, List, [], ◌++◌, Option, Some, None, is_some, option_map, length, if◌then◌else◌, codes, decimal}
use Rattle.idle_notes.specs.declared.sets.Subsystems.{Subsystems}
use Rattle.idle_notes.specs.Names.{changed_lines}
use Rattle.idle_notes.specs.Notes.{waits, notice_of}
use Rattle.mpd_command.specs.declared.command.Command.{Command}
use Rattle.mpd_command.specs.declared.command.Command.TheVariants as command
use Rattle.mpd_text.specs.declared.answers.answer.ErrorNumber.TheVariants.{Argument}
use Rattle.mpd_text.specs.declared.songs.song.TagName.{TagName}
use Rattle.song_db.specs.Lines.{duration_text, millis, seconds_rounded}
use Rattle.song_queue.specs.declared.entry.Entry.{Entry}
use Rattle.song_queue.specs.State.{QueueState, queue_of, position_of}
use Rattle.play_order.specs.declared.modes.Modes.{Modes}
use Rattle.play_order.specs.declared.modes.Single.{Single}
use Rattle.play_order.specs.declared.modes.Single.TheVariants as single_mode
use Rattle.play_order.specs.declared.modes.Consume.{Consume}
use Rattle.play_order.specs.declared.modes.Consume.TheVariants as consume_mode
use Rattle.player_core.specs.declared.state.Playback.{Playback}
use Rattle.player_core.specs.declared.state.Playback.TheVariants.{Stop, Play, Pause}
use Rattle.player_core.specs.Player.{is_stopped}
use Rattle.player_core.specs.Steps.{current_entry, peek}
use Rattle.transitions.specs.Answers.{ResponseData, refuses_command, disconnects, stays, succeeds, tells}
use Rattle.transitions.specs.CommandResults.{only, shows}
use Rattle.queue_commands.specs.Playback.{clear_error, current_song}
use Rattle.transitions.specs.declared.asked.Asked.{Asked}
use Rattle.transitions.specs.declared.reply.Move.TheVariants.{Wait, Learn, Resume, Show}
use Rattle.transitions.specs.declared.reply.Next.TheVariants.{Waits}
use Rattle.transitions.specs.declared.asked.ListPlace.{ListPlace}
use Rattle.transitions.specs.declared.asked.ListPlace.TheVariants.{Alone, InList}
use Rattle.player_state.specs.declared.state.Client.{Client}
use Rattle.player_state.specs.declared.state.Part.{Part}
use Rattle.player_state.specs.declared.state.Library.{Library}
use Rattle.transitions.specs.Transitions.{CommandResult}
use Rattle.player_state.specs.Scans.{running}
use Rattle.status_commands.specs.Connection.{choice_of}
use Rattle.status_commands.specs.Stats.{stats}
use Rattle.mpd_text.specs.Answers.Answer.{pair_line}
use Rattle.mpd_command.specs.declared.status.StatusCommand.{StatusCommand}
use Rattle.mpd_command.specs.declared.status.StatusCommand.TheVariants as status_command

-- what a client asks that changes nothing but the client itself: to wait for these, to wait no more, or to be
-- shown what this makes of its tags
pub data Wish : Type 0 where
  ToWait : Subsystems → Wish
  ToGoOn : Wish
  ToShow : (List TagName → List TagName) → Wish

-- what a command asks for by which a client waits, waits no more, or chooses its tags
abbrev pub wish_of : Command → Option Wish
wish_of (command.Status (status_command.Idle named)) = Some (ToWait named)
wish_of (command.Status status_command.NoIdle) = Some ToGoOn
wish_of (command.Connection it) = option_map ToShow (choice_of it)
wish_of _ = None

abbrev pub notice_text : Subsystems → List ℕ
notice_text names = changed_lines names ++ codes "OK\n"

-- a client that asks for what changed already is told at once; else it waits
abbrev pub idles : Subsystems → Option Subsystems → ResponseData
idles named None = record { answer = record { text = codes ""; next = Waits; refused = false }; move = Wait named }
idles named (Some names) = record { answer = tells (notice_text names); move = Learn }

-- a client that waits no more is answered OK; one that did not wait is not answered
abbrev pub resumes : Client → ResponseData
resumes client = if is_some client.pending.waiting then record { answer = tells (codes "OK\n"); move = Resume } else stays (tells (codes ""))

-- how a client waits is no matter of a list
abbrev pub alone : Asked → ListPlace → ResponseData → ResponseData
alone asked Alone response = response
alone asked (InList form place) response = stays (refuses_command asked Argument (codes "not allowed in a list"))

-- the client is shown these tags from now on
abbrev pub shown_next : Asked → List TagName → ResponseData
shown_next asked tags = record { answer = succeeds asked.list_place (codes ""); move = Show tags }

-- what a client is answered that asks for this, and what it does; its tags it may choose in a list too
abbrev pub wished : Asked → Client → Wish → ResponseData
wished asked client (ToWait named) = alone asked asked.list_place (idles named (notice_of (waits named client.pending)))
wished asked client ToGoOn = alone asked asked.list_place (resumes client)
wished asked client (ToShow choice) = shown_next asked (choice asked.tags)

abbrev pub digit : Bool → ℕ
digit true = 1
digit false = 0

abbrev pub single_text : Single → List ℕ
single_text single_mode.Off = codes "0"
single_text single_mode.On = codes "1"
single_text single_mode.Oneshot = codes "oneshot"

abbrev pub consume_text : Consume → List ℕ
consume_text consume_mode.Off = codes "0"
consume_text consume_mode.On = codes "1"
consume_text consume_mode.Oneshot = codes "oneshot"

abbrev pub state_text : Playback → List ℕ
state_text Stop = codes "stop"
state_text Play = codes "play"
state_text Pause = codes "pause"

-- what the player is set to
unfoldable pub mode_lines : ℕ → Modes → List ℕ
mode_lines volume modes =
    pair_line (codes "volume") (decimal volume) ++ (pair_line (codes "repeat") (decimal (digit modes.repeat))
    ++ (pair_line (codes "random") (decimal (digit modes.random)) ++ (pair_line (codes "single") (single_text modes.single)
    ++ pair_line (codes "consume") (consume_text modes.consume))))

-- its name, its queue, and whether it plays
unfoldable pub queue_lines : List ℕ → ℕ → ℕ → Playback → List ℕ
queue_lines name version length playback =
    pair_line (codes "partition") name ++ (pair_line (codes "playlist") (decimal version)
    ++ (pair_line (codes "playlistlength") (decimal length) ++ pair_line (codes "state") (state_text playback)))

-- the same, of what one player owns
abbrev pub queue_lines_of : Part → List ℕ
queue_lines_of part = queue_lines part.name part.queue.version (length (queue_of part.queue)) part.player.playback

-- a song that is there, by its position and its id
unfoldable pub song_position_lines : ℕ → ℕ → List ℕ
song_position_lines position id = pair_line (codes "song") (decimal position) ++ pair_line (codes "songid") (decimal id)

unfoldable pub next_position_lines : ℕ → ℕ → List ℕ
next_position_lines position id = pair_line (codes "nextsong") (decimal position) ++ pair_line (codes "nextsongid") (decimal id)

abbrev pub song_lines_at : Option ℕ → ℕ → List ℕ
song_lines_at None id = []
song_lines_at (Some position) id = song_position_lines position id

abbrev pub next_lines_at : Option ℕ → ℕ → List ℕ
next_lines_at None id = []
next_lines_at (Some position) id = next_position_lines position id

-- the current song
abbrev pub current_lines : QueueState → Option ℕ → List ℕ
current_lines queue None = []
current_lines queue (Some id) = song_lines_at (position_of queue id) id

-- the song that its natural end would start
abbrev pub next_lines : QueueState → Option Entry → List ℕ
next_lines queue None = []
next_lines queue (Some entry) = next_lines_at (position_of queue entry.id) entry.id

-- the same, of what one player owns
abbrev pub next_lines_of : Part → List ℕ
next_lines_of part = next_lines part.queue (peek part.player (queue_of part.queue))

abbrev pub audio_text : ℕ → List ℕ
audio_text rate = decimal rate ++ codes ":16:2"

-- how far a song is, how long it is, and what its frames are
unfoldable pub elapsed_line : ℕ → ℕ → List ℕ
elapsed_line rate offset = pair_line (codes "elapsed") (duration_text (millis rate offset))

unfoldable pub duration_line : ℕ → ℕ → List ℕ
duration_line rate frames = pair_line (codes "duration") (duration_text (millis rate frames))

unfoldable pub audio_line : ℕ → List ℕ
audio_line rate = pair_line (codes "audio") (audio_text rate)

abbrev pub duration_of : ℕ → Option Entry → List ℕ
duration_of rate None = []
duration_of rate (Some entry) = duration_line rate entry.song.frames

-- how long the current song is, if there is one
abbrev pub current_duration : ℕ → Part → List ℕ
current_duration rate part = duration_of rate (current_entry part.player (queue_of part.queue))

-- how long so many frames are in whole seconds, a half up
abbrev pub whole_seconds : ℕ → ℕ → ℕ
whole_seconds rate frames = seconds_rounded (millis rate frames)

-- how far a song is and how long it is
unfoldable pub time_line : ℕ → ℕ → ℕ → List ℕ
time_line rate offset frames = pair_line (codes "time") (decimal (whole_seconds rate offset) ++ codes ":" ++ decimal (whole_seconds rate frames))

abbrev pub time_of : ℕ → ℕ → Option Entry → List ℕ
time_of rate offset None = []
time_of rate offset (Some entry) = time_line rate offset entry.song.frames

-- in the everyday profile, how far the current song is and how long it is, if there is one
abbrev pub current_time : ℕ → Part → Bool → List ℕ
current_time rate part false = []
current_time rate part true = time_of rate part.player.offset (current_entry part.player (queue_of part.queue))

-- these are shown where the player does not stand still
abbrev pub progress_lines : ℕ → Part → Bool → List ℕ
progress_lines rate part everyday =
    if is_stopped part.player.playback then []
    else current_time rate part everyday
    ++ (elapsed_line rate part.player.offset ++ (current_duration rate part ++ audio_line rate))

-- why the player stopped, where that was an error
abbrev pub error_line : Option (List ℕ) → List ℕ
error_line None = []
error_line (Some text) = pair_line (codes "error") text

-- the seconds of a fade, where there are any
abbrev pub fade_line : ℕ → List ℕ
fade_line seconds = if seconds == 0 then [] else pair_line (codes "xfade") (decimal seconds)

-- the number of the scan that runs is shown while one does
abbrev pub scan_line : Option ℕ → List ℕ
scan_line None = []
scan_line (Some number) = pair_line (codes "updating_db") (decimal number)

-- the seconds of fades, the scan that runs, and why the player stopped, each where it is there
abbrev pub last_lines : Part → Library → List ℕ
last_lines part library = fade_line part.player.crossfade ++ (scan_line (running library.scan) ++ error_line part.player.error)

abbrev pub status : Asked → Part → Library → Bool → CommandResult
status asked part library everyday =
    shows asked (mode_lines part.volume part.player.modes ++ (queue_lines_of part
    ++ (current_lines part.queue part.player.current ++ (next_lines_of part
    ++ (progress_lines library.rate part everyday ++ last_lines part library)))))

-- what each command makes of the player; those by which a client waits are wishes and make nothing of it
unfoldable pub result_of : Asked → Part → Library → StatusCommand → CommandResult
result_of asked part library status_command.ClearError = clear_error asked
result_of asked part library status_command.CurrentSong = current_song asked part library
result_of asked part library (status_command.Idle named) = only disconnects
result_of asked part library status_command.NoIdle = only disconnects
result_of asked part library (status_command.Stats uptime) = stats asked part library uptime
result_of asked part library (status_command.Status everyday) = status asked part library everyday
