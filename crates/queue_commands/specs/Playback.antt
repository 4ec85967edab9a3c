-- The commands that control what is played (MPD protocol reference, Controlling playback; `currentsong` and
-- `clearerror`: Querying MPD's status).
use Rattle.std.specs.Prelude.{ℕ, ◌+◌, ◌-◌, ◌*◌, ◌/◌, Bool, nat_lt, min, if◌then◌else◌, List, [], Option, Some, None, slice_get}
use Rattle.command_arguments.specs.declared.forms.Seeking.{Seeking}
use Rattle.command_arguments.specs.declared.forms.Seeking.TheVariants.{To, Forward, Back}
use Rattle.mpd_text.specs.declared.songs.song.TagName.{TagName}
use Rattle.song_db.specs.Lines.{millis}
use Rattle.song_queue.specs.declared.entry.Entry.{Entry}
use Rattle.song_queue.specs.State.{QueueState, queue_of, position_of}
use Rattle.player_core.specs.Player.{is_stopped}
use Rattle.transitions.specs.CommandResults.{bad_index, does, no_such_song, not_playing, shows}
use Rattle.queue_commands.specs.Queue.{count, current_position, entry_lines}
use Rattle.player_state.specs.declared.effect.CommandEffect.TheVariants.{ClearsError, GoesBack, GoesOn, Pauses, Plays, PlaysPosition, Seeks, Stops, TogglesPause}
use Rattle.transitions.specs.declared.asked.Asked.{Asked}
use Rattle.player_state.specs.declared.state.Library.{Library}
use Rattle.player_state.specs.declared.state.Part.{Part}
use Rattle.transitions.specs.Transitions.{CommandResult}
use Rattle.mpd_command.specs.declared.playback.PlaybackCommand.{PlaybackCommand}
use Rattle.mpd_command.specs.declared.playback.PlaybackCommand.TheVariants as playback

-- the song at a position starts; without one the player goes on, or begins
abbrev pub play : Asked → Part → Option ℕ → CommandResult
play asked part None = does asked Plays
play asked part (Some position) = if nat_lt position (count part) then does asked (PlaysPosition position) else bad_index asked

abbrev pub play_found : Asked → Option ℕ → CommandResult
play_found asked None = no_such_song asked
play_found asked (Some position) = does asked (PlaysPosition position)

-- the song with an id starts
abbrev pub play_id : Asked → Part → Option ℕ → CommandResult
play_id asked part None = does asked Plays
play_id asked part (Some id) = play_found asked (position_of part.queue id)

abbrev pub pause : Asked → Option Bool → CommandResult
pause asked None = does asked TogglesPause
pause asked (Some on) = does asked (Pauses on)

abbrev pub stop : Asked → CommandResult
stop asked = does asked Stops

-- a song that is played ends, and the order goes on
abbrev pub next : Asked → Part → CommandResult
next asked part = if is_stopped part.player.playback then not_playing asked else does asked GoesOn

-- the song before it starts
abbrev pub previous : Asked → Part → CommandResult
previous asked part = if is_stopped part.player.playback then not_playing asked else does asked GoesBack

-- the frame at a time, as far as frames can be counted
abbrev pub frame_at : ℕ → ℕ → ℕ
frame_at rate time = min (time * rate / 1000) 18446744073709551615

-- to a time in the song at a position
abbrev pub seek : Asked → Part → Library → ℕ → ℕ → CommandResult
seek asked part library position time =
    if nat_lt position (count part) then does asked (Seeks position (frame_at library.rate time)) else bad_index asked

abbrev pub seek_found : Asked → Library → Option ℕ → ℕ → CommandResult
seek_found asked library None time = no_such_song asked
seek_found asked library (Some position) time = does asked (Seeks position (frame_at library.rate time))

-- to a time in the song with an id
abbrev pub seek_id : Asked → Part → Library → ℕ → ℕ → CommandResult
seek_id asked part library id time = seek_found asked library (position_of part.queue id) time

-- the time that an offset in a song is to be counted from, in thousandths of a second
abbrev pub elapsed : Part → Library → ℕ
elapsed part library = millis library.rate part.player.offset

abbrev pub time_of : ℕ → Seeking → ℕ
time_of from (To time) = time.0
time_of from (Forward time) = from + time.0
time_of from (Back time) = from - time.0

abbrev pub seek_current : Asked → Library → Option ℕ → ℕ → CommandResult
seek_current asked library None time = not_playing asked
seek_current asked library (Some position) time = does asked (Seeks position (frame_at library.rate time))

-- to a time in the current song, which may count from the time that has elapsed
abbrev pub seek_cur : Asked → Part → Library → Seeking → CommandResult
seek_cur asked part library seeking =
    if is_stopped part.player.playback then not_playing asked
    else seek_current asked library (current_position part) (time_of (elapsed part library) seeking)

abbrev pub lines_of_entry : List TagName → ℕ → ℕ → Option Entry → List ℕ
lines_of_entry tags rate position None = []
lines_of_entry tags rate position (Some entry) = entry_lines tags rate (position, entry)

abbrev pub lines_at : List TagName → ℕ → QueueState → Option ℕ → List ℕ
lines_at tags rate queue None = []
lines_at tags rate queue (Some position) = lines_of_entry tags rate position (slice_get (queue_of queue) position)

-- the lines of the current song, if there is one
abbrev pub current_song : Asked → Part → Library → CommandResult
current_song asked part library =
    shows asked (lines_at asked.tags library.rate part.queue (current_position part))

abbrev pub clear_error : Asked → CommandResult
clear_error asked = does asked ClearsError

-- what each command makes of the player
unfoldable pub result_of : Asked → Part → Library → PlaybackCommand → CommandResult
result_of asked part library playback.Next = next asked part
result_of asked part library (playback.Pause on) = pause asked on
result_of asked part library (playback.Play position) = play asked part position
result_of asked part library (playback.PlayId id) = play_id asked part id
result_of asked part library playback.Previous = previous asked part
result_of asked part library (playback.Seek position time) = seek asked part library position time.0
result_of asked part library (playback.SeekCur seeking) = seek_cur asked part library seeking
result_of asked part library (playback.SeekId id time) = seek_id asked part library id time.0
result_of asked part library playback.Stop = stop asked
