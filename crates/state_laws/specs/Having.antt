-- What the player of one thread has of what a state keeps (MPD protocol reference, Querying MPD's status; The queue;
-- how a state says it is this profile's).
use Rattle.std.specs.Prelude.{ℕ, ◌≡◌, ◌==◌, Bool, true, false, min, List, [], ◌∷◌, length, map, Option, Some, None, option_map, slice_get, if◌then◌else◌}
use Rattle.command_arguments.specs.Forms.{fade_of, song_mode_of, switch_of, volume_of}
use Rattle.mpd_text.specs.Answers.Millis.{millis, millis_of}
use Rattle.song_queue.specs.declared.entry.Entry.{Entry}
use Rattle.song_queue.specs.State.{queue_of}
use Rattle.player_core.specs.Player.{PlayerState}
use Rattle.player_core.specs.declared.state.Playback.TheVariants as state
use Rattle.player_state.specs.Outputs.{OutputsData, has_failed, is_enabled, is_output}
use Rattle.player_state.specs.declared.state.Part.{Part}
use Rattle.queue_commands.specs.Playback.{frame_at}
use Rattle.status_commands.specs.Options.{consume_of, single_of}
use Rattle.kept_state.specs.Reading.{Player}
use Rattle.kept_state.specs.declared.kept.KeptEntry.{KeptEntry}
use Rattle.kept_state.specs.declared.kept.KeptOptions.{KeptOptions}
use Rattle.kept_state.specs.declared.kept.KeptOutput.{KeptOutput}
use Rattle.kept_state.specs.declared.kept.KeptPlayback.{KeptPlayback}
use Rattle.kept_state.specs.declared.kept.KeptPlayback.TheVariants as playback

-- an entry of a queue, except for its id
abbrev pub kept_entry : Entry → KeptEntry
kept_entry entry = record { uri = entry.song.uri; priority = entry.priority }

-- each text is read as what the player is set to
pub record AreOptions (part : Part) (options : KeptOptions) : Type 0 where
  pub volume : volume_of options.volume ≡ Some part.volume
  pub repeat : switch_of options.repeat ≡ Some part.player.modes.repeat
  pub random : switch_of options.random ≡ Some part.player.modes.random
  pub single : option_map single_of (song_mode_of options.single) ≡ Some part.player.modes.single
  pub consume : option_map consume_of (song_mode_of options.consume) ≡ Some part.player.modes.consume
  pub crossfade : fade_of options.crossfade ≡ Some part.player.crossfade

-- what was said later counts
abbrev pub later : Option Bool → Option Bool → Option Bool
later earlier None = earlier
later earlier (Some on) = Some on

-- whether an output was said to be on, the last time that anything was said of it
abbrev pub said_of : ℕ → List KeptOutput → Option Bool
said_of number [] = None
said_of number (output ∷ outputs) =
    later (if output.number == number then Some output.is_on else None) (said_of number outputs)

-- Each output is on or off as was said last. Nothing is known of one that is not in the partition, or that has
-- failed.
pub record AreSwitched (outputs : OutputsData) (said : List KeptOutput) : Type 0 where
  -- it is known of each output whether it is on
  pub known : length outputs.enabled ≡ length outputs.here
  pub as_said : (number : ℕ) (on : Bool) → said_of number said ≡ Some on → is_output outputs number ≡ true
      → has_failed outputs number ≡ false → is_enabled outputs number ≡ on

-- the player is so many seconds into a song, or at its end where it is shorter
abbrev pub IsInto : ℕ → Entry → PlayerState → List ℕ → Type 0
IsInto rate entry p elapsed =
    (time : ℕ) × (millis_of elapsed ≡ millis time) × (p.offset ≡ min (frame_at rate time) entry.song.frames)

abbrev pub IsPlayed : ℕ → Entry → PlayerState → KeptPlayback → Type 0
IsPlayed rate entry p playback.Stop = p.playback ≡ state.Stop
IsPlayed rate entry p (playback.Play elapsed) = (p.playback ≡ state.Play) × IsInto rate entry p elapsed
IsPlayed rate entry p (playback.Pause elapsed) = (p.playback ≡ state.Pause) × IsInto rate entry p elapsed

-- the song at a position is the current one, and is played or stands still so; without one the player is stopped
abbrev pub IsCurrent : ℕ → Part → Option (ℕ × KeptPlayback) → Type 0
IsCurrent rate part None = (part.player.current ≡ None) × (part.player.playback ≡ state.Stop)
IsCurrent rate part (Some song) =
    (entry : Entry) × (slice_get (queue_of part.queue) song.0 ≡ Some entry) × (part.player.current ≡ Some entry.id)
    × IsPlayed rate entry part.player song.1

-- A partition has what a reading says, except for ids and versions.
pub record Has (rate : ℕ) (part : Part) (player : Player) : Type 0 where
  pub options : AreOptions part player.options
  pub outputs : AreSwitched part.outputs player.outputs
  pub queue : player.queue ≡ map kept_entry (queue_of part.queue)
  pub song : IsCurrent rate part player.song
