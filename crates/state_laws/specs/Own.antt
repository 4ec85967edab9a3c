-- A player that is told the lines of a state which another player told of itself (MPD protocol reference, Querying
-- MPD's status; that a time is told in whole thousandths of a second is this profile's).
use Rattle.std.specs.Prelude.{ℕ, ◌≡◌, ◌+◌, ◌^◌, ◌<◌, ◌≤◌, true, false, min, List, [], ◌∷◌, ◌++◌, length, map, Option, Some, None, is_some, slice_get, decimal}
use Rattle.command_arguments.specs.Forms.{uri_of}
use Rattle.connected_clients.specs.Clients.{client_of}
use Rattle.song_db.specs.Lines.{duration_text, millis}
use Rattle.song_queue.specs.declared.entry.Entry.{Entry}
use Rattle.song_queue.specs.State.{queue_of}
use Rattle.player_core.specs.declared.state.Playback.{Playback}
use Rattle.player_core.specs.declared.state.Playback.TheVariants as state
use Rattle.player_core.specs.Player.{is_stopped}
use Rattle.partition_table.specs.Parts.{part_at}
use Rattle.partition.specs.Image.{Image}
use Rattle.partition.specs.declared.state.Setup.{Setup}
use Rattle.player_state.specs.Outputs.{OutputsData, has_failed, is_enabled, is_output}
use Rattle.player_state.specs.declared.state.Client.{Client}
use Rattle.player_state.specs.declared.state.Library.{Library}
use Rattle.player_state.specs.declared.state.Part.{Part}
use Rattle.queue_commands.specs.Playback.{frame_at}
use Rattle.status_commands.specs.Status.{consume_text, digit, single_text}
use Rattle.kept_state.specs.Lines.{state_steps}
use Rattle.kept_state.specs.Reading.{entry_of}
use Rattle.kept_state.specs.declared.kept.Kept.{Kept}
use Rattle.kept_state.specs.declared.kept.KeptEntry.{KeptEntry}
use Rattle.kept_state.specs.declared.kept.KeptOptions.{KeptOptions}
use Rattle.kept_state.specs.declared.kept.KeptOutput.{KeptOutput}
use Rattle.kept_state.specs.declared.kept.KeptPlayback.{KeptPlayback}
use Rattle.kept_state.specs.declared.kept.KeptPlayback.TheVariants as playback
use Rattle.kept_state.specs.declared.kept.KeptSong.{KeptSong}
use Rattle.state_laws.specs.Bytes.{read_bytes}
use Rattle.state_laws.specs.Having.{kept_entry, said_of}
use Rattle.state_laws.specs.Saying.{HasRoom, after_steps, begun, is_song}

-- an offset in a song is not behind another one, and is told as the same time or as a thousandth of a second less
pub record IsJustBefore (rate offset back : ℕ) : Type 0 where
  pub earlier : back ≤ offset
  pub no_later : millis rate back ≤ millis rate offset
  pub told : millis rate offset ≤ millis rate back + 1

-- an offset in a song whose time is told, and that is sought by this time
abbrev pub OffsetsComeBack : Type 0
OffsetsComeBack =
    (rate offset frames : ℕ) → 1000 ≤ rate → offset < 2 ^ 64 → offset ≤ frames
    → IsJustBefore rate offset (min (frame_at rate (millis rate offset)) frames)

-- the texts by which a player tells what it is set to
abbrev pub options_of : Part → KeptOptions
options_of part = record {
  volume = decimal part.volume;
  repeat = decimal (digit part.player.modes.repeat);
  random = decimal (digit part.player.modes.random);
  single = single_text part.player.modes.single;
  consume = consume_text part.player.modes.consume;
  crossfade = decimal part.player.crossfade;
}

-- each of these outputs is on or off as in the partition
abbrev pub AreOutputsOf : OutputsData → List KeptOutput → Type 0
AreOutputsOf outputs [] = Unit {0}
AreOutputsOf outputs (output ∷ more) =
    (output.number < 8) × (output.is_on ≡ is_enabled outputs output.number) × AreOutputsOf outputs more

-- whether a song is played, and from where
abbrev pub playback_of : Playback → List ℕ → KeptPlayback
playback_of state.Stop elapsed = playback.Stop
playback_of state.Play elapsed = playback.Play elapsed
playback_of state.Pause elapsed = playback.Pause elapsed

-- the current song is the one at this position, or there is none
abbrev pub IsSongOf : ℕ → Part → ℕ → Option KeptSong → Type 0
IsSongOf rate part position None = part.player.current ≡ None
IsSongOf rate part position (Some song) =
    (entry : Entry) × (slice_get (queue_of part.queue) position ≡ Some entry) × (part.player.current ≡ Some entry.id)
    × (song.playback ≡ playback_of part.player.playback (duration_text (millis rate part.player.offset)))

-- what is kept is what a player tells of itself
pub record IsKeptOf (rate : ℕ) (part : Part) (kept : Kept) : Type 0 where
  pub options : kept.options ≡ options_of part
  pub outputs : AreOutputsOf part.outputs kept.outputs.items
  pub queue : kept.before.items ++ (entry_of kept.song ++ kept.after.items) ≡ map kept_entry (queue_of part.queue)
  pub song : IsSongOf rate part (length kept.before.items) kept.song

-- an entry whose song is there; a URI has no slash at its end
abbrev pub IsThere : Library → KeptEntry → Type 0
IsThere library entry =
    (entry.priority ≤ 255) × (uri_of entry.uri ≡ Some (record { 0 = entry.uri })) × (is_song library entry.uri ≡ true)

abbrev pub AreThere : Library → List KeptEntry → Type 0
AreThere library [] = Unit {0}
AreThere library (entry ∷ entries) = IsThere library entry × AreThere library entries

-- a player as each is: its numbers are in their ranges, a song is less than 10^9 seconds long; and its songs are there
pub record CanComeBack (library : Library) (part : Part) : Type 0 where
  pub volume : part.volume ≤ 100
  pub crossfade : part.player.crossfade ≤ 3600
  pub rate : 1000 ≤ library.rate
  pub offset : part.player.offset < 2 ^ 64
  pub time : millis library.rate part.player.offset < 1000000000000
  pub songs : AreThere library (map kept_entry (queue_of part.queue))

-- the song at this position is the current one again, and is played or stands still as before. Where it is as long as
-- before, it is at the same time, or a thousandth of a second before that.
abbrev pub IsBackAt : ℕ → Part → Part → ℕ → Option KeptSong → Type 0
IsBackAt rate part other position None = (other.player.current ≡ None) × (other.player.playback ≡ state.Stop)
IsBackAt rate part other position (Some song) =
    (entry : Entry) × (slice_get (queue_of other.queue) position ≡ Some entry) × (other.player.current ≡ Some entry.id)
    × (other.player.playback ≡ part.player.playback)
    × (is_stopped part.player.playback ≡ false → part.player.offset ≤ entry.song.frames
    → IsJustBefore rate part.player.offset other.player.offset)

-- A player has all that another one told, except for ids and versions: also outputs, but those that it does not have or
-- that have failed.
pub record IsBack (rate : ℕ) (part other : Part) (kept : Kept) : Type 0 where
  pub volume : other.volume ≡ part.volume
  pub repeat : other.player.modes.repeat ≡ part.player.modes.repeat
  pub random : other.player.modes.random ≡ part.player.modes.random
  pub single : other.player.modes.single ≡ part.player.modes.single
  pub consume : other.player.modes.consume ≡ part.player.modes.consume
  pub crossfade : other.player.crossfade ≡ part.player.crossfade
  pub outputs : (number : ℕ) → is_some (said_of number kept.outputs.items) ≡ true
      → is_output other.outputs number ≡ true → has_failed other.outputs number ≡ false
      → is_enabled other.outputs number ≡ is_enabled part.outputs number
  pub queue : map kept_entry (queue_of other.queue) ≡ map kept_entry (queue_of part.queue)
  pub song : IsBackAt rate part other (length kept.before.items) kept.song

-- in the partition of a client
abbrev pub IsBackFor : ℕ → ℕ → Part → Kept → Image → Type 0
IsBackFor rate number part kept i =
    (client : Client) × (other : Part) × (client_of number i.clients ≡ Some client)
    × (part_at client.index i.parts ≡ Some other) × IsBack rate part other kept

-- A player that was just opened, that is told by their bytes the lines of a state which another one told, is as that
-- one was, except for ids and versions.
abbrev pub PlayersComeBack : Type 0
PlayersComeBack =
    (seat number : ℕ) (setup : Setup) (library : Library) (part : Part) (kept : Kept) → CanComeBack library part
    → IsKeptOf library.rate part kept → HasRoom setup (length (queue_of part.queue))
    → IsBackFor library.rate number part kept
    (after_steps seat number read_bytes (state_steps kept) (begun seat number setup library))
