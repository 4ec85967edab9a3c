-- The lines of a state: commands that any client could send (MPD protocol reference, Command reference; which
-- lines there are, and their order, is this profile's).
use Rattle.std.specs.Prelude.{ℕ, ◌==◌, List, [], ◌∷◌, ◌++◌, map, if◌then◌else◌, Option, Some, None}
use Rattle.kept_state.specs.declared.kept.Kept.{Kept}
use Rattle.kept_state.specs.declared.kept.KeptEntry.{KeptEntry}
use Rattle.kept_state.specs.declared.kept.KeptOptions.{KeptOptions}
use Rattle.kept_state.specs.declared.kept.KeptOutput.{KeptOutput}
use Rattle.kept_state.specs.declared.kept.KeptPlayback.{KeptPlayback}
use Rattle.kept_state.specs.declared.kept.KeptPlayback.TheVariants as playback
use Rattle.kept_state.specs.declared.kept.KeptSong.{KeptSong}

pub data Line : Type 0 where
  -- `setvol`
  Volume : List ℕ → Line
  -- `repeat`, `random`, `single`, `consume`, `crossfade`
  Repeat : List ℕ → Line
  Random : List ℕ → Line
  Single : List ℕ → Line
  Consume : List ℕ → Line
  Crossfade : List ℕ → Line
  -- `enableoutput` or `disableoutput`
  Switch : KeptOutput → Line
  -- `addid`: a song is put at the front of the queue
  Put : List ℕ → Line
  -- `prio`: the song at the front has a priority
  Prioritize : ℕ → Line
  -- `seek`: the song at the front is played from so many seconds on
  Seek : List ℕ → Line
  -- `play`: the song at the front is played
  Play : Line
  -- `pause`: the current song stands still
  Pause : Line
  -- `stop`: the current song is not played
  Stop : Line

abbrev pub option_lines : KeptOptions → List Line
option_lines options =
    Volume options.volume ∷ Repeat options.repeat ∷ Random options.random ∷ Single options.single ∷ Consume options.consume
    ∷ Crossfade options.crossfade ∷ []

-- the priority that a song has from the start is not said
abbrev pub priority_lines : ℕ → List Line
priority_lines priority = if priority == 0 then [] else Prioritize priority ∷ []

abbrev pub entry_lines : KeptEntry → List Line
entry_lines entry = Put entry.uri ∷ priority_lines entry.priority

abbrev pub playback_lines : KeptPlayback → List Line
playback_lines playback.Stop = Play ∷ Stop ∷ []
playback_lines (playback.Play elapsed) = Seek elapsed ∷ []
playback_lines (playback.Pause elapsed) = Seek elapsed ∷ Pause ∷ []

abbrev pub song_lines : KeptSong → List Line
song_lines song = entry_lines song.entry ++ playback_lines song.playback

-- Lines that a player is told together: a line alone, or a command list, which ends at the first line that is
-- refused.
abbrev pub alone : Line → List Line
alone line = line ∷ []

-- the songs of a queue, the last one first, since each is put at the front
abbrev pub entries_steps : List KeptEntry → List (List Line)
entries_steps [] = []
entries_steps (entry ∷ entries) = entries_steps entries ++ (entry_lines entry ∷ [])

abbrev pub song_steps : Option KeptSong → List (List Line)
song_steps None = []
song_steps (Some song) = song_lines song ∷ []

-- the queue, the last song first
abbrev pub queue_steps : Kept → List (List Line)
queue_steps kept = entries_steps kept.after.items ++ (song_steps kept.song ++ entries_steps kept.before.items)

-- volume and modes, the outputs, and the queue
abbrev pub state_steps : Kept → List (List Line)
state_steps kept =
    map alone (option_lines kept.options) ++ (map (λ output. alone (Switch output)) kept.outputs.items ++ queue_steps kept)
