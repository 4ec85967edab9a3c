-- The text of a state, and what its lines are.
use Rattle.std.specs.Prelude.{◌≡◌, ℕ, Bool, true, false, ◌==◌, List, [], ◌∷◌, ◌++◌, Option, Some, None, codes, decimal, if◌then◌else◌}
use Rattle.std.specs.List.{flat_map}
use Rattle.mpd_text.specs.Lines.Quoted.{quoted_text}
use Rattle.kept_state.specs.declared.kept.Kept.{Kept}
use Rattle.kept_state.specs.declared.kept.KeptEntry.{KeptEntry}
use Rattle.kept_state.specs.declared.kept.KeptOptions.{KeptOptions}
use Rattle.kept_state.specs.declared.kept.KeptOutput.{KeptOutput}
use Rattle.kept_state.specs.declared.kept.KeptPlayback.{KeptPlayback}
use Rattle.kept_state.specs.declared.kept.KeptPlayback.TheVariants as playback
use Rattle.kept_state.specs.declared.kept.KeptSong.{KeptSong}
use Rattle.kept_state.specs.Lines.{Line, state_steps}
use Rattle.kept_state.specs.Lines.{Line as lines}

-- a command with one argument
abbrev pub line : List ℕ → List ℕ → List ℕ
line name argument = name ++ (codes " " ++ (argument ++ codes "\n"))

abbrev pub option_text : KeptOptions → List ℕ
option_text options =
    line (codes "setvol") options.volume
    ++ (line (codes "repeat") options.repeat
    ++ (line (codes "random") options.random
    ++ (line (codes "single") options.single
    ++ (line (codes "consume") options.consume ++ line (codes "crossfade") options.crossfade))))

abbrev pub switch_name : Bool → List ℕ
switch_name true = codes "enableoutput"
switch_name false = codes "disableoutput"

-- an output is on or off
abbrev pub switch_text : KeptOutput → List ℕ
switch_text output = line (switch_name output.is_on) (decimal output.number)

abbrev pub output_text : List KeptOutput → List ℕ
output_text outputs = flat_map switch_text outputs

-- a song is put at the front of the queue
abbrev pub put_text : List ℕ → List ℕ
put_text uri = codes "addid " ++ (quoted_text uri ++ codes " 0\n")

abbrev pub prioritize_text : ℕ → List ℕ
prioritize_text priority = codes "prio " ++ (decimal priority ++ codes " 0\n")

-- the priority that a song has from the start is not said
abbrev pub priority_text : ℕ → List ℕ
priority_text priority = if priority == 0 then [] else prioritize_text priority

-- a line, and others that are told together with it
abbrev pub list_text : List ℕ → List ℕ → List ℕ
list_text line others = codes "command_list_begin\n" ++ (line ++ (others ++ codes "command_list_end\n"))

-- a song of the queue; its priority is told together with it
abbrev pub entry_text : KeptEntry → List ℕ
entry_text entry =
    if entry.priority == 0 then put_text entry.uri else list_text (put_text entry.uri) (prioritize_text entry.priority)

-- the songs of a queue, the last one first, since each is put at the front
abbrev pub entries_text : List KeptEntry → List ℕ
entries_text [] = []
entries_text (entry ∷ entries) = entries_text entries ++ entry_text entry

abbrev pub seek_text : List ℕ → List ℕ
seek_text elapsed = line (codes "seek 0") elapsed

-- the song at the front is the current one; it is played from where it was, or stands still there
abbrev pub playback_text : KeptPlayback → List ℕ
playback_text playback.Stop = codes "play 0\nstop\n"
playback_text (playback.Play elapsed) = seek_text elapsed
playback_text (playback.Pause elapsed) = seek_text elapsed ++ codes "pause 1\n"

-- the current song, with all that is said of it
abbrev pub text_of_song : KeptSong → List ℕ
text_of_song song =
    list_text (put_text song.entry.uri) (priority_text song.entry.priority ++ playback_text song.playback)

abbrev pub song_text : Option KeptSong → List ℕ
song_text None = []
song_text (Some song) = text_of_song song

-- volume and modes, the outputs, and the queue, of which the current song is one
abbrev pub state_text : Kept → List ℕ
state_text kept =
    option_text kept.options
    ++ (output_text kept.outputs.items
    ++ (entries_text kept.after.items ++ (song_text kept.song ++ entries_text kept.before.items)))

-- the bytes of a line
abbrev pub text_of_line : Line → List ℕ
text_of_line (lines.Volume volume) = line (codes "setvol") volume
text_of_line (lines.Repeat mode) = line (codes "repeat") mode
text_of_line (lines.Random mode) = line (codes "random") mode
text_of_line (lines.Single mode) = line (codes "single") mode
text_of_line (lines.Consume mode) = line (codes "consume") mode
text_of_line (lines.Crossfade seconds) = line (codes "crossfade") seconds
text_of_line (lines.Switch output) = switch_text output
text_of_line (lines.Put uri) = put_text uri
text_of_line (lines.Prioritize priority) = prioritize_text priority
text_of_line (lines.Seek elapsed) = seek_text elapsed
text_of_line lines.Play = codes "play 0\n"
text_of_line lines.Pause = codes "pause 1\n"
text_of_line lines.Stop = codes "stop\n"

-- lines that are told together: one alone as it is, others as a command list
abbrev pub text_of_step : List Line → List ℕ
text_of_step [] = []
text_of_step (line ∷ []) = text_of_line line
text_of_step (line ∷ next ∷ others) = list_text (text_of_line line) (flat_map text_of_line (next ∷ others))

-- the text of a state is that of its lines
abbrev pub TellsSteps : Type 0
TellsSteps = (kept : Kept) → state_text kept ≡ flat_map text_of_step (state_steps kept)
