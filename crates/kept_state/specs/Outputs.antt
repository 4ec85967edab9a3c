-- Of what is kept: whether a song is played, and outputs that are on.
use Rattle.std.specs.Prelude.{Bool, true, false, ◌||◌, List, Option, Some, None, slice_index_or}
use Rattle.kept_state.specs.declared.kept.KeptOutput.{KeptOutput}
use Rattle.kept_state.specs.declared.kept.KeptPlayback.{KeptPlayback}
use Rattle.kept_state.specs.declared.kept.KeptPlayback.TheVariants as playback
use Rattle.kept_state.specs.declared.kept.KeptSong.{KeptSong}

abbrev pub is_play : KeptPlayback → Bool
is_play (playback.Play elapsed) = true
is_play other = false

abbrev pub plays : Option KeptSong → Bool
plays None = false
plays (Some song) = is_play song.playback

-- an output that is on, or is named by its number
abbrev pub turned_on : List Bool → KeptOutput → KeptOutput
turned_on named output = record output { is_on = output.is_on || slice_index_or named output.number false }
