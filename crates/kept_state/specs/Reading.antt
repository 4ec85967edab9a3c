-- What becomes of a player that reads the lines of a state (MPD protocol reference, Command reference).
use Rattle.std.specs.Prelude.{◌≡◌, ℕ, suc, Bool, List, [], ◌∷◌, ◌++◌, Option, Some, None, codes, filter, length, option_map, if◌then◌else◌}
use Rattle.kept_state.specs.declared.kept.Kept.{Kept}
use Rattle.kept_state.specs.declared.kept.KeptEntry.{KeptEntry}
use Rattle.kept_state.specs.declared.kept.KeptOptions.{KeptOptions}
use Rattle.kept_state.specs.declared.kept.KeptOutput.{KeptOutput}
use Rattle.kept_state.specs.declared.kept.KeptPlayback.{KeptPlayback}
use Rattle.kept_state.specs.declared.kept.KeptPlayback.TheVariants as playback
use Rattle.kept_state.specs.declared.kept.KeptSong.{KeptSong}
use Rattle.kept_state.specs.Lines.{Line, state_steps}
use Rattle.kept_state.specs.Lines.{Line as lines}
use Rattle.kept_state.specs.Texts.{TellsSteps}

-- what a player has of what a state keeps: its options, the outputs that were switched, in that order, its
-- queue, and the position of its current song there and whether that is played
pub record Player : Type 0 where
  pub options : KeptOptions
  pub outputs : List KeptOutput
  pub queue : List KeptEntry
  pub song : Option (ℕ × KeptPlayback)

-- a current song is one position further on
abbrev pub behind_one : Option (ℕ × KeptPlayback) → Option (ℕ × KeptPlayback)
behind_one song = option_map (λ s. (suc s.0, s.1)) song

-- a song that was put at the front of the queue, with no priority
abbrev pub with_front : List ℕ → Player → Player
with_front uri player =
    record player { queue = record { uri = uri; priority = 0 } ∷ player.queue; song = behind_one player.song }

-- the song at the front has this priority, where there is one
abbrev pub prioritized : ℕ → List KeptEntry → Option (List KeptEntry)
prioritized priority [] = None
prioritized priority (entry ∷ entries) = Some (record entry { priority = priority } ∷ entries)

-- the song at the front is the current one, where there is one
abbrev pub front : KeptPlayback → List KeptEntry → Option (ℕ × KeptPlayback)
front how [] = None
front how (entry ∷ entries) = Some (0, how)

abbrev pub still : KeptPlayback → KeptPlayback
still playback.Stop = playback.Stop
still (playback.Play elapsed) = playback.Pause elapsed
still (playback.Pause elapsed) = playback.Pause elapsed

-- of a line what the player is after it, or that it is refused; there are these songs alone
abbrev pub read_line : (List ℕ → Bool) → Player → Line → Option Player
read_line has player (lines.Volume volume) = Some (record player { options = record player.options { volume = volume } })
read_line has player (lines.Repeat mode) = Some (record player { options = record player.options { repeat = mode } })
read_line has player (lines.Random mode) = Some (record player { options = record player.options { random = mode } })
read_line has player (lines.Single mode) = Some (record player { options = record player.options { single = mode } })
read_line has player (lines.Consume mode) = Some (record player { options = record player.options { consume = mode } })
read_line has player (lines.Crossfade seconds) = Some (record player { options = record player.options { crossfade = seconds } })
read_line has player (lines.Switch output) = Some (record player { outputs = player.outputs ++ output ∷ [] })
read_line has player (lines.Put uri) = if has uri then Some (with_front uri player) else None
read_line has player (lines.Prioritize priority) = option_map (λ queue. record player { queue = queue }) (prioritized priority player.queue)
read_line has player (lines.Seek elapsed) = option_map (λ song. record player { song = Some song }) (front (playback.Play elapsed) player.queue)
read_line has player lines.Play = option_map (λ song. record player { song = Some song }) (front (playback.Play (codes "0")) player.queue)
read_line has player lines.Pause = Some (record player { song = option_map (λ s. (s.0, still s.1)) player.song })
read_line has player lines.Stop = Some (record player { song = option_map (λ s. (s.0, playback.Stop)) player.song })

-- what is done after a line, where it was not refused
abbrev pub after_line : Player → (Player → Player) → Option Player → Player
after_line player others None = player
after_line player others (Some read) = others read

-- lines that are told together: the first that is refused ends them
abbrev pub read_step : (List ℕ → Bool) → List Line → Player → Player
read_step has [] player = player
read_step has (line ∷ lines) player = after_line player (read_step has lines) (read_line has player line)

-- all lines of a state
abbrev pub read_steps : (List ℕ → Bool) → List (List Line) → Player → Player
read_steps has [] player = player
read_steps has (step ∷ steps) player = read_steps has steps (read_step has step player)

-- the entries whose songs there are
abbrev pub there : (List ℕ → Bool) → List KeptEntry → List KeptEntry
there has entries = filter (λ entry. has entry.uri) entries

abbrev pub song_there : (List ℕ → Bool) → Option KeptSong → Option KeptSong
song_there has None = None
song_there has (Some song) = if has song.entry.uri then Some song else None

abbrev pub entry_of : Option KeptSong → List KeptEntry
entry_of None = []
entry_of (Some song) = song.entry ∷ []

-- the queue of what is kept, of the songs that there are
abbrev pub queue_of : (List ℕ → Bool) → Kept → List KeptEntry
queue_of has kept = there has kept.before.items ++ (entry_of (song_there has kept.song) ++ there has kept.after.items)

abbrev pub position_of : (List ℕ → Bool) → Kept → Option (ℕ × KeptPlayback)
position_of has kept = option_map (λ song. (length (there has kept.before.items), song.playback)) (song_there has kept.song)

-- a player that has all that is kept, of the songs that there are
abbrev pub given_back : (List ℕ → Bool) → Kept → Player
given_back has kept = record {
  options = kept.options;
  outputs = kept.outputs.items;
  queue = queue_of has kept;
  song = position_of has kept;
}

-- a player with an empty queue
abbrev pub opened : KeptOptions → Player
opened options = record { options = options; outputs = []; queue = []; song = None }

-- The text of a state is that of its lines, and a player with an empty queue that reads them has all that is
-- kept; where some songs are not there, all but these, and nothing else is lost with them.
pub record GivesBack : Type 0 where
  pub text : TellsSteps
  pub player : (has : List ℕ → Bool) (kept : Kept) (options : KeptOptions)
      → read_steps has (state_steps kept) (opened options) ≡ given_back has kept
