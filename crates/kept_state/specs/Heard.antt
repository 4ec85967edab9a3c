-- What was heard of a player's answers so far, and what a line changes in it.
use Rattle.std.specs.Prelude.{◌≡◌, ℕ, Bool, false, List, [], ◌∷◌, ◌++◌, Option, Some, None, codes, option_map, unwrap_or}
use Rattle.mpd_text.specs.Answers.Number.{number_of}
use Rattle.kept_state.specs.declared.answers.Heard.{Heard}
use Rattle.kept_state.specs.declared.kept.Kept.{Kept}
use Rattle.kept_state.specs.declared.kept.KeptEntry.{KeptEntry}
use Rattle.kept_state.specs.declared.kept.KeptOptions.{KeptOptions}
use Rattle.kept_state.specs.declared.kept.KeptOutput.{KeptOutput}
use Rattle.kept_state.specs.Told.{after_position, at_position, before_position, behind, is_on, number_or_zero, options_told, outputs_told, position_told, playback_for, song_of, songs_told, told_or}

-- these lines were heard
pub record HasHeard (lines : List (List ℕ)) (heard : Heard) : Type 0 where
  pub options : heard.options ≡ options_told lines
  pub position : heard.position ≡ position_told lines
  pub state : heard.state ≡ told_or (codes "state: ") (codes "stop") lines
  pub elapsed : heard.elapsed ≡ told_or (codes "elapsed: ") (codes "0") lines
  pub outputs : heard.outputs.items ≡ outputs_told lines
  pub songs : heard.songs.items ≡ songs_told lines

-- a text, where a line may tell another one
abbrev pub text_after : List ℕ → List ℕ → List ℕ → List ℕ
text_after key line text = unwrap_or (behind key line) text

abbrev pub options_after : List ℕ → KeptOptions → KeptOptions
options_after line options = record {
  volume = text_after (codes "volume: ") line options.volume;
  repeat = text_after (codes "repeat: ") line options.repeat;
  random = text_after (codes "random: ") line options.random;
  single = text_after (codes "single: ") line options.single;
  consume = text_after (codes "consume: ") line options.consume;
  crossfade = text_after (codes "xfade: ") line options.crossfade;
}

abbrev pub position_after : Option (List ℕ) → Option ℕ → Option ℕ
position_after None position = position
position_after (Some text) position = number_of text

-- the last item of a list is changed
abbrev pub at_last : {A : Type 0} → (A → A) → List A → List A
at_last change [] = []
at_last change (x ∷ []) = change x ∷ []
at_last change (x ∷ y ∷ more) = x ∷ at_last change (y ∷ more)

abbrev pub switched : Bool → KeptOutput → KeptOutput
switched on output = record output { is_on = on }

abbrev pub prioritized : ℕ → KeptEntry → KeptEntry
prioritized priority entry = record entry { priority = priority }

-- an output begins, or it is told of the last one whether it is on
abbrev pub outputs_after : Option (List ℕ) → Option (List ℕ) → List KeptOutput → List KeptOutput
outputs_after (Some number) value outputs = outputs ++ record { number = number_or_zero number; is_on = false } ∷ []
outputs_after None None outputs = outputs
outputs_after None (Some value) outputs = at_last (switched (is_on value)) outputs

-- a song begins, or the priority of the last one is told
abbrev pub songs_after : Option (List ℕ) → Option (List ℕ) → List KeptEntry → List KeptEntry
songs_after (Some uri) value songs = songs ++ record { uri = uri; priority = 0 } ∷ []
songs_after None None songs = songs
songs_after None (Some value) songs = at_last (prioritized (number_or_zero value)) songs

-- the outputs and the songs, with what a line tells of them
abbrev pub outputs_with : List ℕ → List KeptOutput → List KeptOutput
outputs_with line outputs = outputs_after (behind (codes "outputid: ") line) (behind (codes "outputenabled: ") line) outputs

abbrev pub songs_with : List ℕ → List KeptEntry → List KeptEntry
songs_with line songs = songs_after (behind (codes "file: ") line) (behind (codes "Prio: ") line) songs

-- what is kept by all that was heard
pub record Keeps (heard : Heard) (kept : Kept) : Type 0 where
  pub options : kept.options ≡ heard.options
  pub outputs : kept.outputs.items ≡ heard.outputs.items
  pub before : kept.before.items ≡ before_position heard.position heard.songs.items
  pub song : kept.song ≡ option_map (song_of (playback_for heard.state heard.elapsed)) (at_position heard.position heard.songs.items)
  pub after : kept.after.items ≡ after_position heard.position heard.songs.items

-- a line was heard
pub record Hears (line : List ℕ) (old new : Heard) : Type 0 where
  pub options : new.options ≡ options_after line old.options
  pub position : new.position ≡ position_after (behind (codes "song: ") line) old.position
  pub state : new.state ≡ text_after (codes "state: ") line old.state
  pub elapsed : new.elapsed ≡ text_after (codes "elapsed: ") line old.elapsed
  pub outputs : new.outputs.items ≡ outputs_with line old.outputs.items
  pub songs : new.songs.items ≡ songs_with line old.songs.items
