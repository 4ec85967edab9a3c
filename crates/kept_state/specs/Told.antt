-- What a player told of itself, by its answers to `status`, `outputs` and `playlistinfo` (MPD protocol reference,
-- Querying MPD's status; Audio output devices; The queue). A line tells the value of a key, `KEY: VALUE`.
use Rattle.std.specs.Prelude.{◌≡◌, ℕ, suc, ◌==◌, Bool, false, List, [], ◌∷◌, Option, Some, None, MatchOption, codes, drop, find, map, option_map, slice_get, take, unwrap_or, if◌then◌else◌}
use Rattle.std.specs.Borrow.{Bor}
use Rattle.std.specs.Option.{option_and_then, option_map_or}
use Rattle.std.specs.Str.{bytes_eq}
use Rattle.mpd_text.specs.Answers.Number.{number_of}
use Rattle.kept_state.specs.declared.kept.Kept.{Kept}
use Rattle.kept_state.specs.declared.kept.KeptEntry.{KeptEntry}
use Rattle.kept_state.specs.declared.kept.KeptOptions.{KeptOptions}
use Rattle.kept_state.specs.declared.kept.KeptOutput.{KeptOutput}
use Rattle.kept_state.specs.declared.kept.KeptPlayback.{KeptPlayback}
use Rattle.kept_state.specs.declared.kept.KeptPlayback.TheVariants as playback
use Rattle.kept_state.specs.declared.kept.KeptSong.{KeptSong}

-- ---- lines

-- what stands in a line behind these bytes at its beginning
abbrev pub behind : List ℕ → List ℕ → Option (List ℕ)
behind [] line = Some line
behind (b ∷ bs) [] = None
behind (b ∷ bs) (c ∷ cs) = if b == c then behind bs cs else None

-- a text that stands there is shown, or nothing where there is none
abbrev pub Shows : Option (List ℕ) → Option (Bor (List ℕ)) → Type 0
Shows text shown = MatchOption shown (text ≡ None) (λ value. text ≡ Some value.now)

-- what is told later counts
abbrev pub later : {A : Type 0} → Option A → Option A → Option A
later earlier None = earlier
later earlier (Some value) = Some value

-- the value of a key, where it was told the last time
abbrev pub told : List ℕ → List (List ℕ) → Option (List ℕ)
told key [] = None
told key (line ∷ lines) = later (behind key line) (told key lines)

-- the value of a key, or this one where none is told
abbrev pub told_or : List ℕ → List ℕ → List (List ℕ) → List ℕ
told_or key default lines = unwrap_or (told key lines) default

-- ---- items, of which each begins with a line of one key

-- what each line tells of the key that begins an item, and of another key
abbrev pub Tellings : Type 0
Tellings = List (Option (List ℕ) × Option (List ℕ))

abbrev pub tellings : List ℕ → List ℕ → List (List ℕ) → Tellings
tellings begin key lines = map (λ line. (behind begin line, behind key line)) lines

-- the value of the other key, where it was told the last time before the next item begins
abbrev pub told_within : Tellings → Option (List ℕ)
told_within [] = None
told_within ((None, value) ∷ more) = later value (told_within more)
told_within ((Some first, value) ∷ more) = None

-- of each item the value that begins it, and that of the other key
abbrev pub items : Tellings → List (List ℕ × Option (List ℕ))
items [] = []
items ((None, value) ∷ more) = items more
items ((Some first, value) ∷ more) = (first, told_within more) ∷ items more

-- ---- what is kept

-- what is not told is as a player has it that was just opened
abbrev pub options_told : List (List ℕ) → KeptOptions
options_told lines = record {
  volume = told_or (codes "volume: ") (codes "100") lines;
  repeat = told_or (codes "repeat: ") (codes "0") lines;
  random = told_or (codes "random: ") (codes "0") lines;
  single = told_or (codes "single: ") (codes "0") lines;
  consume = told_or (codes "consume: ") (codes "0") lines;
  crossfade = told_or (codes "xfade: ") (codes "0") lines;
}

abbrev pub number_or_zero : List ℕ → ℕ
number_or_zero text = unwrap_or (number_of text) 0

abbrev pub is_on : List ℕ → Bool
is_on text = bytes_eq text (codes "1")

abbrev pub output_told : List ℕ × Option (List ℕ) → KeptOutput
output_told item = record { number = number_or_zero item.0; is_on = option_map_or is_on item.1 false }

-- an output is on where that is told of it
abbrev pub outputs_told : List (List ℕ) → List KeptOutput
outputs_told lines = map output_told (items (tellings (codes "outputid: ") (codes "outputenabled: ") lines))

-- whether the first output of a number is on
abbrev pub shown_on : ℕ → List KeptOutput → Option Bool
shown_on number outputs = option_map (λ output. output.is_on) (find (λ output. output.number == number) outputs)

abbrev pub entry_told : List ℕ × Option (List ℕ) → KeptEntry
entry_told item = record { uri = item.0; priority = option_map_or number_or_zero item.1 0 }

-- the songs of the queue
abbrev pub songs_told : List (List ℕ) → List KeptEntry
songs_told lines = map entry_told (items (tellings (codes "file: ") (codes "Prio: ") lines))

-- the position of the current song
abbrev pub position_told : List (List ℕ) → Option ℕ
position_told lines = option_and_then number_of (told (codes "song: ") lines)

-- whether it is played, by the state and the seconds that are told
abbrev pub playback_for : List ℕ → List ℕ → KeptPlayback
playback_for state elapsed =
    if bytes_eq state (codes "play") then playback.Play elapsed
    else if bytes_eq state (codes "pause") then playback.Pause elapsed
    else playback.Stop

abbrev pub playback_told : List (List ℕ) → KeptPlayback
playback_told lines = playback_for (told_or (codes "state: ") (codes "stop") lines) (told_or (codes "elapsed: ") (codes "0") lines)

-- the songs before a position, the one at it, and those after it; without a position all of them are before it
abbrev pub before_position : Option ℕ → List KeptEntry → List KeptEntry
before_position None songs = songs
before_position (Some position) songs = take position songs

abbrev pub at_position : Option ℕ → List KeptEntry → Option KeptEntry
at_position position songs = option_and_then (slice_get songs) position

abbrev pub after_position : Option ℕ → List KeptEntry → List KeptEntry
after_position None songs = []
after_position (Some position) songs = drop (suc position) songs

abbrev pub song_of : KeptPlayback → KeptEntry → KeptSong
song_of playback entry = record { entry = entry; playback = playback }

-- what is kept is what these lines told
pub record IsTold (lines : List (List ℕ)) (kept : Kept) : Type 0 where
  pub options : kept.options ≡ options_told lines
  pub outputs : kept.outputs.items ≡ outputs_told lines
  pub before : kept.before.items ≡ before_position (position_told lines) (songs_told lines)
  pub song : kept.song ≡ option_map (song_of (playback_told lines)) (at_position (position_told lines) (songs_told lines))
  pub after : kept.after.items ≡ after_position (position_told lines) (songs_told lines)
