-- What `status` shows, said once more: field by field, in the words of the rules (MPD protocol reference,
-- Querying MPD's status; that a song is named by its position and its id is this profile's too).
use Rattle.std.specs.Prelude.{ℕ, ◌≡◌, ◌≢◌, ◌+◌, ◌*◌, ◌/◌, ◌%◌, Bool, true, false, List, [], ◌∷◌, ◌++◌, length, slice_get, Option, Some, None, option_map, codes, decimal}
use Rattle.std.specs.List.{Contains, flat_map}
use Rattle.mpd_text.specs.Answers.Answer.{pair_line}
use Rattle.song_queue.specs.declared.entry.Entry.{Entry}
use Rattle.song_queue.specs.State.{queue_of}
use Rattle.play_order.specs.declared.modes.Single.{Single}
use Rattle.play_order.specs.declared.modes.Single.TheVariants as single
use Rattle.play_order.specs.declared.modes.Consume.{Consume}
use Rattle.play_order.specs.declared.modes.Consume.TheVariants as consume
use Rattle.player_core.specs.declared.state.Playback.{Playback}
use Rattle.player_core.specs.declared.state.Playback.TheVariants.{Stop, Play, Pause}
use Rattle.player_core.specs.Steps.{peek}
use Rattle.player_state.specs.declared.state.Part.{Part}
use Rattle.player_state.specs.declared.state.Library.{Library}
use Rattle.transitions.specs.declared.asked.Asked.{Asked}
use Rattle.transitions.specs.CommandResults.{shows}
use Rattle.status_commands.specs.Status.{status}

-- the values that are shown; some fields are left out at times
pub record Shown : Type 0 where
  pub volume : List ℕ
  pub repeat : List ℕ
  pub random : List ℕ
  pub single : List ℕ
  pub consume : List ℕ
  pub partition : List ℕ
  pub playlist : List ℕ
  pub playlistlength : List ℕ
  pub state : List ℕ
  pub song : Option (List ℕ)
  pub songid : Option (List ℕ)
  pub nextsong : Option (List ℕ)
  pub nextsongid : Option (List ℕ)
  pub time : Option (List ℕ)
  pub elapsed : Option (List ℕ)
  pub duration : Option (List ℕ)
  pub audio : Option (List ℕ)
  pub xfade : Option (List ℕ)
  pub updating_db : Option (List ℕ)
  pub error : Option (List ℕ)

-- a field that is left out has no line
abbrev pub line_if : List ℕ → Option (List ℕ) → List ℕ
line_if name None = []
line_if name (Some value) = pair_line name value

-- the lines, in the order of the fields
abbrev pub lines_of : Shown → List (List ℕ)
lines_of shown =
    pair_line (codes "volume") shown.volume
    ∷ pair_line (codes "repeat") shown.repeat
    ∷ pair_line (codes "random") shown.random
    ∷ pair_line (codes "single") shown.single
    ∷ pair_line (codes "consume") shown.consume
    ∷ pair_line (codes "partition") shown.partition
    ∷ pair_line (codes "playlist") shown.playlist
    ∷ pair_line (codes "playlistlength") shown.playlistlength
    ∷ pair_line (codes "state") shown.state
    ∷ line_if (codes "song") shown.song
    ∷ line_if (codes "songid") shown.songid
    ∷ line_if (codes "nextsong") shown.nextsong
    ∷ line_if (codes "nextsongid") shown.nextsongid
    ∷ line_if (codes "time") shown.time
    ∷ line_if (codes "elapsed") shown.elapsed
    ∷ line_if (codes "duration") shown.duration
    ∷ line_if (codes "audio") shown.audio
    ∷ line_if (codes "xfade") shown.xfade
    ∷ line_if (codes "updating_db") shown.updating_db
    ∷ line_if (codes "error") shown.error
    ∷ []

abbrev pub text_of : Shown → List ℕ
text_of shown = flat_map (λ line. line) (lines_of shown)

-- a mode that is on or off
abbrev pub ShowsFlag : Bool → List ℕ → Type 0
ShowsFlag true text = text ≡ decimal 1
ShowsFlag false text = text ≡ decimal 0

abbrev pub ShowsSingle : Single → List ℕ → Type 0
ShowsSingle single.Off text = text ≡ codes "0"
ShowsSingle single.On text = text ≡ codes "1"
ShowsSingle single.Oneshot text = text ≡ codes "oneshot"

abbrev pub ShowsConsume : Consume → List ℕ → Type 0
ShowsConsume consume.Off text = text ≡ codes "0"
ShowsConsume consume.On text = text ≡ codes "1"
ShowsConsume consume.Oneshot text = text ≡ codes "oneshot"

abbrev pub ShowsState : Playback → List ℕ → Type 0
ShowsState Stop text = text ≡ codes "stop"
ShowsState Play text = text ≡ codes "play"
ShowsState Pause text = text ≡ codes "pause"

-- the position in the queue of the entry that has this id, or that none has it
abbrev pub IsPositionOf : List Entry → ℕ → Option ℕ → Type 0
IsPositionOf entries id None = (entry : Entry) → Contains entries entry → entry.id ≢ id
IsPositionOf entries id (Some position) = (entry : Entry) × (slice_get entries position ≡ Some entry) × (entry.id ≡ id)

-- a song is shown by its position in the queue and its id; no song, and one that is not in the queue, by nothing
abbrev pub ShowsSong : List Entry → Option ℕ → Option (List ℕ) → Option (List ℕ) → Type 0
ShowsSong entries None position_text id_text = (position_text ≡ None) × (id_text ≡ None)
ShowsSong entries (Some id) position_text id_text =
    (position : Option ℕ)
    × IsPositionOf entries id position
    × (position_text ≡ option_map decimal position)
    × (id_text ≡ option_map (λ _. decimal id) position)

-- so many frames in seconds, with three decimals, cut
abbrev pub seconds : ℕ → ℕ → List ℕ
seconds rate frames =
    decimal (frames * 1000 / rate / 1000)
    ++ (codes "." ++ (decimal (frames * 1000 / rate / 100 % 10)
    ++ (decimal (frames * 1000 / rate / 10 % 10) ++ decimal (frames * 1000 / rate % 10))))

-- how long the song is that has this id, in seconds
abbrev pub ShowsLength : ℕ → List Entry → Option ℕ → Option (List ℕ) → Type 0
ShowsLength rate entries None text = text ≡ None
ShowsLength rate entries (Some id) None = (entry : Entry) → Contains entries entry → entry.id ≢ id
ShowsLength rate entries (Some id) (Some text) =
    (entry : Entry) × Contains entries entry × (entry.id ≡ id) × (text ≡ seconds rate entry.song.frames)

-- so many frames in whole seconds, a half up
abbrev pub whole_seconds : ℕ → ℕ → List ℕ
whole_seconds rate frames = decimal ((frames * 1000 / rate + 500) / 1000)

-- how far the song is that has this id, and how long it is, both in whole seconds
abbrev pub ShowsWhole : ℕ → List Entry → ℕ → Option ℕ → Option (List ℕ) → Type 0
ShowsWhole rate entries offset None text = text ≡ None
ShowsWhole rate entries offset (Some id) None = (entry : Entry) → Contains entries entry → entry.id ≢ id
ShowsWhole rate entries offset (Some id) (Some text) =
    (entry : Entry) × Contains entries entry × (entry.id ≡ id)
    × (text ≡ whole_seconds rate offset ++ codes ":" ++ whole_seconds rate entry.song.frames)

-- this is shown of the current song in the everyday profile, and of a player that stands still nothing
abbrev pub ShowsTime : Bool → Playback → ℕ → Part → Option (List ℕ) → Type 0
ShowsTime false playback rate part time = time ≡ None
ShowsTime true Stop rate part time = time ≡ None
ShowsTime true _ rate part time = ShowsWhole rate (queue_of part.queue) part.player.offset part.player.current time

-- how far the current song is, how long it is, and what its frames are; of a player that stands still nothing
abbrev pub ShowsProgress : Playback → ℕ → Part → Option (List ℕ) → Option (List ℕ) → Option (List ℕ) → Type 0
ShowsProgress Stop rate part elapsed duration audio = (elapsed ≡ None) × (duration ≡ None) × (audio ≡ None)
ShowsProgress _ rate part elapsed duration audio =
    (elapsed ≡ Some (seconds rate part.player.offset))
    × ShowsLength rate (queue_of part.queue) part.player.current duration
    × (audio ≡ Some (decimal rate ++ codes ":16:2"))

-- the seconds of a fade, where there are any
abbrev pub ShowsFade : ℕ → Option (List ℕ) → Type 0
ShowsFade seconds None = seconds ≡ 0
ShowsFade seconds (Some text) = (seconds ≢ 0) × (text ≡ decimal seconds)

-- the number of the scan that runs, where one does
abbrev pub ShowsScan : Bool → ℕ → Option (List ℕ) → Type 0
ShowsScan true number text = text ≡ Some (decimal number)
ShowsScan false number text = text ≡ None

-- each field is the player's or the library's
pub record ShowsWorld (everyday : Bool) (part : Part) (library : Library) (shown : Shown) : Type 0 where
  pub volume : shown.volume ≡ decimal part.volume
  pub repeat : ShowsFlag part.player.modes.repeat shown.repeat
  pub random : ShowsFlag part.player.modes.random shown.random
  pub single : ShowsSingle part.player.modes.single shown.single
  pub consume : ShowsConsume part.player.modes.consume shown.consume
  pub partition : shown.partition ≡ part.name
  pub playlist : shown.playlist ≡ decimal part.queue.version
  pub playlistlength : shown.playlistlength ≡ decimal (length (queue_of part.queue))
  pub state : ShowsState part.player.playback shown.state
  pub song : ShowsSong (queue_of part.queue) part.player.current shown.song shown.songid
  -- what the natural end of the current song starts, where no new round is needed
  pub next :
      ShowsSong (queue_of part.queue) (option_map (λ (entry : Entry). entry.id) (peek part.player (queue_of part.queue)))
      shown.nextsong shown.nextsongid
  pub time : ShowsTime everyday part.player.playback library.rate part shown.time
  pub progress : ShowsProgress part.player.playback library.rate part shown.elapsed shown.duration shown.audio
  pub fade : ShowsFade part.player.crossfade shown.xfade
  pub scan : ShowsScan library.scan.runs library.scan.last shown.updating_db
  pub error : shown.error ≡ part.player.error

-- what `status` answers are the lines of such fields, in the everyday profile or without it
abbrev pub StatusShowsWorld : Type 0
StatusShowsWorld =
    (asked : Asked) (everyday : Bool) (part : Part) (library : Library)
    → (shown : Shown) × (status asked part library everyday ≡ shows asked (text_of shown)) × ShowsWorld everyday part library shown
