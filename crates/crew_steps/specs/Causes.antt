-- Why a song of a job has failed (this profile's).
use Rattle.std.specs.Prelude.{ℕ, ℤ, ◌≡◌, ◌⊎◌, Bool, true, false, List, length, min, Option, Some, None, Result, Ok, Err}
use Rattle.std.specs.Option.{ForSome}
use Rattle.counted_devices.specs.CallCounts.{HasFailed}
use Rattle.counted_devices.specs.declared.call_counts.CallCounts.{CallCounts}
use Rattle.house.specs.Counts.{IsSongSomewhere}
use Rattle.mpd_text.specs.Songs.Song.{SongData}
use Rattle.player_core.specs.declared.state.FadePart.{FadePart}
use Rattle.player_core.specs.declared.state.Job.{Job}
use Rattle.wave.specs.Devices.{CalledTooOften}
use Rattle.wave.specs.Waves.{wave_of}
use Rattle.wave.specs.declared.fault.WaveFault.{WaveFault}
use Rattle.wave.specs.declared.fault.WaveFault.TheVariants as wave
use Rattle.crew_steps.specs.Songs.{IsShort}
use Rattle.crew_steps.specs.Sounds.{AreHeard, AreOpenFor, OpenSongs, Opened}
use Rattle.crew_steps.specs.declared.song_source.SongFault.{SongFault}
use Rattle.crew_steps.specs.declared.song_source.SongFault.TheVariants.{Unopened}
use Rattle.crew_steps.specs.declared.songs.NoFrames.{NoFrames}
use Rattle.crew_steps.specs.declared.songs.NoFrames.TheVariants.{NoMemory, Failed}

-- the other song of a job has fewer frames than its own has for the job
abbrev pub IsShortFor : OpenSongs → Job → Type 0
IsShortFor songs job =
    (frames : List (List ℤ)) × AreHeard songs.rate songs.current job.from (min job.count 1024) frames
    × IsShort songs.rate job.fade songs.partner (length frames)

-- why a job has no frames: for lack of memory, or since one of its songs has failed, for one of these causes
abbrev pub EndsFor : (ℕ → Job → Bool → Type 0) → ℕ → Job → NoFrames → Type 0
EndsFor cause index job NoMemory = Unit {0}
EndsFor cause index job (Failed of_partner) = cause index job of_partner

-- Files are had of a source, of which is known what it answers of a URI; of a file are known its bytes, if they are,
-- and how its calls ended.
module _ {M : Type 0} (bytes : M → Option (List ℕ)) (counts : M → CallCounts) where
  -- a call of the file failed meanwhile, or it was called too often
  abbrev pub Breaks : M → M → Type 0
  Breaks file later = HasFailed (counts file) (counts later) ⊎ CalledTooOften (counts file) (counts later)

  -- A file is none that can be played at a rate: it broke as its head was read, or its bytes, where they are known, mean
  -- this very fault.
  abbrev pub RefusesHead : ℕ → M → WaveFault → Type 0
  RefusesHead rate file wave.NoMemory = ⊥
  RefusesHead rate file wave.ReadFault = (later : M) × Breaks file later
  RefusesHead rate file fault = ForSome (bytes file) (λ all. wave_of false rate all ≡ Err fault)

  -- the song that is open is of a file, of which the same bytes are known
  abbrev pub IsOfFile : Option Opened → Type 0
  IsOfFile None = Unit {0}
  IsOfFile (Some song) = (file : M) × (song.known ≡ bytes file)

  -- the file of a song broke as it was read; one that is not open has failed
  abbrev pub BreaksOff : Option Opened → Type 0
  BreaksOff None = Unit {0}
  BreaksOff (Some song) = (file : M) × (later : M) × (song.known ≡ bytes file) × Breaks file later

  -- One of two songs that are open failed as the frames of a job were read, the job's own or the one that it fades into:
  -- its file broke, or the other is too short.
  abbrev pub FailsAsRead : OpenSongs → Job → Bool → Type 0
  FailsAsRead songs job false = BreaksOff songs.current
  FailsAsRead songs job true = BreaksOff songs.partner ⊎ IsShortFor songs job

  -- why a job has no frames whose songs are open: for lack of memory, or since one of them failed as it was read
  abbrev pub EndsReading : OpenSongs → Job → NoFrames → Type 0
  EndsReading songs job NoMemory = Unit {0}
  EndsReading songs job (Failed of_partner) = FailsAsRead songs job of_partner

module _ {S M : Type 0} (answers : S → List ℕ → Result M SongFault → Type 0) (bytes : M → Option (List ℕ)) (counts : M → CallCounts) where
  -- the file of a URI is not had at a rate: a source answered that it cannot be opened, or the file is none that can
  -- be played
  abbrev pub IsNotHad : ℕ → List ℕ → Type 0
  IsNotHad rate uri =
      ((source : S) × answers source uri (Err Unopened))
      ⊎ ((source : S) × (file : M) × (fault : WaveFault) × answers source uri (Ok file) × RefusesHead bytes counts rate file fault)

  -- the song of an id is not in the queue of the partition of a number, or its file is not had
  abbrev pub IsNotOpened : ℕ → ℕ → ℕ → Type 0
  IsNotOpened rate index id =
      IsSongSomewhere index id None ⊎ ((song : SongData) × IsSongSomewhere index id (Some song) × IsNotHad rate song.uri)

  -- the same of the song that a job fades into, which it does
  abbrev pub PartnerIsNotOpened : ℕ → ℕ → Option FadePart → Type 0
  PartnerIsNotOpened rate index None = ⊥
  PartnerIsNotOpened rate index (Some part) = IsNotOpened rate index part.partner

  -- the same of a song of a job: its own, or the one that it fades into
  abbrev pub IsNotOpenedFor : ℕ → ℕ → Job → Bool → Type 0
  IsNotOpenedFor rate index job false = IsNotOpened rate index job.id
  IsNotOpenedFor rate index job true = PartnerIsNotOpened rate index job.fade

  -- the songs of a job were open, each of a file, and this one failed as the job's frames were read
  abbrev pub IsNotRead : ℕ → ℕ → Job → Bool → Type 0
  IsNotRead rate index job of_partner =
      (songs : OpenSongs) × (songs.rate ≡ rate) × AreOpenFor songs index job × IsOfFile bytes counts songs.current
      × IsOfFile bytes counts songs.partner × FailsAsRead bytes counts songs job of_partner

  -- Why a song of a partition's job has failed, its own or the one that it fades into: it could not be opened, or it
  -- failed as it was read.
  abbrev pub HasCause : ℕ → ℕ → Job → Bool → Type 0
  HasCause rate index job of_partner = IsNotOpenedFor rate index job of_partner ⊎ IsNotRead rate index job of_partner
