-- What contracts see of a song that is open.
use Rattle.std.specs.Prelude.{ℕ, ℤ, ◌≡◌, ◌⊎◌, ◌-◌, All, List, Option, Some, None, drop, take}
use Rattle.std.specs.Global.{Vec}
use Rattle.std.specs.declared.io.traits.Read as Read
use Rattle.counted_devices.specs.CallCounts.{HasFailed}
use Rattle.counted_devices.specs.declared.call_counts.CallCounts.{CallCounts}
use Rattle.counted_devices.specs.declared.device.Failing as Failing
use Rattle.counted_devices.specs.declared.device.Media as Media
use Rattle.wave.specs.Devices.{CalledTooOften}
use Rattle.wave.specs.declared.fault.WaveFault.{WaveFault}
use Rattle.wave.specs.declared.fault.WaveFault.TheVariants.{NoMemory, ReadFault}
use Rattle.crew_steps.specs.Sounds.{AreOf, AreOfSome, Hold, IsMeant, Opened}
use Rattle.crew_steps.specs.declared.part_songs.PartSongs.{PartSongs}
use Rattle.crew_steps.specs.declared.open_song.OpenSong.{OpenSong}

-- no file is to blame but by its calls: one failed, or there was no memory
abbrev pub IsOfCalls : WaveFault → Type 0
IsOfCalls fault = (fault ≡ ReadFault) ⊎ (fault ≡ NoMemory)

-- of frames that were read together, of which this is the first, those from an offset on, as many as are asked for
abbrev pub AreFrom : ℕ → List (List ℤ) → ℕ → ℕ → Vec (List ℤ) → Type 0
AreFrom first frames from count own = own.items ≡ take count (drop (from - first) frames)

module _ {M : Type 0} {media : Media.Ghosts M} {read : Read.Ghosts M} {failing : Failing.Ghosts M} where
  abbrev pub opened : OpenSong M media read failing → Opened
  opened song = record { index = song.index; id = song.id; known = media.all_bytes song.reader.media; head = song.reader.head }

  abbrev pub opened_in : Option (OpenSong M media read failing) → Option Opened
  opened_in None = None
  opened_in (Some song) = Some (opened song)

  -- these are so many frames of a song from an offset on, or as many as its file has there
  abbrev pub AreFramesOf : OpenSong M media read failing → ℕ → ℕ → Vec (List ℤ) → Type 0
  AreFramesOf song from count frames = AreOf (opened song) from count frames.items

  -- the same of a song that is open
  abbrev pub AreFramesIn : Option (OpenSong M media read failing) → ℕ → ℕ → Vec (List ℤ) → Type 0
  AreFramesIn song from count frames = AreOfSome (opened_in song) from count frames.items

  -- what was read together of a song holds so many frames from an offset on, or as many as its file has there
  abbrev pub HoldsOf : OpenSong M media read failing → OpenSong M media read failing → ℕ → ℕ → Type 0
  HoldsOf song now from count = Hold (opened song) now.first now.frames.items from count

  -- no song is open of a partition
  abbrev pub AreNone : PartSongs M media read failing → Type 0
  AreNone songs = (songs.current ≡ None) × (songs.partner ≡ None)

  -- the songs of a partition have frames and heads that are what their files mean at a rate
  abbrev pub AreMeant : ℕ → PartSongs M media read failing → Type 0
  AreMeant rate songs = IsMeant rate (opened_in songs.current) × IsMeant rate (opened_in songs.partner)

  -- where all are so before, all are so after
  abbrev pub StayMeant : List (PartSongs M media read failing) → List (PartSongs M media read failing) → Type 0
  StayMeant old new = (rate : ℕ) → All (AreMeant rate) old → All (AreMeant rate) new

  -- the same, where songs were put to the others and some were taken out
  abbrev pub ExchangesMeant : List (PartSongs M media read failing) → PartSongs M media read failing → List (PartSongs M media read failing) → PartSongs M media read failing → Type 0
  ExchangesMeant old left new taken = (rate : ℕ) → All (AreMeant rate) old → AreMeant rate left → All (AreMeant rate) new × AreMeant rate taken

  -- how the calls of its file ended so far
  abbrev pub calls_of : OpenSong M media read failing → CallCounts
  calls_of song = failing.call_counts song.reader.media

  -- a song that is not open has failed; another where its file failed since, or was called too often
  abbrev pub HasFault : Option (OpenSong M media read failing) → Option (OpenSong M media read failing) → Type 0
  HasFault None new = Unit {0}
  HasFault (Some old) None = ⊥
  HasFault (Some old) (Some new) = HasFailed (calls_of old) (calls_of new) ⊎ CalledTooOften (calls_of old) (calls_of new)
