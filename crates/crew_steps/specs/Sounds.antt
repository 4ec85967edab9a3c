-- What is heard of songs that are open (this profile's).
use Rattle.std.specs.Prelude.{ℕ, ℤ, ◌≡◌, ◌+◌, ◌-◌, ◌==◌, ◌&&◌, ◌||◌, nat_le, not, Bool, true, false, List, [], length, take, drop, min, Option, Some, None, Ok, if◌then◌else◌}
use Rattle.std.specs.Option.{ForSome}
use Rattle.player_core.specs.declared.state.Job.{Job}
use Rattle.player_core.specs.declared.state.FadePart.{FadePart}
use Rattle.wave.specs.declared.head.Head.{Head}
use Rattle.wave.specs.Meanings.{frames_in, wave_in}
use Rattle.wave.specs.Waves.{Wave, wave_of}

-- a song that is open: the partition in whose queue it is, its id there, its file's bytes, where they are known,
-- and the file's head
pub record Opened : Type 0 where
  pub index : ℕ
  pub id : ℕ
  pub known : Option (List ℕ)
  pub head : Head

-- the songs that are open of one partition, at a rate: the current one, and the one that it fades into
pub record OpenSongs : Type 0 where
  pub rate : ℕ
  pub current : Option Opened
  pub partner : Option Opened

-- frames that were read together stand in the file from an offset on
abbrev pub StandFrom : Option (List ℕ) → Head → ℕ → List (List ℤ) → Type 0
StandFrom known head first frames = ForSome known (λ bytes. frames ≡ take (length frames) (drop first (frames_in bytes head)))

-- frames that were read together hold so many from an offset on, or as many as the file has there
abbrev pub Hold : Opened → ℕ → List (List ℤ) → ℕ → ℕ → Type 0
Hold song first frames from count =
    ForSome song.known (λ bytes. take count (drop (from - first) frames) ≡ take count (drop from (frames_in bytes song.head)))

-- whether so many frames that were read together, of which this is the first, hold as many as are asked for from an offset on
abbrev pub holds_all : ℕ → ℕ → ℕ → ℕ → Bool
holds_all first many from count = nat_le first from && nat_le (from - first + count) many

-- these are so many frames of a song from an offset on, or as many as its file has there
abbrev pub AreOf : Opened → ℕ → ℕ → List (List ℤ) → Type 0
AreOf song from count frames = ForSome song.known (λ bytes. frames ≡ take count (drop from (frames_in bytes song.head)))

abbrev pub AreOfSome : Option Opened → ℕ → ℕ → List (List ℤ) → Type 0
AreOfSome None from count frames = ⊥
AreOfSome (Some song) from count frames = AreOf song from count frames

-- a song's head and the frames that lie where it says are what its file means at a rate; no profile changes the
-- frames, and so the tags that are read are those of the base profile
abbrev pub IsMeant : ℕ → Option Opened → Type 0
IsMeant rate opened = ForSome opened (λ song. ForSome song.known (λ bytes. wave_of false rate bytes ≡ Ok (wave_in bytes song.head)))

-- these are so many frames that a file means at a rate, from an offset on, or as many as it has there
abbrev pub MeansFrames : ℕ → List ℕ → ℕ → ℕ → List (List ℤ) → Type 0
MeansFrames rate bytes from count frames = (wave : Wave) × (wave_of false rate bytes ≡ Ok wave) × (frames ≡ take count (drop from wave.frames))

-- the same of the file of a song that is open, where its bytes are known
abbrev pub AreHeard : ℕ → Option Opened → ℕ → ℕ → List (List ℤ) → Type 0
AreHeard rate None from count frames = ⊥
AreHeard rate (Some song) from count frames = ForSome song.known (λ bytes. MeansFrames rate bytes from count frames)

-- whether the song that is open has this id in the queue of a partition
abbrev pub is_song : ℕ → ℕ → Option Opened → Bool
is_song index id None = false
is_song index id (Some song) = (song.index == index) && (song.id == id)

-- the same of either of two songs
abbrev pub is_either : ℕ → ℕ → OpenSongs → Bool
is_either index id songs = is_song index id songs.current || is_song index id songs.partner

-- whether the other song of a fade is open, if there is a fade
abbrev pub is_partner : ℕ → Option FadePart → Option Opened → Bool
is_partner index None partner = true
is_partner index (Some part) partner = is_song index part.partner partner

-- the song in one of the two places
abbrev pub song_at : Bool → OpenSongs → Option Opened
song_at of_partner songs = if of_partner then songs.partner else songs.current

-- the song in the other place is as it was
abbrev pub KeepsOther : Bool → OpenSongs → OpenSongs → Type 0
KeepsOther of_partner old new = song_at (not of_partner) new ≡ song_at (not of_partner) old

-- the songs of a partition's job are open: its own, and the one that it fades into
abbrev pub AreOpenFor : OpenSongs → ℕ → Job → Type 0
AreOpenFor songs index job = (is_song index job.id songs.current ≡ true) × (is_partner index job.fade songs.partner ≡ true)

-- no song is open
abbrev pub AreClosed : OpenSongs → Type 0
AreClosed songs = (songs.current ≡ None) × (songs.partner ≡ None)

-- a song of a partition's job is not open: its own, or the one that it fades into
abbrev pub IsShut : OpenSongs → ℕ → Job → Bool → Type 0
IsShut songs index job false = is_song index job.id songs.current ≡ false
IsShut songs index job true = is_partner index job.fade songs.partner ≡ false

-- as many frames of the other song, from an offset of the fade on; none without a fade
abbrev pub OthersOf : ℕ → Option FadePart → Option Opened → ℕ → List (List ℤ) → Type 0
OthersOf rate None partner count others = others ≡ []
OthersOf rate (Some part) partner count others = (length others ≡ count) × AreHeard rate partner part.index count others

-- What is read for a job: of the current song as many frames as are asked for, from the job's first on, or as
-- many as its file has there; and as many of the other song.
abbrev pub ReadsJob : OpenSongs → Job → List (List ℤ) → List (List ℤ) → Type 0
ReadsJob songs job frames others =
    AreHeard songs.rate songs.current job.from (min job.count 1024) frames × OthersOf songs.rate job.fade songs.partner (length frames) others
