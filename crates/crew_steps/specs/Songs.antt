-- Why a job has no frames.
use Rattle.std.specs.Prelude.{ℕ, ℤ, ◌≡◌, ◌<◌, ◌⊎◌, Bool, List, length, Option, Some, None, Result, Ok, Err}
use Rattle.std.specs.Global.{Vec}
use Rattle.player_core.specs.declared.state.Job.{Job}
use Rattle.player_core.specs.declared.state.FadePart.{FadePart}
use Rattle.wave.specs.declared.fault.WaveFault.{WaveFault}
use Rattle.wave.specs.declared.fault.WaveFault.TheVariants as wave
use Rattle.crew_steps.specs.Sounds.{AreHeard, IsShut, OpenSongs, Opened, OthersOf}
use Rattle.crew_steps.specs.declared.song_source.SongFault.{SongFault}
use Rattle.crew_steps.specs.declared.song_source.SongFault.TheVariants as song
use Rattle.crew_steps.specs.declared.songs.NoFrames.{NoFrames}
use Rattle.crew_steps.specs.declared.songs.NoFrames.TheVariants.{NoMemory, Failed}

-- for lack of memory, or since this song has failed: the job's own, or the one that it fades into
abbrev pub IsFaultOf : Bool → NoFrames → Type 0
IsFaultOf of_partner fault = (fault ≡ NoMemory) ⊎ (fault ≡ Failed of_partner)

-- what holds where this song has failed: the job's own, or the one that it fades into
abbrev pub IfFailed : {X : Type 0} → Bool → Result X NoFrames → Type 0 → Type 0
IfFailed of_partner result P = result ≡ Err (Failed of_partner) → P

-- a file whose head is refused cannot be played, and only without memory it may be later
abbrev pub head_fault : WaveFault → SongFault
head_fault wave.NoMemory = song.NoMemory
head_fault _ = song.Unopened

-- a song whose file is not had has failed, and only without memory nothing is known of it
abbrev pub frames_fault : SongFault → Bool → NoFrames
frames_fault song.NoMemory of_partner = NoMemory
frames_fault song.Unopened of_partner = Failed of_partner

-- the song of an entry that the house looked for: one that is not in the queue any more has failed, and only without
-- memory nothing is known of it
abbrev pub found_song : {S E : Type 0} → Result (Option S) E → Bool → Result S NoFrames
found_song (Ok (Some song)) of_partner = Ok song
found_song (Ok None) of_partner = Err (Failed of_partner)
found_song (Err fault) of_partner = Err NoMemory

-- as many frames of the song that is faded into, if there is a fade
abbrev pub AreOthersOf : OpenSongs → Option FadePart → ℕ → Vec (List ℤ) → Type 0
AreOthersOf songs fade count others = OthersOf songs.rate fade songs.partner count others.items

-- a song of the job that has failed is not open any more
abbrev pub Fails : OpenSongs → ℕ → Job → NoFrames → Type 0
Fails songs index job NoMemory = Unit {0}
Fails songs index job (Failed of_partner) = IsShut songs index job of_partner

-- the other song has fewer frames than so many, from an offset of the fade on
abbrev pub IsShort : ℕ → Option FadePart → Option Opened → ℕ → Type 0
IsShort rate None partner count = ⊥
IsShort rate (Some part) partner count = (others : List (List ℤ)) × AreHeard rate partner part.index count others × (length others < count)
