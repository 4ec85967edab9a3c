-- What contracts see of the songs that are being decoded.
use Rattle.std.specs.Prelude.{ℕ, ◌≡◌, ◌⊎◌, ◌≤◌, Bool, true, List, Option, Result, Err}
use Rattle.std.specs.declared.io.traits.Read as Read
use Rattle.counted_devices.specs.declared.device.Failing as Failing
use Rattle.counted_devices.specs.declared.device.Media as Media
use Rattle.player_core.specs.declared.state.FadePart.{FadePart}
use Rattle.player_core.specs.declared.state.Job.{Job}
use Rattle.crew_steps.specs.Causes.{EndsReading, HasCause, IsNotHad}
use Rattle.crew_steps.specs.OpenSongs.{HasFault, opened_in}
use Rattle.crew_steps.specs.Songs.{IsShort}
use Rattle.crew_steps.specs.Sounds.{OpenSongs, ReadsJob}
use Rattle.crew_steps.specs.declared.song_source.SongSource as SongSource
use Rattle.crew_steps.specs.declared.songs.JobFrames.{JobFrames}
use Rattle.crew_steps.specs.declared.songs.NoFrames.{NoFrames}
use Rattle.crew_steps.specs.declared.songs.NoFrames.TheVariants.{Failed}
use Rattle.crew_steps.specs.declared.songs.Songs.{Songs}

-- this was read for a job of songs that are open
abbrev pub IsReadFor : OpenSongs → Job → JobFrames → Type 0
IsReadFor songs job got = ReadsJob songs job got.frames.items got.others.items

module _ {S M : Type 0} {source : SongSource.Ghosts S M} {media : Media.Ghosts M} {read : Read.Ghosts M} {failing : Failing.Ghosts M} where
  abbrev pub songs_of : Songs S M source media read failing → OpenSongs
  songs_of songs = record { rate = songs.rate; current = opened_in songs.current; partner = opened_in songs.partner }

  -- why songs that are open have no frames for a job
  abbrev pub EndsReadingOf : Songs S M source media read failing → Job → NoFrames → Type 0
  EndsReadingOf songs job fault = EndsReading media.all_bytes failing.call_counts (songs_of songs) job fault

  -- where the song that is faded into has failed, its file has, or it has fewer frames than so many
  abbrev pub OthersHaveCause : {X : Type 0} → Option FadePart → ℕ → Songs S M source media read failing → Songs S M source media read failing → Result X NoFrames → Type 0
  OthersHaveCause fade count old new result =
      count ≤ 8192 → result ≡ Err (Failed true) → HasFault old.partner new.partner ⊎ IsShort old.rate fade (opened_in old.partner) count

  -- the file of a URI is not had of the source of the songs, at their rate
  abbrev pub IsNotHadBy : Songs S M source media read failing → List ℕ → Type 0
  IsNotHadBy songs uri = IsNotHad source.answers media.all_bytes failing.call_counts songs.rate uri

  -- the causes that a song of a partition's job may have failed for
  abbrev pub causes : Songs S M source media read failing → ℕ → Job → Bool → Type 0
  causes songs = HasCause source.answers media.all_bytes failing.call_counts songs.rate
