-- Songs that are not open.
use Rattle.std.proofs.Common.{◌≡◌, ℕ, Option, Some, None, sym, subst}
use Rattle.std.specs.declared.io.traits.Read as Read
use Rattle.counted_devices.specs.declared.device.Failing as Failing
use Rattle.counted_devices.specs.declared.device.Media as Media
use Rattle.crew_steps.specs.OpenSongs.{AreMeant, opened_in}
use Rattle.crew_steps.specs.Sounds.{IsMeant, Opened}
use Rattle.crew_steps.specs.declared.open_song.OpenSong.{OpenSong}
use Rattle.crew_steps.specs.declared.part_songs.PartSongs.{PartSongs}

apart : (song : Opened) → None ≡ Some song → ⊥
apart song h = cc

pub no_song : (rate : ℕ) → IsMeant rate None
no_song rate = λ song is. absurd (apart song is)

module _ {M : Type 0} {media : Media.Ghosts M} {read : Read.Ghosts M} {failing : Failing.Ghosts M} where
  -- a song that is what it was before
  pub same_meant : (rate : ℕ) (was song : Option (OpenSong M media read failing)) → song ≡ was → IsMeant rate (opened_in was) → IsMeant rate (opened_in song)
  same_meant rate was song is meant = subst (λ (s : Option (OpenSong M media read failing)). IsMeant rate (opened_in s)) (sym is) meant

  pub none_meant : (rate : ℕ) (songs : PartSongs M media read failing) → (songs.current ≡ None) × (songs.partner ≡ None) → AreMeant rate songs
  none_meant rate songs h = (same_meant rate None songs.current h.0 (no_song rate), same_meant rate None songs.partner h.1 (no_song rate))
