-- Scans that find nothing new.
use Rattle.std.proofs.Common.{◌≡◌, ℕ, Bool, List, ap, if◌then◌else◌}
use Rattle.mpd_text.specs.Songs.Song.{SongData}
use Rattle.player_state.specs.Libraries.{second_after}
use Rattle.player_state.proofs.Songs.{same_songs-refl}

-- where the songs stay, they changed last when they had before
pub second_stays : (songs : List SongData) (second updated : ℕ) → second_after songs songs second updated ≡ updated
second_stays songs second updated = ap (λ (b : Bool). if b then updated else second) (same_songs-refl songs)
