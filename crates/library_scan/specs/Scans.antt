-- What a scan finds (this profile's).
use Rattle.std.specs.Prelude.{◌≡◌, ◌<◌, ℕ, List, AllPairs, IsTrue}
use Rattle.std.specs.List.{Any, Contains}
use Rattle.std.specs.Ordering.{nat_cmp}
use Rattle.std.specs.Cmp.Lexicographic.{slice_cmp}
use Rattle.std.specs.declared.cmp.Ordering.{Ordering}
use Rattle.std.specs.declared.cmp.Ordering.TheVariants.{Less}
use Rattle.mpd_text.specs.Songs.Song.{SongData}
use Rattle.library_scan.specs.declared.scanned.Refused.{Refused}
use Rattle.library_scan.specs.Steps.{is_song_uri}

-- a song that a scan may find
pub record IsFound (song : SongData) : Type 0 where
  pub uri : IsTrue (is_song_uri song.uri)
  pub frames : 0 < song.frames

-- of each that was there one with its URI is kept
abbrev pub KeepsEachUri : {X : Type 0} → (X → List ℕ) → List X → List X → Type 0
KeepsEachUri {X} uri old new = (x : X) → Contains old x → Any (λ kept. uri kept ≡ uri x) new

-- the order of two refused files: by the bytes of their URIs
abbrev pub refused_by_uri : Refused → Refused → Ordering
refused_by_uri a b = slice_cmp nat_cmp a.uri b.uri

-- each is before all that follow it, so no two have one URI
abbrev pub RefusedInOrder : List Refused → Type 0
RefusedInOrder refused = AllPairs (λ a b. refused_by_uri a b ≡ Less) refused
