-- The song library (MPD protocol reference, The music database; the order and the limit are this profile's).
use Rattle.std.specs.Prelude.{ℕ, ◌≡◌, ◌<◌, ◌≤◌, Bool, false, ◌==◌, ◌||◌, if◌then◌else◌, List, [], ◌∷◌, length, AllPairs, Option, find, vec_len}
use Rattle.std.specs.Global.{Vec}
use Rattle.std.specs.List.{list_any}
use Rattle.std.specs.Ordering.{is_lt, nat_cmp}
use Rattle.std.specs.Cmp.Lexicographic.{slice_cmp}
use Rattle.std.specs.declared.cmp.Ordering.{Ordering}
use Rattle.std.specs.declared.cmp.Ordering.TheVariants.{Less}
use lib.Pointwise.{pointwise}
use Rattle.mpd_text.specs.Songs.Song.{SongData}

-- whether two URIs are one, byte by byte
abbrev pub same_uri : List ℕ → List ℕ → Bool
same_uri = pointwise ◌==◌

-- whether two of the songs have one URI
abbrev pub is_twice_named : List SongData → Bool
is_twice_named [] = false
is_twice_named (song ∷ songs) = list_any (λ other. same_uri song.uri other.uri) songs || is_twice_named songs

-- whether two songs side by side have one URI
abbrev pub are_twins_beside : List SongData → Bool
are_twins_beside [] = false
are_twins_beside (a ∷ []) = false
are_twins_beside (a ∷ b ∷ songs) = same_uri a.uri b.uri || are_twins_beside (b ∷ songs)

-- the songs are more than a library has, and no two have one URI
abbrev pub AreTooMany : Vec SongData → Type 0
AreTooMany songs = (is_twice_named songs.items ≡ false) × (100000 < vec_len songs)

-- the order of two songs: by the bytes of their URIs
abbrev pub by_uri : SongData → SongData → Ordering
by_uri a b = slice_cmp nat_cmp a.uri b.uri

-- each song is before all that follow it, so no two have one URI
abbrev pub InByteOrder : List SongData → Type 0
InByteOrder songs = AllPairs (λ a b. by_uri a b ≡ Less) songs

-- songs in byte order with one more put where it belongs
abbrev pub with_song : SongData → List SongData → List SongData
with_song song [] = song ∷ []
with_song song (first ∷ rest) = if is_lt (by_uri first song) then first ∷ with_song song rest else song ∷ first ∷ rest

-- the songs in byte order of their URIs
abbrev pub in_byte_order : List SongData → List SongData
in_byte_order [] = []
in_byte_order (song ∷ songs) = with_song song (in_byte_order songs)

-- the song with a URI
abbrev pub song_of : List SongData → List ℕ → Option SongData
song_of songs uri = find (λ song. same_uri song.uri uri) songs

-- what is true of each library
pub record IsLibrary (songs : List SongData) : Type 0 where
  pub order : InByteOrder songs
  pub few : length songs ≤ 100000
