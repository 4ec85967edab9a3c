-- Songs in the order of a tag (MPD protocol reference, The music database: `sort`; that tracks and discs go by
-- numbers, and that songs that tie keep their order, is this profile's).
use Rattle.std.specs.Prelude.{ℕ, ◌≡◌, ◌==◌, Bool, true, false, List, map, reverse, nat_eq, Option, Some, IsPermutation, if◌then◌else◌}
use Rattle.std.specs.List.{filter, flat_map}
use Rattle.std.specs.List.Sorted.{IsSorted}
use Rattle.std.specs.FinMap.{keys, from_entries}
use Rattle.std.specs.Ordering.{nat_cmp}
use Rattle.std.specs.declared.cmp.Ordering.{Ordering}
use Rattle.std.specs.declared.cmp.Ordering.TheVariants.{Less, Greater}
use lib.Pointwise.{pointwise}
use Rattle.mpd_text.specs.Songs.Song.{SongData}
use Rattle.mpd_text.specs.declared.songs.song.TagName.{TagName}
use Rattle.mpd_text.specs.declared.songs.song.TagName.TheVariants.{Track, Disc}
use Rattle.mpd_text.specs.Texts.{by_bytes}
use Rattle.song_groups.specs.Columns.{text_in}
use Rattle.song_groups.specs.Numbers.{leading_number}

-- what a song is sorted by: a text, or a number
pub data Key : Type 0 where
  Text : List ℕ → Key
  Number : ℕ → Key

-- the order of two keys: of texts by their bytes. The keys of one tag are all texts, or all numbers; of both
-- the numbers come first
abbrev pub by_keys : Key → Key → Ordering
by_keys (Text a) (Text b) = by_bytes a b
by_keys (Text a) (Number n) = Greater
by_keys (Number m) (Text b) = Less
by_keys (Number m) (Number n) = nat_cmp m n

abbrev pub same_key : Key → Key → Bool
same_key (Text a) (Text b) = pointwise nat_eq a b
same_key (Text a) (Number n) = false
same_key (Number m) (Text b) = false
same_key (Number m) (Number n) = m == n

-- whether songs go by the numbers that the texts of a tag begin with
abbrev pub goes_by_number : Option TagName → Bool
goes_by_number (Some Track) = true
goes_by_number (Some Disc) = true
goes_by_number _ = false

abbrev pub text_key : Option TagName → SongData → Key
text_key column song = Text (text_in column song)

abbrev pub number_key : Option TagName → SongData → Key
number_key column song = Number (leading_number (text_in column song))

-- what a song is sorted by in the order of a tag
unfoldable pub sort_key : Option TagName → SongData → Key
sort_key by = if goes_by_number by then number_key by else text_key by

-- the order of two songs: from the lowest key or, where they fall, from the highest
abbrev pub in_order : (SongData → Key) → Bool → SongData → SongData → Ordering
in_order key false a b = by_keys (key a) (key b)
in_order key true a b = by_keys (key b) (key a)

-- the songs that have a key, in the order that they have
abbrev pub with_key : (SongData → Key) → Key → List SongData → List SongData
with_key key its songs = filter (λ song. same_key (key song) its) songs

-- a key of songs as a key of a map, with nothing at it
abbrev pub entry_of : Key → Key × Unit {0}
entry_of key = (key, tt)

-- the keys that stand in a list, in their order and each once: those of the finite map that has each
unfoldable pub ascending_keys : List Key → List Key
ascending_keys given = keys (from_entries {R = by_keys} (map entry_of given))

-- keys in the order in which they come, where they rise or fall
abbrev pub in_direction : Bool → List Key → List Key
in_direction false keys = keys
in_direction true keys = reverse keys

-- the songs of the first key, those of the next, and so on: of each key in the order that they have
abbrev pub ordered_by : (SongData → Key) → Bool → List SongData → List SongData
ordered_by key falling songs = flat_map (λ its. with_key key its songs) (in_direction falling (ascending_keys (map key songs)))

-- the same, where the keys are those of a tag
abbrev pub ordered : Option TagName → Bool → List SongData → List SongData
ordered by falling songs = ordered_by (sort_key by) falling songs

-- a list has the songs of another by their keys, and songs of one key in the order that they had
pub record IsStablyOrderedBy (key : SongData → Key) (falling : Bool) (songs sorted : List SongData) : Type 0 where
  pub permutation : IsPermutation songs sorted
  pub order : IsSorted (in_order key falling) sorted
  pub ties : (song : SongData) → with_key key (key song) sorted ≡ with_key key (key song) songs

-- so it is by the keys of a tag
abbrev pub IsStablyOrdered : Option TagName → Bool → List SongData → List SongData → Type 0
IsStablyOrdered by falling songs sorted = IsStablyOrderedBy (sort_key by) falling songs sorted

-- what is so ordered is that list
abbrev pub HasOneOrder : Option TagName → Bool → List SongData → Type 0
HasOneOrder by falling songs = (sorted : List SongData) → IsStablyOrdered by falling songs sorted → sorted ≡ ordered by falling songs
