-- The tuples of texts that songs have, and their lines (MPD protocol reference, The music database: `list`
-- with `group`; the order of the tuples is this profile's).
use Rattle.std.specs.Prelude.{ℕ, ◌≡◌, ◌≢◌, ◌↔◌, ◌⊎◌, ◌+◌, ◌-◌, ◌<◌, ◌≤◌, min, Bool, false, IsTrue, nat_eq, nat_lt, List, [], ◌∷◌, ◌++◌, length, map, take, drop, Option}
use Rattle.std.specs.Global.{Vec}
use Rattle.std.specs.List.{filter, common_prefix_len, list_any, Contains}
use Rattle.std.specs.Ordering.{eq_by_cmp}
use Rattle.std.specs.List.Sorted.{IsStrictlySortedBy}
use Rattle.std.specs.FinMap.{keys, from_entries}
use Rattle.std.specs.Cmp.Lexicographic.{slice_cmp}
use Rattle.std.specs.declared.cmp.Ordering.{Ordering}
use denote.Ref.{Bor}
use lib.Pointwise.{pointwise}
use Rattle.mpd_text.specs.Answers.Answer.{pair_line}
use Rattle.mpd_text.specs.Songs.Song.{SongData}
use Rattle.mpd_text.specs.declared.songs.song.TagName.{TagName}
use Rattle.mpd_text.specs.Texts.{by_bytes, values_now}
use Rattle.song_groups.specs.Columns.{text_in}

-- what a song has in each column
abbrev pub tuple_of : List (Option TagName) → SongData → List (List ℕ)
tuple_of columns song = map (λ column. text_in column song) columns

-- whether the last text of a tuple is there and not empty
abbrev pub has_last : List (List ℕ) → Bool
has_last [] = false
has_last (text ∷ []) = nat_lt 0 (length text)
has_last (text ∷ next ∷ texts) = has_last (next ∷ texts)

-- the tuples of some songs whose last text is not empty, song by song
abbrev pub listed_tuples : List (Option TagName) → List SongData → List (List (List ℕ))
listed_tuples columns songs = filter has_last (map (tuple_of columns) songs)

-- the order of two tuples: by the bytes of their first texts, of those that are one by the next, and so on
abbrev pub by_texts : List (List ℕ) → List (List ℕ) → Ordering
by_texts = slice_cmp by_bytes

-- a tuple as a key, with nothing at it
abbrev pub key_of : List (List ℕ) → List (List ℕ) × Unit {0}
key_of tuple = (tuple, tt)

-- the tuples that stand in a list, in that order and each once: the keys of the finite map that has a key for
-- each
unfoldable pub ascending_tuples : List (List (List ℕ)) → List (List (List ℕ))
ascending_tuples tuples = keys (from_entries {R = slice_cmp by_bytes} (map key_of tuples))

-- whether a tuple stands in a list
abbrev pub stands_in : List (List ℕ) → List (List (List ℕ)) → Bool
stands_in tuple tuples = list_any (eq_by_cmp by_texts tuple) tuples

-- two lists have the same tuples, in whatever order and however often
abbrev pub HaveTheSame : List (List (List ℕ)) → List (List (List ℕ)) → Type 0
HaveTheSame tuples others = (tuple : List (List ℕ)) → stands_in tuple tuples ≡ stands_in tuple others

-- what tuples are in memory
abbrev pub tuples_now : List (Vec (Bor (List ℕ))) → List (List (List ℕ))
tuples_now tuples = map (λ tuple. values_now tuple.items) tuples

-- what is in memory has the tuples of some songs whose last text is not empty
abbrev pub AreTuplesOf : List (Vec (Bor (List ℕ))) → List (Option TagName) → List SongData → Type 0
AreTuplesOf tuples columns songs = HaveTheSame (tuples_now tuples) (listed_tuples columns songs)

-- the distinct tuples of some songs whose last text is not empty, in their order
abbrev pub tuples : List (Option TagName) → List SongData → List (List (List ℕ))
tuples columns songs = ascending_tuples (listed_tuples columns songs)

-- each tuple of an answer is before all that follow it
abbrev pub TuplesRise : List (Option TagName) → List SongData → Type 0
TuplesRise columns songs = IsStrictlySortedBy by_texts (tuples columns songs)

-- a tuple stands in an answer where a song has it, and its last text is not empty
abbrev pub StandsIfASongs : List (Option TagName) → List SongData → Type 0
StandsIfASongs columns songs = (tuple : List (List ℕ))
    → Contains (tuples columns songs) tuple ↔ (Contains (map (tuple_of columns) songs) tuple × IsTrue (has_last tuple))

-- in how many columns from the left a tuple has no line: it is the tuple before it there. The last has its
-- line always
abbrev pub unchanged : List (List ℕ) → List (List ℕ) → ℕ
unchanged before tuple = min (common_prefix_len (pointwise nat_eq) before tuple) (length tuple - 1)

-- a line for each text, under its label
abbrev pub labelled : List (List ℕ) → List (List ℕ) → List ℕ
labelled [] texts = []
labelled (label ∷ labels) [] = []
labelled (label ∷ labels) (text ∷ texts) = pair_line label text ++ labelled labels texts

-- the lines of a tuple after another
abbrev pub tuple_lines : List (List ℕ) → List (List ℕ) → List (List ℕ) → List ℕ
tuple_lines labels before tuple = labelled (drop (unchanged before tuple) labels) (drop (unchanged before tuple) tuple)

-- the lines of tuples after another, each after the one before it
abbrev pub lines_after : List (List ℕ) → List (List ℕ) → List (List (List ℕ)) → List ℕ
lines_after labels before [] = []
lines_after labels before (tuple ∷ tuples) = tuple_lines labels before tuple ++ lines_after labels tuple tuples

-- the lines of tuples; before the first one there is none, and all its columns have lines
abbrev pub lines_of_tuples : List (List ℕ) → List (List (List ℕ)) → List ℕ
lines_of_tuples labels tuples = lines_after labels [] tuples

-- a column of a tuple has a line where the tuple, up to there, is not the one before it; the last one always
abbrev pub HasLineIfChanged : List (List ℕ) → List (List ℕ) → ℕ → Type 0
HasLineIfChanged before tuple column = column < length tuple
    → (unchanged before tuple ≤ column) ↔ ((take (column + 1) before ≢ take (column + 1) tuple) ⊎ (column + 1 ≡ length tuple))

-- these lines, of what is in memory
abbrev pub tuple_lines_now : List (Bor (List ℕ)) → List (Bor (List ℕ)) → List (Bor (List ℕ)) → List ℕ
tuple_lines_now labels before tuple = tuple_lines (values_now labels) (values_now before) (values_now tuple)

abbrev pub lines_after_now : List (Bor (List ℕ)) → List (Bor (List ℕ)) → List (Vec (Bor (List ℕ))) → List ℕ
lines_after_now labels before tuples = lines_after (values_now labels) (values_now before) (tuples_now tuples)
