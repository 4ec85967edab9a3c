-- What `list` and `count` ask for (MPD protocol reference, The music database; that the groups are read from
-- the right, and which fault is told first, are this profile's).
use Rattle.std.specs.Prelude.{◌≡◌, ◌≢◌, ℕ, ◌+◌, Bool, true, false, ◌&&◌, not, List, [], ◌∷◌, ◌++◌, length, reverse, take, drop, Option, Some, None, Result, Ok, Err, if◌then◌else◌, codes}
use Rattle.std.specs.List.{list_any, AllPairs}
use Rattle.std.specs.Str.{bytes_eq}
use Rattle.filters.specs.declared.expression.Test.TheVariants.{Equals}
use Rattle.filters.specs.declared.words.Vocabulary.TheVariants.{Base, Known}
use Rattle.known_tags.specs.KnownTags.{tag_of, text_of}
use Rattle.known_tags.specs.declared.known_tag.KnownTag.{KnownTag}
use Rattle.known_tags.specs.declared.known_tag.KnownTag.TheVariants as known
use Rattle.known_tags.specs.declared.known_tag.KnownTag.TheVariants.{Album}
use Rattle.mpd_text.specs.declared.songs.song.TagName.{TagName}
use Rattle.mpd_text.specs.declared.songs.song.TagName.TheVariants as base
use Rattle.command_arguments.specs.Forms.{tag_of as base_tag_of}
use Rattle.command_arguments.specs.Readers.{map_ok, argument_of, both}
use Rattle.command_arguments.specs.Criteria.{filter_of, is_alone, one_filter_of, perhaps_filter_of}
use Rattle.command_arguments.specs.declared.readers.Misread.{Misread}
use Rattle.command_arguments.specs.declared.readers.Misread.TheVariants.{WrongNumber, Bad}
use Rattle.command_arguments.specs.declared.criteria.Criteria.{Criteria}
use Rattle.selections.specs.Options.{before, option_words, option_of}
use Rattle.selections.specs.declared.asked.Counting.{Counting}
use Rattle.selections.specs.declared.asked.Grouping.{Grouping}

-- how many words are before the groups at the end, of words that are given from the right
abbrev pub from_the_right : List (List ℕ) → ℕ
from_the_right [] = 0
from_the_right (word ∷ []) = 1
from_the_right (tag ∷ name ∷ words) = if bytes_eq name (codes "group") then from_the_right words else length (tag ∷ name ∷ words)

-- how many words are before the groups at the end
abbrev pub groups_start : List (List ℕ) → ℕ
groups_start words = from_the_right (reverse words)

-- `group TAG` at the end is taken off, and the words before it say how many are before the groups
abbrev pub GroupIsTaken : Type 0
GroupIsTaken = (tag : List ℕ) (words : List (List ℕ)) → groups_start (words ++ codes "group" ∷ tag ∷ []) ≡ groups_start words

-- no word is taken off where the last but one has another text
abbrev pub OthersAreLeft : Type 0
OthersAreLeft = (name word : List ℕ) (words : List (List ℕ)) → bytes_eq name (codes "group") ≡ false → groups_start (words ++ name ∷ word ∷ []) ≡ length words + 2

-- two tags are one where their names are
abbrev pub same_tag : KnownTag → KnownTag → Bool
same_tag tag other = bytes_eq (text_of tag) (text_of other)

-- a tag is one of these
abbrev pub is_among : List KnownTag → KnownTag → Bool
is_among tags tag = list_any (λ other. same_tag other tag) tags

abbrev pub unless_among : List KnownTag → Option KnownTag → List ℕ → Result KnownTag Misread
unless_among tags None word = Err (Bad word)
unless_among tags (Some tag) word = if is_among tags tag then Err (Bad word) else Ok tag

-- a known tag that is none of these
abbrev pub other_tag_of : List KnownTag → List ℕ → Result KnownTag Misread
other_tag_of tags word = unless_among tags (tag_of word) word

-- what is read after this, where this is read
abbrev pub and_then : {A B : Type 0} → Result A Misread → (A → Result B Misread) → Result B Misread
and_then (Ok a) f = f a
and_then (Err e) f = Err e

-- tags, and after them those of groups, none of which is there twice
abbrev pub with_groups : List (List ℕ) → List KnownTag → Result (List KnownTag) Misread
with_groups [] tags = Ok tags
with_groups (name ∷ []) tags = Ok tags
with_groups (name ∷ word ∷ words) tags = and_then (other_tag_of tags word) (λ tag. with_groups words (tags ++ tag ∷ []))

-- TAG, and after it those of groups
abbrev pub tags_of : List ℕ → List (List ℕ) → Result (List KnownTag) Misread
tags_of first groups = and_then (argument_of tag_of first) (λ tag. with_groups groups (tag ∷ []))

abbrev pub names_album : Option KnownTag → Bool
names_album (Some Album) = true
names_album _ = false

-- one word is all that comes after `album`, and it is no filter: it is the name of an artist
abbrev pub is_artist : List ℕ → List (List ℕ) → List (List ℕ) → Bool
is_artist first (text ∷ []) [] = names_album (tag_of first) && not (is_alone text)
is_artist first _ _ = false

-- FILTER or nothing, before the groups; `list album TEXT` is `list album artist TEXT`
abbrev pub listed_filter_of : List ℕ → List (List ℕ) → List (List ℕ) → Result (Option Criteria) Misread
listed_filter_of first front groups = perhaps_filter_of Known Equals (if is_artist first front groups then codes "artist" ∷ front else front)

-- a filter, whose number of words comes first, and the tags
abbrev pub grouped : Result (Option Criteria) Misread → Result (List KnownTag) Misread → Result Grouping Misread
grouped criteria tags = map_ok (λ p. record { tags = p.1; criteria = p.0 }) (both criteria tags)

-- TAG [FILTER] [group TAG]...
unfoldable pub known_grouping_of : List (List ℕ) → Result Grouping Misread
known_grouping_of [] = Err WrongNumber
known_grouping_of (first ∷ words) =
    grouped (listed_filter_of first (take (groups_start words) words) (drop (groups_start words) words)) (tags_of first (drop (groups_start words) words))

-- what is listed and what it is grouped by are different tags
abbrev pub TagsDiffer : Type 0
TagsDiffer = (words : List (List ℕ)) (grouping : Grouping) → known_grouping_of words ≡ Ok grouping → AllPairs (λ tag other. tag ≢ other) grouping.tags

-- [FILTER] [group TAG]
abbrev pub counted_of : List (List ℕ) → Result Counting Misread
counted_of words =
    map_ok (λ p. record { group = p.1; criteria = p.0 })
    (both (perhaps_filter_of Known Equals (before (codes "group") 0 words)) (option_of tag_of (option_words (codes "group") 0 words)))

-- [FILTER] [group TAG], and one of both at least
unfoldable pub known_counting_of : List (List ℕ) → Result Counting Misread
known_counting_of [] = Err WrongNumber
known_counting_of (word ∷ words) = counted_of (word ∷ words)

-- a tag of songs among the known tags
abbrev pub known_as : TagName → KnownTag
known_as base.Title = known.Title
known_as base.Artist = known.Artist
known_as base.Album = known.Album
known_as base.Date = known.Date
known_as base.Genre = known.Genre
known_as base.Comment = known.Comment
known_as base.AlbumArtist = known.AlbumArtist
known_as base.Track = known.Track
known_as base.Disc = known.Disc
known_as base.Composer = known.Composer

-- TAG [FILTER], as the base profile has it
abbrev pub base_grouping_of : List (List ℕ) → Result Grouping Misread
base_grouping_of words = map_ok (λ p. record { tags = known_as p.0 ∷ []; criteria = p.1 }) (one_filter_of base_tag_of Base Equals words)

-- FILTER, as the base profile has it
abbrev pub base_counting_of : List (List ℕ) → Result Counting Misread
base_counting_of words = map_ok (λ criteria. record { group = None; criteria = Some criteria }) (filter_of Base Equals words)

-- `list`: TAG [FILTER] [group TAG]... in the everyday profile
unfoldable pub grouping_of : Bool → List (List ℕ) → Result Grouping Misread
grouping_of true words = known_grouping_of words
grouping_of false words = base_grouping_of words

-- `count`: [FILTER] [group TAG] in the everyday profile
unfoldable pub counting_of : Bool → List (List ℕ) → Result Counting Misread
counting_of true words = known_counting_of words
counting_of false words = base_counting_of words
