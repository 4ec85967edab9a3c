-- The words of filters: tags, and the words beside them (MPD protocol reference, Tags and Filters; that case
-- is ignored in them, and what is read of a song for the tags that songs have not, is this profile's).
use Rattle.std.specs.Prelude.{ℕ, ◌==◌, List, Bool, true, false, ◌&&◌, ◌||◌, nat_le, codes, Option, Some, None, option_map, if◌then◌else◌}
use Rattle.std.specs.Str.{str_eq_ignore_ascii_case}
use Rattle.mpd_text.specs.declared.songs.song.TagName.{TagName}
use Rattle.mpd_text.specs.declared.songs.song.TagName.TheVariants.{Title, Artist, Album, Date, Genre, Comment}
use Rattle.known_tags.specs.declared.known_tag.KnownTag.{KnownTag}
use Rattle.known_tags.specs.KnownTags.{tag_of, read_of}
use Rattle.filters.specs.declared.expression.Field.{Field}
use Rattle.filters.specs.declared.expression.Field.TheVariants.{Tag, NoTag, File, Any, AnyKnown}
use Rattle.filters.specs.declared.words.Vocabulary.{Vocabulary}
use Rattle.filters.specs.declared.words.Vocabulary.TheVariants.{Base, Known}

-- an ASCII letter
abbrev pub is_letter : ℕ → Bool
is_letter b = (nat_le 65 b && nat_le b 90) || (nat_le 97 b && nat_le b 122)

-- whether all tags that clients know are words
abbrev pub has_known_tags : Vocabulary → Bool
has_known_tags Base = false
has_known_tags Known = true

-- a byte of words: an ASCII letter, or `_` where all tags that clients know are words
abbrev pub is_word_byte : Vocabulary → ℕ → Bool
is_word_byte vocabulary b = is_letter b || ((b == 95) && has_known_tags vocabulary)

-- the same word, whatever the case of its ASCII letters
abbrev pub same_word : List ℕ → List ℕ → Bool
same_word word name = str_eq_ignore_ascii_case word name

abbrev pub is_base : List ℕ → Bool
is_base word = same_word word (codes "base")

-- what of a song the word names, where the six tags of the base profile are words
unfoldable pub base_field : List ℕ → Option Field
base_field word =
    if same_word word (codes "title") then Some (Tag Title)
    else (if same_word word (codes "artist") then Some (Tag Artist)
    else (if same_word word (codes "album") then Some (Tag Album)
    else (if same_word word (codes "date") then Some (Tag Date)
    else (if same_word word (codes "genre") then Some (Tag Genre)
    else (if same_word word (codes "comment") then Some (Tag Comment)
    else (if same_word word (codes "file") then Some File
    else (if same_word word (codes "any") then Some Any else None)))))))

-- what is compared of the tag that is read: of none the empty text
abbrev pub field_read : Option TagName → Field
field_read None = NoTag
field_read (Some name) = Tag name

-- what is compared of a tag that clients know
abbrev pub field_of_tag : KnownTag → Field
field_of_tag tag = field_read (read_of tag)

-- what of a song the word names, where all tags that clients know are words
unfoldable pub known_field : List ℕ → Option Field
known_field word =
    if same_word word (codes "file") || same_word word (codes "filename") then Some File
    else (if same_word word (codes "any") then Some AnyKnown else option_map field_of_tag (tag_of word))

-- what of a song the word names
unfoldable pub field_named : Vocabulary → List ℕ → Option Field
field_named Base word = base_field word
field_named Known word = known_field word
