-- The tags of a song in a script (this profile's script; texts are taken as those of a RIFF WAVE file's INFO
-- list).
use Rattle.std.specs.Prelude.{◌≡◌, ℕ, List, length, Option, Some, None, MatchOption, Bool, true, false, ◌&&◌, nat_le, option_map, find}
use Rattle.std.specs.Borrow.{Bor}
use Rattle.std.specs.List.{list_all, list_any, filter_map}
use Rattle.std.specs.Str.{str_eq_ignore_ascii_case}
use Rattle.mpd_text.specs.Songs.Song.{TagData}
use Rattle.mpd_text.specs.Songs.Tags.{base_tag_names, tag_names, tag_text, tag_with}
use Rattle.mpd_text.specs.declared.songs.song.TagName.{TagName}
use Rattle.script_lines.specs.Cuts.{has_byte, before, after}

-- before the first `=` of the word is the tag's name, in any ASCII case
unfoldable pub is_tag_of : TagName → List ℕ → Bool
is_tag_of name word = has_byte 61 word && str_eq_ignore_ascii_case (before 61 word) (tag_text name)

-- the tags that a step may name: the six of the base profile, or all where the everyday profile is on
abbrev pub names_known : Bool → List TagName
names_known false = base_tag_names
names_known true = tag_names

-- the word is of some tag that may be named
unfoldable pub is_tag : Bool → List ℕ → Bool
is_tag everyday word = list_any (λ name. is_tag_of name word) (names_known everyday)

-- the text is after the first `=` and ends at its first zero byte
abbrev pub text_of : List ℕ → List ℕ
text_of word = before 0 (after 61 word)

-- a text that counts: not empty, at most 1,024 bytes, no control character
unfoldable pub counts : List ℕ → Bool
counts text = nat_le 1 (length text) && nat_le (length text) 1024 && list_all (λ b. nat_le 32 b) text

-- the word is of this tag, and its text counts
abbrev pub gives : TagName → List ℕ → Bool
gives name word = is_tag_of name word && counts (text_of word)

-- of one tag, the first text that counts
abbrev pub first_text : TagName → List (List ℕ) → Option (List ℕ)
first_text name words = option_map text_of (find (gives name) words)

-- what is found is that text, or there is none
abbrev pub IsFirstText : TagName → List (List ℕ) → Option (Bor (List ℕ)) → Type 0
IsFirstText name words found =
    MatchOption found (first_text name words ≡ None) (λ text. first_text name words ≡ Some text.now)

-- the tags of these names that words give, in the order of the names
unfoldable pub tags_named : List TagName → List (List ℕ) → List TagData
tags_named names words = filter_map (λ name. tag_with name (first_text name words)) names

-- the tags that words give, in the order of answers
abbrev pub tags_of : List (List ℕ) → List TagData
tags_of words = tags_named tag_names words
