-- Options at the end of words, and what the order of songs is read as (MPD protocol reference, The music
-- database).
use Rattle.std.specs.Prelude.{ℕ, ◌+◌, ◌-◌, nat_le, Bool, true, false, ◌&&◌, List, [], ◌∷◌, length, take, drop, slice_index_or, Option, Some, None, option_map, Result, Ok, if◌then◌else◌}
use Rattle.std.specs.Str.{bytes_eq}
use Rattle.known_tags.specs.KnownTags.{tag_of}
use Rattle.command_arguments.specs.Forms.{first_is}
use Rattle.command_arguments.specs.Readers.{map_ok, argument_of}
use Rattle.command_arguments.specs.declared.readers.Misread.{Misread}
use Rattle.selections.specs.declared.sort_by.SortBy.{SortBy}

-- TAG or -TAG
abbrev pub sort_of : List ℕ → Option SortBy
sort_of word =
    if first_is 45 word then option_map (λ tag. record { tag = tag; falling = true }) (tag_of (drop 1 word))
    else option_map (λ tag. record { tag = tag; falling = false }) (tag_of word)

-- the last word but one is the name of an option, and at least so many words are before it
abbrev pub ends_in : List ℕ → ℕ → List (List ℕ) → Bool
ends_in name least words = nat_le (least + 2) (length words) && bytes_eq (slice_index_or words (length words - 2) []) name

-- how many words are before an option
abbrev pub front_length : List ℕ → ℕ → List (List ℕ) → ℕ
front_length name least words = if ends_in name least words then length words - 2 else length words

-- the words before an option
abbrev pub before : List ℕ → ℕ → List (List ℕ) → List (List ℕ)
before name least words = take (front_length name least words) words

-- the words of an option: its name and its argument, or none
abbrev pub option_words : List ℕ → ℕ → List (List ℕ) → List (List ℕ)
option_words name least words = drop (front_length name least words) words

-- the argument of an option, where its words are there
abbrev pub option_of : {A : Type 0} → (List ℕ → Option A) → List (List ℕ) → Result (Option A) Misread
option_of read (name ∷ argument ∷ []) = map_ok Some (argument_of read argument)
option_of read _ = Ok None
