-- When a song meets a filter (MPD protocol reference, Filters; what is read of a tag that the song has not is
-- this profile's).
use Rattle.std.specs.Prelude.{◌≡◌, ◌≢◌, ℕ, List, [], ◌∷◌, ◌++◌, ◌⊎◌, chars, encode_utf8_all}
use Rattle.std.specs.Str.Iter.{HasSubslice}
use Rattle.caseless.specs.Caseless.{default_case_fold}
use Rattle.mpd_text.specs.Songs.Song.{SongData, TagData}
use Rattle.mpd_text.specs.Songs.Tags.{tag_names, base_tag_names, text_of_tag}
use Rattle.mpd_text.specs.declared.songs.song.TagName.{TagName}
use Rattle.filters.specs.declared.expression.Field.{Field}
use Rattle.filters.specs.declared.expression.Field.TheVariants.{Tag, NoTag, File, Any, AnyKnown}
use Rattle.filters.specs.declared.expression.Test.{Test}
use Rattle.filters.specs.declared.expression.Test.TheVariants.{Equals, Differs, Contains}
use Rattle.filters.specs.declared.matching.Case.{Case}
use Rattle.filters.specs.declared.matching.Case.TheVariants.{Heeded, Ignored}
use Rattle.filters.specs.declared.matching.Relation.{Relation}
use Rattle.filters.specs.declared.matching.Relation.TheVariants.{Same, Includes as IncludesIt}
use Rattle.filters.specs.Expressions.{Expression, Compare, Under, Negation, Both}

-- some tag of these names, each read as by its own name, has a text with this property
abbrev pub SomeTag : (List ℕ → Type 0) → List TagName → List TagData → Type 0
SomeTag P [] tags = ⊥
SomeTag P (name ∷ names) tags = P (text_of_tag name tags) ⊎ SomeTag P names tags

-- what is compared has this property: of several tags it is enough that one has it
abbrev pub HasIt : (List ℕ → Type 0) → Field → SongData → Type 0
HasIt P (Tag name) song = P (text_of_tag name song.tags)
HasIt P NoTag song = P []
HasIt P File song = P song.uri
HasIt P Any song = SomeTag P base_tag_names song.tags
HasIt P AnyKnown song = SomeTag P tag_names song.tags

-- a text as it is compared: where case is ignored, in the default case folding of the Unicode Standard,
-- section 3.13
abbrev pub folded : Case → List ℕ → List ℕ
folded Heeded text = text
folded Ignored text = encode_utf8_all (default_case_fold (chars text))

-- how two texts that are folded already are compared
abbrev pub IsRelated : Relation → List ℕ → List ℕ → Type 0
IsRelated Same text value = text ≡ value
IsRelated IncludesIt text value = HasSubslice text value

-- what is compared has this relation to a value that is folded already
abbrev pub Relates : Case → Relation → List ℕ → Field → SongData → Type 0
Relates case relation value field song = HasIt (λ text. IsRelated relation (folded case text) value) field song

-- some tag of these names has a text with this relation to it
abbrev pub SomeTagRelates : Case → Relation → List ℕ → List TagName → List TagData → Type 0
SomeTagRelates case relation value names tags = SomeTag (λ text. IsRelated relation (folded case text) value) names tags

abbrev pub IsSame : Case → List ℕ → List ℕ → Type 0
IsSame case value text = folded case text ≡ folded case value

abbrev pub Includes : Case → List ℕ → List ℕ → Type 0
Includes case value text = HasSubslice (folded case text) (folded case value)

abbrev pub Compares : Case → Test → List ℕ → Field → SongData → Type 0
Compares case Equals value field song = HasIt (IsSame case value) field song
Compares case Differs value field song = HasIt (IsSame case value) field song → ⊥
Compares case Contains value field song = HasIt (Includes case value) field song

-- bytes do not begin with a prefix: nothing after it gives them
abbrev pub LacksPrefix : List ℕ → List ℕ → Type 0
LacksPrefix prefix bytes = (rest : List ℕ) → bytes ≢ prefix ++ rest

-- the URI goes on after the folder and a slash; each URI lies under the empty folder
abbrev pub IsUnder : List ℕ → List ℕ → Type 0
IsUnder [] uri = Unit {0}
IsUnder (b ∷ bs) uri = (rest : List ℕ) × (uri ≡ (b ∷ bs) ++ 47 ∷ rest)

-- the truth of an expression on a song
abbrev pub Holds : Case → Expression → SongData → Type 0
Holds case (Compare field test value) song = Compares case test value field song
Holds case (Under folder) song = IsUnder folder song.uri
Holds case (Negation e) song = Holds case e song → ⊥
Holds case (Both e f) song = Holds case e song × Holds case f song
