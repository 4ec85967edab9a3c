-- Whether a song meets a filter, as yes or no (MPD protocol reference, Filters). The filter's truth is a
-- relation; this is what answers it.
use Rattle.std.specs.Prelude.{ℕ, Bool, not, ◌&&◌, ◌||◌, List, [], ◌∷◌, ◌++◌, nat_eq}
use Rattle.std.specs.List.{list_any, starts_with}
use lib.Pointwise.{pointwise}
use Rattle.mpd_text.specs.Songs.Song.{SongData}
use Rattle.mpd_text.specs.Songs.Tags.{tag_names, base_tag_names, text_of_tag}
use Rattle.filters.specs.declared.expression.Field.{Field}
use Rattle.filters.specs.declared.expression.Field.TheVariants.{Tag, NoTag, File, Any, AnyKnown}
use Rattle.filters.specs.declared.expression.Test.{Test}
use Rattle.filters.specs.declared.expression.Test.TheVariants.{Equals, Differs, Contains}
use Rattle.filters.specs.declared.matching.Case.{Case}
use Rattle.filters.specs.Expressions.{Expression, Compare, Under, Negation, Both}
use Rattle.filters.specs.Truth.{folded}

-- what the URIs under a folder begin with: the folder and a slash, or nothing for the empty folder, which is
-- the whole library
abbrev pub front_of : List ℕ → List ℕ
front_of [] = []
front_of (b ∷ bs) = (b ∷ bs) ++ 47 ∷ []

-- whether a URI lies under a folder
abbrev pub is_under : List ℕ → List ℕ → Bool
is_under folder uri = starts_with nat_eq uri (front_of folder)

-- whether a value is somewhere in a text
abbrev pub includes : List ℕ → List ℕ → Bool
includes value [] = starts_with nat_eq [] value
includes value (b ∷ bs) = starts_with nat_eq (b ∷ bs) value || includes value bs

-- whether what is compared passes: of several tags it is enough that one does
abbrev pub has_it : (List ℕ → Bool) → Field → SongData → Bool
has_it passes (Tag name) song = passes (text_of_tag name song.tags)
has_it passes NoTag song = passes []
has_it passes File song = passes song.uri
has_it passes Any song = list_any (λ name. passes (text_of_tag name song.tags)) base_tag_names
has_it passes AnyKnown song = list_any (λ name. passes (text_of_tag name song.tags)) tag_names

abbrev pub compares : Case → Test → List ℕ → Field → SongData → Bool
compares case Equals value field song = has_it (λ text. pointwise nat_eq (folded case text) (folded case value)) field song
compares case Differs value field song = not (has_it (λ text. pointwise nat_eq (folded case text) (folded case value)) field song)
compares case Contains value field song = has_it (λ text. includes (folded case value) (folded case text)) field song

-- whether a song meets an expression
unfoldable pub meets : Case → Expression → SongData → Bool
meets case (Compare field test value) song = compares case test value field song
meets case (Under folder) song = is_under folder song.uri
meets case (Negation e) song = not (meets case e song)
meets case (Both e f) song = meets case e song && meets case f song
