-- Whether a song meets a filter, against the filter's truth.
use Rattle.std.proofs.Common.{◌≡◌, ℕ, Bool, true, IsTrue, List, [], ◌∷◌, ◌++◌, inl, inr, ap}
use Rattle.std.specs.Prelude.{◌↔◌, nat_eq}
use Rattle.std.specs.List.{list_any, starts_with}
use Rattle.std.specs.Bool.{Decides}
use Rattle.std.specs.Str.Iter.{HasSubslice}
use Rattle.std.specs.Cmp.Lexicographic.{bytes_decides}
use Rattle.std.proofs.lemmas.Bool.Decides.{same_from_decides, Decides-not, Decides-and, Decides-or}
use Rattle.std.proofs.lemmas.Bool.{or_cases, or_left, or_right}
use lib.Pointwise.{pointwise}
use Rattle.mpd_text.specs.Songs.Song.{SongData, TagData}
use Rattle.mpd_text.specs.Songs.Tags.{tag_names, base_tag_names, text_of_tag}
use Rattle.mpd_text.specs.declared.songs.song.TagName.{TagName}
use Rattle.filters.specs.declared.expression.Field.{Field}
use Rattle.filters.specs.declared.expression.Field.TheVariants.{Tag, NoTag, File, Any, AnyKnown}
use Rattle.filters.specs.declared.expression.Test.{Test}
use Rattle.filters.specs.declared.expression.Test.TheVariants.{Equals, Differs, Contains}
use Rattle.filters.specs.declared.matching.Case.{Case}
use Rattle.filters.specs.Expressions.{Expression, Compare, Under, Negation, Both}
use Rattle.filters.specs.Truth.{folded, SomeTag, HasIt, Compares, Holds}
use Rattle.song_search.specs.Truth.{includes, has_it, compares, meets}
use Rattle.song_search.proofs.Fronts.{begins_from, begins_rest, under-Decides}

tail : List ℕ → List ℕ
tail [] = []
tail (x ∷ xs) = xs

includes-Decides : (value text : List ℕ) → Decides (includes value text) (HasSubslice text value)
unfolding tail
includes-Decides value [] =
    ((λ h. ([], _, begins_rest [] value h)), (λ s. inside s.0 s.1 s.2))
  where
    inside : (a b : List ℕ) → [] ≡ a ++ (value ++ b) → starts_with nat_eq [] value ≡ true
    inside [] b e = begins_from [] value b e
    inside (x ∷ a) b e = cc
includes-Decides value (c ∷ cs) = (
  (λ h. elim (or_cases (starts_with nat_eq (c ∷ cs) value) (includes value cs) h) [
    | inl here ↦ ([], _, begins_rest (c ∷ cs) value here)
    | inr later ↦ let rest = (includes-Decides value cs).0 later in (c ∷ rest.0, rest.1, ap (λ (t : List ℕ). c ∷ t) rest.2)
  ]),
  (λ s. inside (includes-Decides value cs).1 s.0 s.1 s.2),
)
  where
    inside : (HasSubslice cs value → includes value cs ≡ true) → (a b : List ℕ) → c ∷ cs ≡ a ++ (value ++ b) → includes value (c ∷ cs) ≡ true
    inside deeper [] b e = or_left (starts_with nat_eq (c ∷ cs) value) (includes value cs) (begins_from (c ∷ cs) value b e)
    inside deeper (x ∷ a) b e = or_right (starts_with nat_eq (c ∷ cs) value) (includes value cs) (deeper (a, b, ap tail e))

module _ (passes : List ℕ → Bool) (P : List ℕ → Type 0) (each : (text : List ℕ) → Decides (passes text) (P text)) where
  some-Decides : (names : List TagName) (tags : List TagData) → Decides (list_any (λ name. passes (text_of_tag name tags)) names) (SomeTag P names tags)
  some-Decides [] tags = ((λ h. cc), (λ h. absurd h))
  some-Decides (name ∷ names) tags = Decides-or (passes (text_of_tag name tags)) _ (each (text_of_tag name tags)) (some-Decides names tags)

  has-Decides : (field : Field) (song : SongData) → Decides (has_it passes field song) (HasIt P field song)
  has-Decides (Tag name) song = each (text_of_tag name song.tags)
  has-Decides NoTag song = each []
  has-Decides File song = each song.uri
  has-Decides Any song = some-Decides base_tag_names song.tags
  has-Decides AnyKnown song = some-Decides tag_names song.tags

same-Decides : (case : Case) (value text : List ℕ) → Decides (pointwise nat_eq (folded case text) (folded case value)) (folded case text ≡ folded case value)
same-Decides case value text = bytes_decides (folded case text) (folded case value)

compares-Decides : (case : Case) (test : Test) (value : List ℕ) (field : Field) (song : SongData) → Decides (compares case test value field song) (Compares case test value field song)
compares-Decides case Equals value field song = has-Decides (λ text. pointwise nat_eq (folded case text) (folded case value)) (λ text. folded case text ≡ folded case value) (same-Decides case value) field song
compares-Decides case Differs value field song =
    Decides-not (has_it (λ text. pointwise nat_eq (folded case text) (folded case value)) field song)
    (has-Decides (λ text. pointwise nat_eq (folded case text) (folded case value)) (λ text. folded case text ≡ folded case value) (same-Decides case value) field song)
compares-Decides case Contains value field song =
    has-Decides (λ text. includes (folded case value) (folded case text)) (λ text. HasSubslice (folded case text) (folded case value)) (λ text. includes-Decides (folded case value) (folded case text)) field song

pub meets-Decides : (case : Case) (e : Expression) (song : SongData) → Decides (meets case e song) (Holds case e song)
unfolding meets
meets-Decides case (Compare field test value) song = compares-Decides case test value field song
meets-Decides case (Under folder) song = under-Decides folder song.uri
meets-Decides case (Negation e) song = Decides-not (meets case e song) (meets-Decides case e song)
meets-Decides case (Both e f) song = Decides-and (meets case e song) (meets case f song) (meets-Decides case e song) (meets-Decides case f song)

-- an answer that is right is the one
pub is_meets : (case : Case) (e : Expression) (song : SongData) (met : Bool) → IsTrue met ↔ Holds case e song → met ≡ meets case e song
is_meets case e song met h = same_from_decides met (meets case e song) h (meets-Decides case e song)
