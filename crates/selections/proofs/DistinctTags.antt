-- No tag of a grouping is there twice.
use Rattle.std.proofs.Common.{◌≡◌, ◌≢◌, ℕ, ◌<◌, Bool, true, false, cond, List, [], ◌∷◌, ◌++◌, length, get_or, take, drop, Option, Some, None, Result, Ok, Err, refl, ap, sym, ◌∙◌, subst, arith}
use Rattle.std.specs.List.{AllPairs}
use Rattle.std.proofs.lemmas.Bool.{both_ways}
use Rattle.std.proofs.lemmas.List.Folds.{list_any_at}
use Rattle.std.proofs.lemmas.List.Quantifiers.{all_pairs_push}
use Rattle.std.proofs.lemmas.Slice.Eq.{bytes_eq-Decides}
use Rattle.known_tags.specs.declared.known_tag.KnownTag.{KnownTag}
use Rattle.known_tags.specs.KnownTags.{tag_of, text_of}
use Rattle.command_arguments.specs.declared.readers.Misread.{Misread}
use Rattle.command_arguments.specs.declared.readers.Misread.TheVariants.{Bad}
use Rattle.command_arguments.specs.declared.criteria.Criteria.{Criteria}
use Rattle.command_arguments.specs.Readers.{argument_of}
use Rattle.selections.specs.declared.asked.Grouping.{Grouping}
use Rattle.selections.specs.Groupings.{same_tag, is_among, unless_among, other_tag_of, and_then, with_groups, tags_of, listed_filter_of, groups_start, grouped, known_grouping_of}

abbrev Distinct : List KnownTag → Type 0
Distinct tags = AllPairs (λ a b. a ≢ b) tags

named_alike : (a b : KnownTag) → a ≡ b → same_tag a b ≡ true
named_alike a b e = (bytes_eq-Decides (text_of a) (text_of b)).1 (ap (λ tag. text_of tag) e)

-- a tag that is not among others is none of them
none_of_them : (tags : List KnownTag) (tag : KnownTag) → is_among tags tag ≡ false → (k : ℕ) (d : KnownTag) → k < length tags → get_or tags k d ≢ tag
none_of_them tags tag e k d within same = both_ways (is_among tags tag) e (list_any_at (λ other. same_tag other tag) tags k d within (named_alike (get_or tags k d) tag same))

abbrev checked : Bool → List ℕ → KnownTag → Result KnownTag Misread
checked b word read = cond b (Err (Bad word)) (Ok read)

read_among : (tags : List KnownTag) (read tag : KnownTag) (word : List ℕ) (b : Bool) → is_among tags read ≡ b → checked b word read ≡ Ok tag → is_among tags tag ≡ false
read_among tags read tag word true is e = cc
read_among tags read tag word false is e =
    let same : read ≡ tag = cc in
    ap (λ t. is_among tags t) (sym same) ∙ is

new : (tags : List KnownTag) (word : List ℕ) (named : Option KnownTag) (tag : KnownTag) → unless_among tags named word ≡ Ok tag → is_among tags tag ≡ false
new tags word None tag e = cc
new tags word (Some read) tag e = read_among tags read tag word (is_among tags read) refl e

with_one : (tags : List KnownTag) (tag : KnownTag) → Distinct tags → is_among tags tag ≡ false → Distinct (tags ++ tag ∷ [])
with_one tags tag distinct e = all_pairs_push (λ a b. a ≢ b) tags tag distinct (none_of_them tags tag e)

groups : (words : List (List ℕ)) (tags all : List KnownTag) → Distinct tags → with_groups words tags ≡ Ok all → Distinct all
groups [] tags all distinct e = let same : tags ≡ all = cc in subst (λ (l : List KnownTag). Distinct l) same distinct
groups (name ∷ []) tags all distinct e = let same : tags ≡ all = cc in subst (λ (l : List KnownTag). Distinct l) same distinct
groups (name ∷ word ∷ words) tags all distinct e =
    (elim (other_tag_of tags word) as (λ r. other_tag_of tags word ≡ r → and_then r (λ tag. with_groups words (tags ++ tag ∷ [])) ≡ Ok all → Distinct all) [
      | Ok tag ↦ λ is rest. groups words (tags ++ tag ∷ []) all (with_one tags tag distinct (new tags word (tag_of word) tag is)) rest
      | Err fault ↦ λ is rest. absurd cc
    ]) refl e

alone : (tag : KnownTag) → Distinct (tag ∷ [])
alone tag i j d before within = absurd (omega arith)

all_tags : (groups_words : List (List ℕ)) (first : Result KnownTag Misread) (all : List KnownTag) → and_then first (λ tag. with_groups groups_words (tag ∷ [])) ≡ Ok all → Distinct all
all_tags words (Ok tag) all e = groups words (tag ∷ []) all (alone tag) e
all_tags words (Err fault) all e = absurd cc

parts : (criteria : Result (Option Criteria) Misread) (tags : Result (List KnownTag) Misread) (grouping : Grouping) → grouped criteria tags ≡ Ok grouping → tags ≡ Ok grouping.tags
parts (Err fault) tags grouping e = absurd cc
parts (Ok criteria) (Err fault) grouping e = absurd cc
parts (Ok criteria) (Ok tags) grouping e = let same : record { tags = tags; criteria = criteria } ≡ grouping = cc in ap (λ (g : Grouping). Ok g.tags) same

pub distinct : (words : List (List ℕ)) (grouping : Grouping) → known_grouping_of words ≡ Ok grouping → AllPairs (λ a b. a ≢ b) grouping.tags
unfolding known_grouping_of
distinct [] grouping e = absurd cc
distinct (first ∷ words) grouping e =
    all_tags (drop (groups_start words) words) (argument_of (λ word. tag_of word) first) grouping.tags
    (parts (listed_filter_of first (take (groups_start words) words) (drop (groups_start words) words)) (tags_of first (drop (groups_start words) words)) grouping e)
