-- The tuples of one column are its texts.
use Rattle.std.proofs.Common.{◌≡◌, ◌∙◌, ℕ, true, false, cond, List, [], ◌∷◌, ◌++◌, map, length, drop, Some, refl, sym, ap, arith}
use Rattle.std.specs.Prelude.{nat_lt}
use Rattle.std.specs.List.{flat_map}
use Rattle.std.specs.Ordering.{ordering_then}
use Rattle.std.specs.Cmp.{IsTotalOrder}
use Rattle.std.specs.Cmp.Lexicographic.{lists_total, nat_list_cmp_total}
use Rattle.std.specs.FinMap.{empty, entries, entries-insert, from_entries, len-empty, len-entries}
use Rattle.std.specs.FinMap.Entries.{by_order, put}
use Rattle.std.specs.declared.cmp.Ordering.{Ordering}
use Rattle.std.specs.declared.cmp.Ordering.TheVariants.{Less, Equal, Greater}
use Rattle.std.proofs.lemmas.List.{append-nil}
use Rattle.mpd_text.specs.Answers.Answer.{pair_line}
use Rattle.mpd_text.specs.Songs.Song.{SongData}
use Rattle.mpd_text.specs.Songs.Tags.{text_of_tag}
use Rattle.mpd_text.specs.declared.songs.song.TagName.{TagName}
use Rattle.song_search.specs.Answers.{tag_texts}
use Rattle.mpd_text.specs.Texts.{ascending, by_bytes, key_of as text_key}
use Rattle.song_groups.specs.Tuples.{ascending_tuples, by_texts, key_of as tuple_key, labelled, lines_after, lines_of_tuples, listed_tuples, tuples, unchanged}

-- a text as a tuple
abbrev alone : List ℕ → List (List ℕ)
alone text = text ∷ []

abbrev alone-entry : List ℕ × Unit {0} → List (List ℕ) × Unit {0}
alone-entry e = (alone e.0, e.1)

-- tuples of one text are in the order of their texts
same-order : (o : Ordering) → ordering_then o Equal ≡ o
same-order Less = refl
same-order Equal = refl
same-order Greater = refl

put-alone : (text : List ℕ) (es : List (List ℕ × Unit {0})) → put by_texts (alone text) tt (map alone-entry es) ≡ map alone-entry (put by_bytes text tt es)
put-alone text [] = refl
put-alone text (e ∷ es) =
    ap (λ (o : Ordering). by_order o ((alone text, tt) ∷ alone-entry e ∷ map alone-entry es) ((alone e.0, tt) ∷ map alone-entry es) (alone-entry e ∷ put by_texts (alone text) tt (map alone-entry es)))
    (same-order (by_bytes text e.0))
    ∙ elim (by_bytes text e.0) as (λ o. by_order o ((alone text, tt) ∷ alone-entry e ∷ map alone-entry es) ((alone e.0, tt) ∷ map alone-entry es) (alone-entry e ∷ put by_texts (alone text) tt (map alone-entry es))
    ≡ map alone-entry (by_order o ((text, tt) ∷ e ∷ es) ((e.0, tt) ∷ es) (e ∷ put by_bytes text tt es))) [
      | Less ↦ refl
      | Equal ↦ refl
      | Greater ↦ ap (λ (rest : List (List (List ℕ) × Unit {0})). alone-entry e ∷ rest) (put-alone text es)
    ]

by-bytes-total : IsTotalOrder by_bytes
by-bytes-total = nat_list_cmp_total

by-texts-total : IsTotalOrder by_texts
by-texts-total = lists_total by-bytes-total

nothing : {A : Type 0} (xs : List A) → length xs ≡ 0 → xs ≡ []
nothing [] e = refl
nothing (x ∷ xs) e = absurd (omega arith)

no-entries : {K : Type 0} (R : K → K → Ordering) → entries (empty {X = Unit {0}} {R = R}) ≡ []
no-entries R = nothing (entries (empty {X = Unit {0}} {R = R})) (sym (len-entries (empty {X = Unit {0}} {R = R})) ∙ len-empty R (Unit {0}))

entries-alone : (texts : List (List ℕ)) → entries (from_entries {R = by_texts} (map tuple_key (map alone texts))) ≡ map alone-entry (entries (from_entries {R = by_bytes} (map text_key texts)))
entries-alone [] = no-entries by_texts ∙ ap (map alone-entry) (sym (no-entries by_bytes))
entries-alone (text ∷ texts) =
    entries-insert by-texts-total (from_entries (map tuple_key (map alone texts))) (alone text) tt
    ∙ ap (put by_texts (alone text) tt) (entries-alone texts)
    ∙ put-alone text (entries (from_entries {R = by_bytes} (map text_key texts)))
    ∙ ap (map alone-entry) (sym (entries-insert by-bytes-total (from_entries (map text_key texts)) text tt))

keys-alone : (es : List (List ℕ × Unit {0})) → map (λ (e : List (List ℕ) × Unit {0}). e.0) (map alone-entry es) ≡ map alone (map (λ (e : List ℕ × Unit {0}). e.0) es)
keys-alone [] = refl
keys-alone (e ∷ es) = ap (λ (rest : List (List (List ℕ))). alone e.0 ∷ rest) (keys-alone es)

ascending-alone : (texts : List (List ℕ)) → ascending_tuples (map alone texts) ≡ map alone (ascending texts)
unfolding ascending ascending_tuples
ascending-alone texts =
    ap (map (λ (e : List (List ℕ) × Unit {0}). e.0)) (entries-alone texts)
    ∙ keys-alone (entries (from_entries {R = by_bytes} (map text_key texts)))

-- the tuples of songs that are listed
listed-alone : (name : TagName) (songs : List SongData) → listed_tuples (Some name ∷ []) songs ≡ map alone (tag_texts name songs)
listed-alone name [] = refl
listed-alone name (song ∷ songs) =
    let text : List ℕ = text_of_tag name song.tags in
    elim (nat_lt 0 (length text)) as (λ b. cond b (alone text ∷ listed_tuples (Some name ∷ []) songs) (listed_tuples (Some name ∷ []) songs) ≡ map alone (cond b (text ∷ tag_texts name songs) (tag_texts name songs))) [
      | true ↦ ap (λ (rest : List (List (List ℕ))). alone text ∷ rest) (listed-alone name songs)
      | false ↦ listed-alone name songs
    ]

tuples-alone : (name : TagName) (songs : List SongData) → tuples (Some name ∷ []) songs ≡ map alone (ascending (tag_texts name songs))
tuples-alone name songs = ap ascending_tuples (listed-alone name songs) ∙ ascending-alone (tag_texts name songs)

-- each of them has its line
none-unchanged : (before : List (List ℕ)) (text : List ℕ) → unchanged before (alone text) ≡ 0
none-unchanged before text = omega arith

lines-alone : (label : List ℕ) (before : List (List ℕ)) (texts : List (List ℕ)) → lines_after (alone label) before (map alone texts) ≡ flat_map (pair_line label) texts
lines-alone label before [] = refl
lines-alone label before (text ∷ texts) =
    (λ i. labelled (drop (none-unchanged before text i) (alone label)) (drop (none-unchanged before text i) (alone text)) ++ lines_after (alone label) (alone text) (map alone texts))
    ∙ (λ i. append-nil (pair_line label text) i ++ lines-alone label (alone text) texts i)

pub column-lines : (label : List ℕ) (name : TagName) (songs : List SongData) → lines_of_tuples (label ∷ []) (tuples (Some name ∷ []) songs) ≡ flat_map (pair_line label) (ascending (tag_texts name songs))
column-lines label name songs = ap (lines_of_tuples (label ∷ [])) (tuples-alone name songs) ∙ lines-alone label [] (ascending (tag_texts name songs))
