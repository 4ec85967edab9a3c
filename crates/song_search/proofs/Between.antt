-- Texts that begin alike stand side by side in byte order.
use Rattle.std.proofs.Common.{◌≡◌, ◌⊎◌, ◌∙◌, ℕ, zero, suc, ◌+◌, ◌<◌, ◌≤◌, Bool, true, false, List, [], ◌∷◌, ◌++◌, length, take, drop, get_or, refl, sym, ap, subst, inl, inr, arith, cond, not, ◌||◌}
use Rattle.std.specs.Prelude.{nat_eq, nat_lt}
use Rattle.std.specs.List.{starts_with, filter, list_any, All, AllWithin}
use Rattle.std.specs.List.Sorted.{IsPartitionedBy, IsPartitionPoint}
use Rattle.std.specs.Ordering.{is_lt, nat_cmp, ordering_then, ordering_reverse, MatchOrdering}
use Rattle.std.specs.declared.cmp.Ordering.{Ordering}
use Rattle.std.specs.declared.cmp.Ordering.TheVariants.{Less, Equal, Greater}
use Rattle.std.specs.Cmp.{IsTotalOrder, ranks, both_ways, nat_cmp_total, tied_itself}
use Rattle.std.specs.Cmp.Lexicographic.{nat_list_cmp_total}
use Rattle.std.specs.FinMap.{nat_cmp-IsAntisymmetric, slice_cmp-IsAntisymmetric}
use Rattle.std.proofs.lemmas.Bool.{cases_eq, cond-true, cond-false, false_from_ne_true, not_from_false, lt-ltb, le-ltb, ne_eqb}
use Rattle.std.proofs.lemmas.List.{append-nil, append_assoc, append_cancel_left, get_or-drop, length-drop}
use Rattle.std.proofs.lemmas.List.Kept.{AllPairs-filter}
use Rattle.mpd_text.specs.Songs.Song.{SongData}
use Rattle.song_db.specs.Library.{by_uri, InByteOrder}
use Rattle.mpd_text.specs.Texts.{by_bytes}
use Rattle.song_search.specs.Truth.{front_of, is_under}
use Rattle.song_search.specs.Folders.{lies_in, under, is_folder}
use Rattle.song_search.proofs.Fronts.{begins_from, begins_rest}

order : IsTotalOrder by_bytes
order = nat_list_cmp_total

-- which text is first is told by their first bytes, or after them
head_less : (x y : ℕ) (o : Ordering) → ordering_then (nat_cmp x y) o ≡ Less → (x < y) ⊎ ((x ≡ y) × (o ≡ Less))
head_less x y o h = by_case (nat_cmp x y) (ranks x y) h
  where
    by_case : (r : Ordering) → MatchOrdering r (x < y) (x ≡ y) (y < x) → ordering_then r o ≡ Less → (x < y) ⊎ ((x ≡ y) × (o ≡ Less))
    by_case Less m h = inl m
    by_case Equal m h = inr (m, h)
    by_case Greater m h = cc

-- what stands between two texts with one front has that front
between : (p ra rc b : List ℕ) → by_bytes (p ++ ra) b ≡ Less → by_bytes b (p ++ rc) ≡ Less → (rb : List ℕ) × (b ≡ p ++ rb)
between [] ra rc b low high = (b, refl)
between (x ∷ p) ra rc [] low high = cc
between (x ∷ p) ra rc (y ∷ b) low high = elim (head_less x y (by_bytes (p ++ ra) b) low) [
  | inl l ↦ elim (head_less y x (by_bytes b (p ++ rc)) high) [ inl k ↦ absurd (omega arith) | inr k ↦ absurd (let e : y ≡ x = k.0 in omega arith) ]
  | inr l ↦ elim (head_less y x (by_bytes b (p ++ rc)) high) [
    | inl k ↦ absurd (let e : x ≡ y = l.0 in omega arith)
    | inr k ↦ let rest = between p ra rc b l.1 k.1 in (rest.0, λ i. k.0 i ∷ rest.1 i)
  ]
]

-- no text that begins with a front is before it
not_before : (p r : List ℕ) → by_bytes (p ++ r) p ≡ Less → ⊥
not_before [] [] h = cc
not_before [] (x ∷ r) h = cc
not_before (x ∷ p) r h = elim (head_less x x (by_bytes (p ++ r) p) h) [ inl l ↦ omega arith | inr e ↦ not_before p r e.1 ]

is-less : (o : Ordering) → is_lt o ≡ true → o ≡ Less
is-less Less h = refl
is-less Equal h = cc
is-less Greater h = cc

-- with a front, and neither the front's own text's nor a later text's fault
from_front : (p b rc : List ℕ) → is_lt (by_bytes b p) ≡ false → by_bytes b (p ++ rc) ≡ Less → (rb : List ℕ) × (b ≡ p ++ rb)
from_front p b rc low high = by_case (by_bytes b p) refl low
  where
    by_case : (o : Ordering) → by_bytes b p ≡ o → is_lt o ≡ false → (rb : List ℕ) × (b ≡ p ++ rb)
    by_case Less e h = cc
    by_case Equal e h = ([], slice_cmp-IsAntisymmetric nat_cmp-IsAntisymmetric b p e ∙ sym (append-nil p))
    by_case Greater e h = between p [] rc b (subst (λ (t : List ℕ). by_bytes t b ≡ Less) (sym (append-nil p)) (order.antisymm p b ∙ ap ordering_reverse e)) high

module _ (p : SongData → Bool) where
  -- where those that pass stand before those that do not
  pub filter_front : (xs : List SongData) (n : ℕ) → n ≤ length xs → AllWithin (λ x. p x ≡ true) xs 0 n → AllWithin (λ x. p x ≡ false) xs n (length xs) → filter p xs ≡ take n xs
  filter_front [] zero low hits misses = refl
  filter_front [] (suc n) low hits misses = refl
  filter_front (x ∷ xs) zero low hits misses =
      cond-false (p x) (x ∷ filter p xs) (filter p xs) (misses 0 x (omega arith) (omega arith)) ∙ filter_front xs 0 (omega arith) (λ k d l h. absurd (omega arith)) (λ k d l h. misses (suc k) d (omega arith) (omega arith))
  filter_front (x ∷ xs) (suc n) low hits misses =
      cond-true (p x) (x ∷ filter p xs) (filter p xs) (hits 0 x (omega arith) (omega arith))
      ∙ ap (λ (rest : List SongData). x ∷ rest) (filter_front xs n (omega arith) (λ k d l h. hits (suc k) d (omega arith) (omega arith)) (λ k d l h. misses (suc k) d (omega arith) (omega arith)))

  pub filter_skip : (xs : List SongData) (n : ℕ) → AllWithin (λ x. p x ≡ false) xs 0 n → n ≤ length xs → filter p xs ≡ filter p (drop n xs)
  filter_skip [] zero misses low = refl
  filter_skip [] (suc n) misses low = refl
  filter_skip (x ∷ xs) zero misses low = refl
  filter_skip (x ∷ xs) (suc n) misses low =
      cond-false (p x) (x ∷ filter p xs) (filter p xs) (misses 0 x (omega arith) (omega arith)) ∙ filter_skip xs n (λ k d l h. misses (suc k) d (omega arith) (omega arith)) (omega arith)

abbrev pub before : List ℕ → SongData → Bool
before folder song = is_lt (by_bytes song.uri (front_of folder))

pub order_drop : (xs : List SongData) (n : ℕ) → InByteOrder xs → InByteOrder (drop n xs)
order_drop xs n h i j d low within =
    subst (λ (a : SongData). by_uri a (get_or (drop n xs) j d) ≡ Less) (sym (get_or-drop n xs i d))
    (subst (λ (b : SongData). by_uri (get_or xs (n + i) d) b ≡ Less) (sym (get_or-drop n xs j d)) (h (n + i) (n + j) d (omega arith) (let l = length-drop n xs in omega arith)))

-- the songs before a folder's stand first
pub before_first_part : (folder : List ℕ) (xs : List SongData) → InByteOrder xs → IsPartitionedBy (before folder) xs
before_first_part folder xs h i j d low within hit = elim (cases_eq i j) [
  | inl e ↦ subst (λ k. before folder (get_or xs k d) ≡ true) (sym e) hit
  | inr other ↦
      ap is_lt (order.trans (get_or xs i d).uri (get_or xs j d).uri (front_of folder) (h i j d (omega arith) within) (is-less (by_bytes (get_or xs j d).uri (front_of folder)) hit))
]

-- none of them is the folder's
pub before_fails : (folder : List ℕ) (s : SongData) → before folder s ≡ true → is_under folder s.uri ≡ false
before_fails folder s h =
    false_from_ne_true (is_under folder s.uri)
    (λ u. not_before (front_of folder) (drop (length (front_of folder)) s.uri)
    (subst (λ (t : List ℕ). by_bytes t (front_of folder) ≡ Less) (begins_rest s.uri (front_of folder) u) (is-less (by_bytes s.uri (front_of folder)) h)))

-- after them the folder's stand first
pub under_first_part : (folder : List ℕ) (xs : List SongData) → InByteOrder xs → All (λ s. before folder s ≡ false) xs → IsPartitionedBy (λ (s : SongData). is_under folder s.uri) xs
under_first_part folder xs h late i j d low within hit = elim (cases_eq i j) [
  | inl e ↦ subst (λ k. is_under folder (get_or xs k d).uri ≡ true) (sym e) hit
  | inr other ↦
      let rest = from_front (front_of folder) (get_or xs i d).uri (drop (length (front_of folder)) (get_or xs j d).uri) (late i d (omega arith))
      (subst (λ (t : List ℕ). by_bytes (get_or xs i d).uri t ≡ Less) (begins_rest (get_or xs j d).uri (front_of folder) hit) (h i j d (omega arith) within)) in
      begins_from (get_or xs i d).uri (front_of folder) rest.0 rest.1
]

-- after a song in a folder the others in it stand first
pub in_first_part : (folder : List ℕ) (x : SongData) (xs : List SongData) → InByteOrder (x ∷ xs) → lies_in folder x.uri ≡ true → IsPartitionedBy (λ (s : SongData). lies_in folder s.uri) xs
in_first_part folder x xs h here i j d low within hit = elim (cases_eq i j) [
  | inl e ↦ subst (λ k. lies_in folder (get_or xs k d).uri ≡ true) (sym e) hit
  | inr other ↦
      let rest = between (folder ++ 47 ∷ []) (drop (length (folder ++ 47 ∷ [])) x.uri) (drop (length (folder ++ 47 ∷ [])) (get_or xs j d).uri) (get_or xs i d).uri
      (subst (λ (t : List ℕ). by_bytes t (get_or xs i d).uri ≡ Less) (begins_rest x.uri (folder ++ 47 ∷ []) here) (h 0 (suc i) d (omega arith) (omega arith)))
      (subst (λ (t : List ℕ). by_bytes (get_or xs i d).uri t ≡ Less) (begins_rest (get_or xs j d).uri (folder ++ 47 ∷ []) hit) (h (suc i) (suc j) d (omega arith) (omega arith))) in
      begins_from (get_or xs i d).uri (folder ++ 47 ∷ []) rest.0 rest.1
]

-- all after the first search's end are not before
pub late : (folder : List ℕ) (xs : List SongData) (start : ℕ) → AllWithin (λ s. before folder s ≡ false) xs start (length xs) → All (λ s. before folder s ≡ false) (drop start xs)
late folder xs start h k d l = subst (λ (s : SongData). before folder s ≡ false) (sym (get_or-drop start xs k d)) (h (start + k) d (omega arith) (let n = length-drop start xs in omega arith))

-- the folder's songs, where both searches ended
pub under_is : (folder : List ℕ) (xs rest : List SongData) (start end : ℕ) → InByteOrder xs → rest ≡ drop start xs → start ≤ length xs → end ≤ length rest
    → (IsPartitionedBy (before folder) xs → IsPartitionPoint (λ s. before folder s ≡ true) (λ s. before folder s ≡ false) xs start)
    → (IsPartitionedBy (λ (s : SongData). is_under folder s.uri) rest → IsPartitionPoint (λ (s : SongData). is_under folder s.uri ≡ true) (λ (s : SongData). is_under folder s.uri ≡ false) rest end)
    → take end rest ≡ under folder xs
under_is folder xs rest start end h is low high first second =
    let one = first (before_first_part folder xs h) in
    let two = second (subst (IsPartitionedBy (λ (s : SongData). is_under folder s.uri)) (sym is) (under_first_part folder (drop start xs) (order_drop xs start h) (late folder xs start one.1))) in
    sym (filter_skip (λ (s : SongData). is_under folder s.uri) xs start (λ k d l m. before_fails folder (get_or xs k d) (one.0 k d l m)) low
    ∙ ap (filter (λ (s : SongData). is_under folder s.uri)) (sym is) ∙ filter_front (λ (s : SongData). is_under folder s.uri) rest end high two.0 two.1)

-- whether a text is before a folder's, told by what stands after the folder
slash_decides : (rest : List ℕ) → 0 < length rest → nat_lt (get_or rest 0 0) 47 ≡ is_lt (by_bytes rest (47 ∷ []))
slash_decides [] some = absurd (omega arith)
slash_decides (x ∷ xs) some = by_case (nat_cmp x 47) (ranks x 47)
  where
    last : (ys : List ℕ) → is_lt (by_bytes ys []) ≡ false
    last [] = refl
    last (y ∷ ys) = refl

    by_case : (r : Ordering) → MatchOrdering r (x < 47) (x ≡ 47) (47 < x) → nat_lt x 47 ≡ is_lt (ordering_then r (by_bytes xs []))
    by_case Less m = lt-ltb x 47 m
    by_case Equal m = le-ltb x 47 (omega arith) ∙ sym (last xs)
    by_case Greater m = le-ltb x 47 (omega arith)

pub before_slash : (rest : List ℕ) → 0 < length rest → nat_lt (get_or rest 0 0) 47 ≡ is_lt (by_bytes rest (47 ∷ []))
before_slash = slash_decides

itself : (x : ℕ) → nat_cmp x x ≡ Equal
itself x = tied_itself nat_cmp_total x

pub behind_front : (p a b : List ℕ) → by_bytes (p ++ a) (p ++ b) ≡ by_bytes a b
behind_front [] a b = refl
behind_front (x ∷ p) a b = ap (λ o. ordering_then o (by_bytes (p ++ a) (p ++ b))) (itself x) ∙ behind_front p a b

pub apart_before : (p b more : List ℕ) → ((rest : List ℕ) → b ≡ p ++ rest → ⊥) → is_lt (by_bytes b p) ≡ is_lt (by_bytes b (p ++ more))
apart_before [] b more apart = absurd (apart b refl)
apart_before (x ∷ p) [] more apart = refl
apart_before (x ∷ p) (y ∷ b) more apart = by_case (nat_cmp y x) (ranks y x) (λ same. apart_before p b more (λ rest e. apart rest (λ i. same i ∷ e i)))
  where
    by_case : (r : Ordering) → MatchOrdering r (y < x) (y ≡ x) (x < y) → (y ≡ x → is_lt (by_bytes b p) ≡ is_lt (by_bytes b (p ++ more))) → is_lt (ordering_then r (by_bytes b p)) ≡ is_lt (ordering_then r (by_bytes b (p ++ more)))
    by_case Less m deeper = refl
    by_case Equal m deeper = deeper m
    by_case Greater m deeper = refl

pub front_empty : (folder : List ℕ) → length folder ≡ 0 → front_of folder ≡ []
front_empty [] e = refl
front_empty (b ∷ bs) e = absurd (omega arith)

pub front_some : (folder : List ℕ) → (length folder ≡ 0 → ⊥) → front_of folder ≡ folder ++ 47 ∷ []
front_some [] some = absurd (some refl)
front_some (b ∷ bs) some = refl

-- nothing is before the whole library
pub none_before : (folder uri : List ℕ) → length folder ≡ 0 → false ≡ is_lt (by_bytes uri (front_of folder))
none_before [] [] e = refl
none_before [] (x ∷ uri) e = refl
none_before (b ∷ bs) uri e = absurd (omega arith)

pub all_under : (folder uri : List ℕ) → length folder ≡ 0 → true ≡ is_under folder uri
all_under [] uri e = refl
all_under (b ∷ bs) uri e = absurd (omega arith)

pub not_in : (folder uri : List ℕ) → ((rest : List ℕ) → uri ≡ folder ++ rest → ⊥) → false ≡ lies_in folder uri
not_in folder uri apart =
    sym (false_from_ne_true (lies_in folder uri) (λ h. apart (47 ∷ drop (length (folder ++ 47 ∷ [])) uri) (begins_rest uri (folder ++ 47 ∷ []) h ∙ append_assoc folder (47 ∷ []) (drop (length (folder ++ 47 ∷ [])) uri))))

pub in_by_rest : (folder uri rest : List ℕ) → uri ≡ folder ++ rest → starts_with nat_eq rest (47 ∷ []) ≡ lies_in folder uri
in_by_rest folder uri rest e =
    both_ways (starts_with nat_eq rest (47 ∷ [])) (lies_in folder uri)
    (λ h. begins_from uri (folder ++ 47 ∷ []) (drop 1 rest) (e ∙ ap (λ (t : List ℕ). folder ++ t) (begins_rest rest (47 ∷ []) h) ∙ sym (append_assoc folder (47 ∷ []) (drop 1 rest))))
    (λ h. begins_from rest (47 ∷ []) (drop (length (folder ++ 47 ∷ [])) uri)
    (append_cancel_left folder rest (47 ∷ drop (length (folder ++ 47 ∷ [])) uri) (sym e ∙ begins_rest uri (folder ++ 47 ∷ []) h ∙ append_assoc folder (47 ∷ []) (drop (length (folder ++ 47 ∷ [])) uri))))

-- some song passes where what passes is not empty
pub some_passes : (p : SongData → Bool) (xs : List SongData) → not (nat_eq (length (filter p xs)) 0) ≡ list_any p xs
some_passes p [] = refl
some_passes p (x ∷ xs) = elim (p x) as (λ b. not (nat_eq (length (cond b (x ∷ filter p xs) (filter p xs))) 0) ≡ b || list_any p xs) [
  | true ↦ not_from_false (nat_eq (suc (length (filter p xs))) 0) (ne_eqb (suc (length (filter p xs))) 0 (λ e. omega arith))
  | false ↦ some_passes p xs
]

pub folder_is : (folder : List ℕ) (xs : List SongData) → (length folder ≡ 0 → ⊥) → not (nat_eq (length (under folder xs)) 0) ≡ is_folder folder xs
folder_is folder xs some = some_passes (λ (s : SongData). is_under folder s.uri) xs ∙ ap (λ b. b || list_any (λ (s : SongData). is_under folder s.uri) xs) (sym (ne_eqb (length folder) 0 some))

pub under_order : (folder : List ℕ) (xs : List SongData) → InByteOrder xs → InByteOrder (under folder xs)
under_order folder xs h = AllPairs-filter (λ a b. by_uri a b ≡ Less) (λ (s : SongData). is_under folder s.uri) xs h
