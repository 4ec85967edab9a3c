-- The groups of songs that stand in the order of their texts.
use Rattle.std.proofs.Common.{◌≡◌, ◌∙◌, ℕ, zero, suc, ◌+◌, ◌-◌, ◌<◌, ◌≤◌, Bool, true, false, List, [], ◌∷◌, ◌++◌, map, length, take, drop, Option, refl, sym, ap, subst, arith, Bor}
use Rattle.std.specs.Prelude.{nat_eq}
use lib.Pointwise.{pointwise, bytes_decides}
use Rattle.std.specs.List.Sorted.{IsSorted, IsStrictlySortedBy, IsPartitionedBy, IsPartitionPoint}
use Rattle.std.specs.List.{AllWithin, list_any, sum_by}
use Rattle.std.specs.Ordering.{eq_by_cmp, is_lt}
use Rattle.std.proofs.lemmas.List.Sorted.{IsPermutation-map, list_any-IsPermutation}
use Rattle.std.proofs.lemmas.List.Sums.{sum_by-cons}
use Rattle.std.proofs.lemmas.List.{take-map, drop-map, length-map, length-drop, append_assoc, append-nil, map-append}
use Rattle.mpd_text.specs.Songs.Song.{SongData}
use Rattle.mpd_text.specs.declared.songs.song.TagName.{TagName}
use Rattle.mpd_text.specs.Texts.{by_bytes, ascending}
use Rattle.song_search.specs.declared.search.Count.{Count}
use Rattle.song_groups.specs.Columns.{text_in, texts_in, has_text, with_text}
use Rattle.song_groups.specs.Order.{in_order, text_key, IsStablyOrderedBy}
use Rattle.song_groups.specs.Counts.{count_of, group_of, groups, groups_now, CountsEachOnce}
use Rattle.song_groups.specs.declared.counting.Group.{Group}
use Rattle.song_groups.proofs.Once.{once, same_once, once-is, once-rises, among-once}
use Rattle.song_groups.proofs.Rows.{row, map_same, each-behind, each_one, each_text, each_among, counts_all}
use Rattle.song_groups.proofs.Runs.{first_apart, first_run}
use Rattle.song_groups.proofs.References.{behind, within-behind, partitioned-refs, sorted-drop}
use Rattle.song_groups.proofs.Orders.{bytes, bytes_apart}

-- whether a reference is to a song of this text
abbrev pub at_text : Option TagName → List ℕ → Bor SongData → Bool
at_text column text r = has_text column text r.now

-- those of the first text stand before the others
pub apart_here : (column : Option TagName) (rest : List (Bor SongData)) (first : Bor SongData) (others : List (Bor SongData)) → rest ≡ first ∷ others → IsSorted (in_order (text_key column) false) (behind rest) → IsPartitionedBy (at_text column (text_in column first.now)) rest
apart_here column rest first others e up =
    let P : List (Bor SongData) → Type 0 = λ rs. IsSorted (in_order (text_key column) false) (behind rs) → IsPartitionedBy (at_text column (text_in column first.now)) rs in
    let here : P (first ∷ others) = λ h. partitioned-refs (has_text column (text_in column first.now)) (first ∷ others) (first_apart (text_in column) (pointwise nat_eq) bytes_decides bytes bytes_apart first.now (behind others) h) in
    subst P (sym e) here up

-- some song is of the first text
pub not_none : (column : Option TagName) (rest : List (Bor SongData)) (first : Bor SongData) (others : List (Bor SongData)) (end : ℕ) → rest ≡ first ∷ others
    → IsPartitionPoint (λ r. at_text column (text_in column first.now) r ≡ true) (λ r. at_text column (text_in column first.now) r ≡ false) rest end → 0 < end
not_none column rest first others end e h =
    let P : List (Bor SongData) → Type 0 = λ rs. IsPartitionPoint (λ r. at_text column (text_in column first.now) r ≡ true) (λ r. at_text column (text_in column first.now) r ≡ false) rs end → 0 < end in
    subst P (sym e) (here end) h
  where
    here : (n : ℕ) → IsPartitionPoint (λ r. at_text column (text_in column first.now) r ≡ true) (λ r. at_text column (text_in column first.now) r ≡ false) (first ∷ others) n → 0 < n
    here zero k =
        let p : at_text column (text_in column first.now) first ≡ false = k.1 0 first (omega arith) (omega arith) in
        let q : at_text column (text_in column first.now) first ≡ true = (bytes_decides (text_in column first.now) (text_in column first.now)).1 refl in cc
    here (suc n) k = omega arith

groups-rows : (column : Option TagName) (rate : ℕ) (songs : List SongData) → groups column rate songs ≡ map (λ t. (t, count_of rate (row (text_in column) (pointwise nat_eq) bytes_decides t songs))) (once by_bytes (map (text_in column) songs))
unfolding ascending
groups-rows column rate songs = refl

-- the first group is of the first songs, and the others are of the others
pub first_group : (column : Option TagName) (rate : ℕ) (rest : List (Bor SongData)) (first : Bor SongData) (others : List (Bor SongData)) (end : ℕ) → rest ≡ first ∷ others
    → IsSorted (in_order (text_key column) false) (behind rest)
    → IsPartitionPoint (λ r. at_text column (text_in column first.now) r ≡ true) (λ r. at_text column (text_in column first.now) r ≡ false) rest end
    → groups column rate (behind rest) ≡ (text_in column first.now, count_of rate (behind (take end rest))) ∷ groups column rate (behind (drop end rest))
first_group column rate rest first others end e up h =
    let P : List (Bor SongData) → Type 0 = λ rs. IsSorted (in_order (text_key column) false) (behind rs)
    → IsPartitionPoint (λ r. at_text column (text_in column first.now) r ≡ true) (λ r. at_text column (text_in column first.now) r ≡ false) rs end
    → groups column rate (behind rs) ≡ (text_in column first.now, count_of rate (behind (take end rs))) ∷ groups column rate (behind (drop end rs)) in
    subst P (sym e) here up h
  where
    here : IsSorted (in_order (text_key column) false) (behind (first ∷ others))
        → IsPartitionPoint (λ r. at_text column (text_in column first.now) r ≡ true) (λ r. at_text column (text_in column first.now) r ≡ false) (first ∷ others) end
        → groups column rate (behind (first ∷ others)) ≡ (text_in column first.now, count_of rate (behind (take end (first ∷ others)))) ∷ groups column rate (behind (drop end (first ∷ others)))
    here sorted parts =
        let long : length (behind (first ∷ others)) ≡ length (first ∷ others) = length-map (first ∷ others) (λ (r : Bor SongData). r.now) in
        let own : AllWithin (λ y. has_text column (text_in column first.now) y ≡ true) (behind (first ∷ others)) 0 end = within-behind (λ y. has_text column (text_in column first.now) y ≡ true) (first ∷ others) 0 end parts.0 in
        let later : AllWithin (λ y. has_text column (text_in column first.now) y ≡ false) (behind (first ∷ others)) end (length (first ∷ others)) = within-behind (λ y. has_text column (text_in column first.now) y ≡ false) (first ∷ others) end (length (first ∷ others)) parts.1 in
        groups-rows column rate (behind (first ∷ others))
        ∙ first_run (text_in column) (pointwise nat_eq) bytes_decides bytes bytes_apart (λ t songs. (t, count_of rate songs)) first.now (behind others) end sorted own
        (λ k d l m. later k d l (omega arith))
        ∙ ap (λ (songs : List SongData). (text_in column first.now, count_of rate songs) ∷ map (λ t. (t, count_of rate (row (text_in column) (pointwise nat_eq) bytes_decides t (drop end (behind (first ∷ others)))))) (once by_bytes (map (text_in column) (drop end (behind (first ∷ others)))))) (take-map (λ (r : Bor SongData). r.now) end (first ∷ others))
        ∙ ap (λ (gs : List (List ℕ × Count)). (text_in column first.now, count_of rate (behind (take end (first ∷ others)))) ∷ gs)
        (sym (groups-rows column rate (drop end (behind (first ∷ others)))) ∙ ap (groups column rate) (drop-map (λ (r : Bor SongData). r.now) end (first ∷ others)))

abbrev pair : List ℕ → ℕ → List SongData → List ℕ × Count
pair t rate songs = (t, count_of rate songs)

-- a text has one count in two lists
abbrev same : Option TagName → ℕ → List SongData → List SongData → List ℕ → Type 0
same column rate songs sorted t = group_of column rate sorted t ≡ group_of column rate songs t

-- songs in a stable order of their texts have the same groups
pub same_groups : (column : Option TagName) (rate : ℕ) (songs sorted : List SongData) → IsStablyOrderedBy (text_key column) false songs sorted → groups column rate sorted ≡ groups column rate songs
same_groups column rate songs sorted r =
    groups-rows column rate sorted
    ∙ ap (map (λ t. (t, count_of rate (row (text_in column) (pointwise nat_eq) bytes_decides t sorted))))
    (same_once bytes bytes_apart (texts_in column sorted) (texts_in column songs) (λ q. sym (list_any-IsPermutation (eq_by_cmp by_bytes q) (texts_in column songs) (texts_in column sorted) (IsPermutation-map (text_in column) songs sorted r.permutation))))
    ∙ map_same (λ t. (t, count_of rate (row (text_in column) (pointwise nat_eq) bytes_decides t sorted))) (λ t. (t, count_of rate (row (text_in column) (pointwise nat_eq) bytes_decides t songs))) (once by_bytes (texts_in column songs))
    (each_among (text_in column) (pointwise nat_eq) bytes_decides bytes bytes_apart (same column rate songs sorted) (once by_bytes (texts_in column songs))
    (λ t there. ap (pair t rate) (each_text (text_in column) (pointwise nat_eq) bytes_decides (λ u. with_text column u sorted ≡ with_text column u songs) by_bytes bytes_apart songs
    (each_one (λ song. with_text column (text_in column song) sorted ≡ with_text column (text_in column song) songs) r.ties songs) t (sym (among-once bytes bytes_apart (texts_in column songs) t) ∙ there))))
    ∙ sym (groups-rows column rate songs)

sum-map : {A B : Type 0} (f : B → ℕ) (g : A → B) (xs : List A) → sum_by f (map g xs) ≡ sum_by (λ x. f (g x)) xs
sum-map f g [] = refl
sum-map f g (x ∷ xs) = sum_by-cons f (g x) (map g xs) ∙ ap (λ n. f (g x) + n) (sum-map f g xs) ∙ sym (sum_by-cons (λ y. f (g y)) x xs)

pub counts_each_once : (column : Option TagName) (rate : ℕ) (songs : List SongData) → CountsEachOnce column rate songs
counts_each_once column rate songs =
    ap (sum_by (λ (group : List ℕ × Count). group.1.songs)) (groups-rows column rate songs)
    ∙ sum-map (λ (group : List ℕ × Count). group.1.songs) (λ t. (t, count_of rate (row (text_in column) (pointwise nat_eq) bytes_decides t songs))) (once by_bytes (texts_in column songs))
    ∙ counts_all (text_in column) (pointwise nat_eq) bytes_decides bytes bytes_apart (once by_bytes (texts_in column songs)) songs (once-rises by_bytes (texts_in column songs))
    (each-behind (λ t. list_any (eq_by_cmp by_bytes t) (once by_bytes (texts_in column songs)) ≡ true) (text_in column) songs
    (each_among (text_in column) (pointwise nat_eq) bytes_decides bytes bytes_apart (λ t. list_any (eq_by_cmp by_bytes t) (once by_bytes (texts_in column songs)) ≡ true) (texts_in column songs)
    (λ t there. among-once bytes bytes_apart (texts_in column songs) t ∙ there)))

-- one more group, and the songs that are left
pub one_more : (column : Option TagName) (rate : ℕ) (rest : List (Bor SongData)) (first : Bor SongData) (others : List (Bor SongData)) (end : ℕ) → rest ≡ first ∷ others
    → IsSorted (in_order (text_key column) false) (behind rest)
    → IsPartitionPoint (λ r. at_text column (text_in column first.now) r ≡ true) (λ r. at_text column (text_in column first.now) r ≡ false) rest end
    → (run back : List (Bor SongData)) → run ≡ take end rest → back ≡ drop end rest
    → (found more all : List (List ℕ × Count)) → found ++ groups column rate (behind rest) ≡ all → more ≡ found ++ (text_in column first.now, count_of rate (behind run)) ∷ []
    → more ++ groups column rate (behind back) ≡ all
one_more column rate rest first others end e up parts run back r b found more all so_far grown =
    ap (λ (gs : List (List ℕ × Count)). gs ++ groups column rate (behind back)) grown
    ∙ append_assoc found ((text_in column first.now, count_of rate (behind run)) ∷ []) (groups column rate (behind back))
    ∙ ap (λ (front : List (Bor SongData)). found ++ (text_in column first.now, count_of rate (behind front)) ∷ groups column rate (behind back)) r
    ∙ ap (λ (left : List (Bor SongData)). found ++ (text_in column first.now, count_of rate (behind (take end rest))) ∷ groups column rate (behind left)) b
    ∙ ap (λ (gs : List (List ℕ × Count)). found ++ gs) (sym (first_group column rate rest first others end e up parts))
    ∙ so_far

pub grown : (found more : List Group) (group : Group) (text : List ℕ) (count : Count) → more ≡ found ++ group ∷ [] → group.text.now ≡ text → group.count ≡ count → groups_now more ≡ groups_now found ++ (text, count) ∷ []
grown found more group text count e t n =
    ap groups_now e ∙ map-append (λ (g : Group). (g.text.now, g.count)) found (group ∷ [])
    ∙ ap (λ (bytes : List ℕ). groups_now found ++ (bytes, group.count) ∷ []) t
    ∙ ap (λ (found_count : Count). groups_now found ++ (text, found_count) ∷ []) n

pub still_sorted : (column : Option TagName) (rest back : List (Bor SongData)) (end : ℕ) → end ≤ length rest → IsSorted (in_order (text_key column) false) (behind rest) → back ≡ drop end rest → IsSorted (in_order (text_key column) false) (behind back)
still_sorted column rest back end l up b =
    let long : length (behind rest) ≡ length rest = length-map rest (λ (r : Bor SongData). r.now) in
    subst (IsSorted (in_order (text_key column) false)) (drop-map (λ (r : Bor SongData). r.now) end rest ∙ ap behind (sym b)) (sorted-drop (λ a b. is_lt (in_order (text_key column) false a b)) end (behind rest) (omega arith) up)

-- less is left
pub less_left : (rest back : List (Bor SongData)) (end : ℕ) → end ≤ length rest → 0 < end → back ≡ drop end rest → length back < length rest
less_left rest back end l some b =
    let long : length back ≡ length rest - end = ap length b ∙ length-drop end rest in
    omega arith

-- no songs have no groups
no_groups : (column : Option TagName) (rate : ℕ) → groups column rate [] ≡ []
unfolding IsStrictlySortedBy
no_groups column rate = groups-rows column rate [] ∙ ap (map (λ t. (t, count_of rate (row (text_in column) (pointwise nat_eq) bytes_decides t [])))) (once-is bytes bytes_apart [] tt)

pub none_left : (column : Option TagName) (rate : ℕ) (rest : List (Bor SongData)) (found all : List (List ℕ × Count)) → length rest ≡ 0 → found ++ groups column rate (behind rest) ≡ all → found ≡ all
none_left column rate [] found all e h = sym (append-nil found) ∙ ap (λ (gs : List (List ℕ × Count)). found ++ gs) (sym (no_groups column rate)) ∙ h
none_left column rate (r ∷ rs) found all e h = absurd (omega arith)
