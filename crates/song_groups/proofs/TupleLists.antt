-- The tuples of songs, and their lines.
use Rattle.std.proofs.Common.{◌≡◌, ◌∙◌, ℕ, suc, ◌+◌, ◌-◌, ◌<◌, Bool, true, false, cond, ◌&&◌, ◌||◌, List, [], ◌∷◌, ◌++◌, map, length, get_or, take, drop, min, Option, Some, refl, sym, ap, inl, inr, arith, Bor}
use Rattle.std.specs.Prelude.{◌↔◌, IsTrue, IsPermutation, nat_eq, nat_lt, not, slice_get}
use Rattle.std.specs.Global.{Vec}
use lib.Pointwise.{pointwise}
use Rattle.std.specs.Bool.{MatchBool}
use Rattle.std.specs.List.{filter, list_any, Contains, dedup, common_prefix_len}
use Rattle.std.specs.List.Sorted.{IsStrictlySortedBy, IsSorted}
use Rattle.std.specs.Ordering.{eq_by_cmp, is_eq, ordering_then, nat_cmp}
use Rattle.std.specs.declared.cmp.Ordering.{Ordering}
use Rattle.std.specs.Cmp.{IsTotalOrder, Equal-is, on_total}
use Rattle.std.specs.Cmp.Lexicographic.{slice_cmp, on_texts, texts_ties, lists_total, lists_ties}
use Rattle.std.specs.FinMap.{IsAntisymmetric, slice_cmp-IsAntisymmetric}
use Rattle.std.proofs.lemmas.Bool.Decides.{nat_tests}
use Rattle.std.proofs.lemmas.Bool.{and_parts, and_from, cases_lt}
use Rattle.std.proofs.lemmas.List.{append-nil, drop_all, drop-map, map-append}
use Rattle.std.proofs.Math.Seq.{take-suc}
use Rattle.std.proofs.lemmas.List.Kept.{IsStrictlySortedBy-dedup}
use Rattle.std.proofs.lemmas.List.Sorted.{IsPermutation-map, list_any-IsPermutation}
use Rattle.mpd_text.specs.Songs.Song.{SongData}
use Rattle.mpd_text.specs.declared.songs.song.TagName.{TagName}
use Rattle.song_groups.specs.Columns.{text_in}
use Rattle.song_groups.specs.Tuples.{tuple_of, has_last, by_texts, ascending_tuples, listed_tuples, tuples, tuples_now, stands_in, HaveTheSame, labelled, tuple_lines, unchanged}
use Rattle.song_groups.proofs.Once.{among, once-rises, same_once, has-each, among_from, among_gives, sorts}
use Rattle.song_groups.proofs.Orders.{bytes, bytes_apart}

texts : IsTotalOrder by_texts
texts = lists_total bytes

texts_apart : IsAntisymmetric by_texts
texts_apart = slice_cmp-IsAntisymmetric bytes_apart

pub tuples-rise : (columns : List (Option TagName)) (songs : List SongData) → IsStrictlySortedBy by_texts (tuples columns songs)
unfolding ascending_tuples
tuples-rise columns songs = once-rises by_texts (listed_tuples columns songs)

-- in a filtered list stands what passes and stands in the list: the first element, and then the others
step : (b c eq x y : Bool) → x ≡ (c && y) → (eq ≡ true → b ≡ c) → cond b (eq || x) x ≡ (c && (eq || y))
step true true true x y deeper link = refl
step true false true x y deeper link = link refl
step true c false x y deeper link = deeper
step false true true x y deeper link = let e : false ≡ true = link refl in cc
step false false true x y deeper link = deeper
step false c false x y deeper link = deeper

among-cond : (b : Bool) (tuple first : List (List ℕ)) (others : List (List (List ℕ))) → among by_texts tuple (cond b (first ∷ others) others) ≡ cond b (eq_by_cmp by_texts tuple first || among by_texts tuple others) (among by_texts tuple others)
among-cond true tuple first others = refl
among-cond false tuple first others = refl

none : (b : Bool) → false ≡ (b && false)
none true = refl
none false = refl

among-filter : (p : List (List ℕ) → Bool) (tuple : List (List ℕ)) (all : List (List (List ℕ))) → among by_texts tuple (filter p all) ≡ (p tuple && among by_texts tuple all)
among-filter p tuple [] = none (p tuple)
among-filter p tuple (first ∷ others) =
    among-cond (p first) tuple first (filter p others)
    ∙ step (p first) (p tuple) (eq_by_cmp by_texts tuple first) (among by_texts tuple (filter p others)) (among by_texts tuple others) (among-filter p tuple others)
    (λ e. ap p (sym (texts_apart tuple first ((Equal-is (by_texts tuple first)).0 e))))

pub tuples-have : (columns : List (Option TagName)) (songs : List SongData) (tuple : List (List ℕ)) → Contains (tuples columns songs) tuple ↔ (Contains (map (tuple_of columns) songs) tuple × IsTrue (has_last tuple))
unfolding ascending_tuples
tuples-have columns songs tuple = (to, from)
  where
    to : Contains (tuples columns songs) tuple → Contains (map (tuple_of columns) songs) tuple × IsTrue (has_last tuple)
    to h =
        let both : (has_last tuple && among by_texts tuple (map (tuple_of columns) songs)) ≡ true =
        sym (among-filter has_last tuple (map (tuple_of columns) songs)) ∙ among_from texts texts_apart (listed_tuples columns songs) tuple ((has-each texts texts_apart (listed_tuples columns songs) tuple).0 h) in
        (among_gives texts texts_apart (map (tuple_of columns) songs) tuple ((and_parts (has_last tuple) (among by_texts tuple (map (tuple_of columns) songs)) both).1), (and_parts (has_last tuple) (among by_texts tuple (map (tuple_of columns) songs)) both).0)

    from : Contains (map (tuple_of columns) songs) tuple × IsTrue (has_last tuple) → Contains (tuples columns songs) tuple
    from h =
        (has-each texts texts_apart (listed_tuples columns songs) tuple).1 (among_gives texts texts_apart (listed_tuples columns songs) tuple
        (among-filter has_last tuple (map (tuple_of columns) songs) ∙ and_from (has_last tuple) (among by_texts tuple (map (tuple_of columns) songs)) h.1 (among_from texts texts_apart (map (tuple_of columns) songs) tuple h.0)))

-- ---- what a sort and `dedup` leave of tuples in memory

abbrev pub now : Vec (Bor (List ℕ)) → List (List ℕ)
now tuple = map (λ r. r.now) tuple.items

abbrev pub cmp_now : Vec (Bor (List ℕ)) → Vec (Bor (List ℕ)) → Ordering
cmp_now a b = slice_cmp (λ (r s : Bor (List ℕ)). slice_cmp nat_cmp r.now s.now) a.items b.items

abbrev pub eq_now : Vec (Bor (List ℕ)) → Vec (Bor (List ℕ)) → Bool
eq_now a b = pointwise (λ (r s : Bor (List ℕ)). pointwise nat_eq r.now s.now) a.items b.items

cmp-now : (rs ss : List (Bor (List ℕ))) → slice_cmp (λ (r s : Bor (List ℕ)). slice_cmp nat_cmp r.now s.now) rs ss ≡ by_texts (map (λ r. r.now) rs) (map (λ s. s.now) ss)
cmp-now [] [] = refl
cmp-now [] (s ∷ ss) = refl
cmp-now (r ∷ rs) [] = refl
cmp-now (r ∷ rs) (s ∷ ss) = ap (ordering_then (slice_cmp nat_cmp r.now s.now)) (cmp-now rs ss)

eq-now : (a b : Vec (Bor (List ℕ))) → eq_now a b ≡ eq_by_cmp cmp_now a b
eq-now a b = lists_ties (λ (r s : Bor (List ℕ)). slice_cmp nat_cmp r.now s.now) (λ r s. texts_ties r.now s.now) a.items b.items

now_total : IsTotalOrder cmp_now
now_total = on_total (λ (v : Vec (Bor (List ℕ))). v.items) (lists_total (on_texts (λ (r : Bor (List ℕ)). r.now)))

pub sorts_tuples : (given sorted : List (Vec (Bor (List ℕ)))) → IsPermutation given sorted → IsSorted cmp_now sorted → tuples_now (dedup eq_now sorted) ≡ ascending_tuples (tuples_now given)
unfolding ascending_tuples
sorts_tuples given sorted moved up =
    sorts texts texts_apart now cmp_now eq_now (λ a b. cmp-now a.items b.items) (λ a b. eq-now a b ∙ ap is_eq (cmp-now a.items b.items)) given sorted moved
    (IsStrictlySortedBy-dedup now_total eq-now sorted up)

-- ---- the last text

filled : (n : ℕ) → not (nat_eq n 0) ≡ nat_lt 0 n
filled n = grind (arith, nat_tests)

pub last_of : (columns : List (Option TagName)) (column : Option TagName) (song : SongData) → Some column ≡ slice_get columns (length columns - 1) → not (nat_eq (length (text_in column song)) 0) ≡ has_last (tuple_of columns song)
last_of [] column song e = cc
last_of (c ∷ []) column song e = let same : column ≡ c = cc in filled (length (text_in column song)) ∙ ap (λ k. nat_lt 0 (length (text_in k song))) same
last_of (c ∷ d ∷ cs) column song e =
    let index : length (c ∷ d ∷ cs) - 1 ≡ suc (length cs) = omega arith in
    let before : length (d ∷ cs) - 1 ≡ length cs = omega arith in
    last_of (d ∷ cs) column song (e ∙ ap (slice_get (c ∷ d ∷ cs)) index ∙ sym (ap (slice_get (d ∷ cs)) before))

-- ---- lines

-- where one of two lists is at its end
ends : {G : Type 0} (n : ℕ) (xs ys : List (Bor (List ℕ))) (make : List (List ℕ) → List (List ℕ) → G) (end : G) → ((zs : List (List ℕ)) → make [] zs ≡ end) → ((zs : List (List ℕ)) → make zs [] ≡ end) → n ≡ min (length xs) (length ys)
    → make (map (λ r. r.now) (drop n xs)) (map (λ r. r.now) (drop n ys)) ≡ end
ends n xs ys make end left right e = elim (cases_lt (length xs) (length ys)) [
  | inl l ↦ ap (λ (zs : List (Bor (List ℕ))). make (map (λ r. r.now) zs) (map (λ r. r.now) (drop n ys))) (drop_all n xs (omega arith)) ∙ left (map (λ r. r.now) (drop n ys))
  | inr l ↦ ap (λ (zs : List (Bor (List ℕ))). make (map (λ r. r.now) (drop n xs)) (map (λ r. r.now) zs)) (drop_all n ys (omega arith)) ∙ right (map (λ r. r.now) (drop n xs))
]

labelled-none : (labels : List (List ℕ)) → labelled labels [] ≡ []
labelled-none [] = refl
labelled-none (label ∷ labels) = refl

-- after the last line
pub lines_end : (n : ℕ) (labels texts : List (Bor (List ℕ))) (answer all : List ℕ) → n ≡ min (length labels) (length texts)
    → answer ++ labelled (map (λ r. r.now) (drop n labels)) (map (λ r. r.now) (drop n texts)) ≡ all → answer ≡ all
lines_end n labels texts answer all e h =
    sym (append-nil answer) ∙ ap (λ (rest : List ℕ). answer ++ rest) (sym (ends n labels texts labelled [] (λ zs. refl) labelled-none e)) ∙ h

common-none : (zs : List (List ℕ)) → common_prefix_len (pointwise nat_eq) zs [] ≡ 0
common-none [] = refl
common-none (z ∷ zs) = refl

-- after the last pair, all of which are shared
pub all_shared : (n shared : ℕ) (before tuple : List (Bor (List ℕ))) → n ≡ min (length before) (length tuple) → shared ≡ n
    → common_prefix_len (pointwise nat_eq) (map (λ r. r.now) before) (map (λ r. r.now) tuple) ≡ shared + common_prefix_len (pointwise nat_eq) (map (λ r. r.now) (drop shared before)) (map (λ r. r.now) (drop shared tuple))
    → shared ≡ common_prefix_len (pointwise nat_eq) (map (λ r. r.now) before) (map (λ r. r.now) tuple)
all_shared n shared before tuple e same h =
    let none : common_prefix_len (pointwise nat_eq) (map (λ r. r.now) (drop shared before)) (map (λ r. r.now) (drop shared tuple)) ≡ 0 = ends shared before tuple (common_prefix_len (pointwise nat_eq)) 0 (λ zs. refl) common-none (same ∙ e) in
    omega arith

-- the lines from the first changed column on
pub changed : (labels before tuple ls ts : List (Bor (List ℕ))) (start : ℕ) → start ≡ unchanged (map (λ r. r.now) before) (map (λ r. r.now) tuple) → ls ≡ drop start labels → ts ≡ drop start tuple
    → labelled (map (λ r. r.now) ls) (map (λ r. r.now) ts) ≡ tuple_lines (map (λ r. r.now) labels) (map (λ r. r.now) before) (map (λ r. r.now) tuple)
changed labels before tuple ls ts start e l t =
    ap (λ (zs : List (Bor (List ℕ))). labelled (map (λ r. r.now) zs) (map (λ r. r.now) ts)) l
    ∙ ap (λ (zs : List (Bor (List ℕ))). labelled (map (λ r. r.now) (drop start labels)) (map (λ r. r.now) zs)) t
    ∙ ap (λ (zs : List (List ℕ)). labelled zs (map (λ r. r.now) (drop start tuple))) (sym (drop-map (λ (r : Bor (List ℕ)). r.now) start labels))
    ∙ ap (labelled (drop start (map (λ r. r.now) labels))) (sym (drop-map (λ (r : Bor (List ℕ)). r.now) start tuple))
    ∙ ap (λ k. labelled (drop k (map (λ r. r.now) labels)) (drop k (map (λ r. r.now) tuple))) e

-- ---- the tuples of a hash set

-- lists with the same tuples have one list of them in order
pub same_ascending : (tuples others : List (List (List ℕ))) → HaveTheSame tuples others → ascending_tuples tuples ≡ ascending_tuples others
unfolding ascending_tuples
same_ascending tuples others h = same_once texts texts_apart tuples others h

in_memory : (tuple : Vec (Bor (List ℕ))) (keys : List (Vec (Bor (List ℕ)))) → list_any (eq_now tuple) keys ≡ stands_in (now tuple) (tuples_now keys)
in_memory tuple [] = refl
in_memory tuple (key ∷ keys) =
    ap (λ b. b || list_any (eq_now tuple) keys) (eq-now tuple key ∙ ap is_eq (cmp-now tuple.items key.items))
    ∙ ap (λ b. eq_by_cmp by_texts (now tuple) (now key) || b) (in_memory tuple keys)

either : (a b c : Bool) → b ≡ c → (a || b) ≡ (c || a)
either true true true e = refl
either true true false e = cc
either true false true e = cc
either true false false e = refl
either false true true e = refl
either false true false e = cc
either false false true e = cc
either false false false e = refl

already : (a b c : Bool) → b ≡ c → (a ≡ true → b ≡ true) → b ≡ (c || a)
already true true true e h = refl
already true true false e h = cc
already true false c e h = let no : false ≡ true = h refl in cc
already false true true e h = refl
already false true false e h = cc
already false false true e h = cc
already false false false e h = refl

regrouped : (a b c : Bool) → (a || (b || c)) ≡ ((a || b) || c)
regrouped true b c = refl
regrouped false b c = refl

one_more : (tuple : List (List ℕ)) (others : List (List (List ℕ))) (last : List (List ℕ)) → stands_in tuple (others ++ last ∷ []) ≡ (stands_in tuple others || eq_by_cmp by_texts tuple last)
one_more tuple [] last = either (eq_by_cmp by_texts tuple last) false false refl
one_more tuple (other ∷ others) last =
    ap (λ b. eq_by_cmp by_texts tuple other || b) (one_more tuple others last) ∙ regrouped (eq_by_cmp by_texts tuple other) (stands_in tuple others) (eq_by_cmp by_texts tuple last)

-- a set that a tuple was put into, whether it was there or not
pub puts_tuple : (keys new : List (Vec (Bor (List ℕ)))) (tuple : Vec (Bor (List ℕ))) (added : Bool) (others : List (List (List ℕ))) → HaveTheSame (tuples_now keys) others
    → added ≡ not (list_any (eq_now tuple) keys) → MatchBool added (IsPermutation (tuple ∷ keys) new) (new ≡ keys) → HaveTheSame (tuples_now new) (others ++ now tuple ∷ [])
puts_tuple keys new tuple true others same added moved = λ x.
    sym (list_any-IsPermutation (eq_by_cmp by_texts x) (tuples_now (tuple ∷ keys)) (tuples_now new) (IsPermutation-map now (tuple ∷ keys) new moved))
    ∙ either (eq_by_cmp by_texts x (now tuple)) (stands_in x (tuples_now keys)) (stands_in x others) (same x)
    ∙ sym (one_more x others (now tuple))
puts_tuple keys new tuple false others same added moved = λ x.
    ap (λ (ks : List (Vec (Bor (List ℕ)))). stands_in x (tuples_now ks)) moved
    ∙ already (eq_by_cmp by_texts x (now tuple)) (stands_in x (tuples_now keys)) (stands_in x others) (same x)
    (λ e. ap (λ (y : List (List ℕ)). stands_in y (tuples_now keys)) (texts_apart x (now tuple) ((Equal-is (by_texts x (now tuple))).0 e)) ∙ sym (in_memory tuple keys) ∙ there (list_any (eq_now tuple) keys) added)
    ∙ sym (one_more x others (now tuple))
  where
    there : (b : Bool) → false ≡ not b → b ≡ true
    there true e = refl
    there false e = cc

kept_or_left : (b : Bool) (x : List (List ℕ)) (xs ys zs : List (List (List ℕ))) → xs ≡ ys ++ zs → cond b (x ∷ xs) xs ≡ cond b (x ∷ ys) ys ++ zs
kept_or_left true x xs ys zs e = ap (λ (rest : List (List (List ℕ))). x ∷ rest) e
kept_or_left false x xs ys zs e = e

listed-last : (columns : List (Option TagName)) (songs : List SongData) (song : SongData)
    → listed_tuples columns (songs ++ song ∷ []) ≡ listed_tuples columns songs ++ cond (has_last (tuple_of columns song)) (tuple_of columns song ∷ []) []
listed-last columns [] song = refl
listed-last columns (first ∷ songs) song =
    kept_or_left (has_last (tuple_of columns first)) (tuple_of columns first) (listed_tuples columns (songs ++ song ∷ [])) (listed_tuples columns songs)
    (cond (has_last (tuple_of columns song)) (tuple_of columns song ∷ []) []) (listed-last columns songs song)

-- the tuples of one song more
pub listed_more : (columns : List (Option TagName)) (songs : List (Bor SongData)) (n : ℕ) (song : Bor SongData) → n < length songs → song ≡ get_or songs n song
    → listed_tuples columns (map (λ s. s.now) (take (n + 1) songs)) ≡ listed_tuples columns (map (λ s. s.now) (take n songs)) ++ cond (has_last (tuple_of columns song.now)) (tuple_of columns song.now ∷ []) []
listed_more columns songs n song within is =
    let index : n + 1 ≡ suc n = omega arith in
    ap (λ k. listed_tuples columns (map (λ s. s.now) (take k songs))) index
    ∙ ap (λ (ss : List (Bor SongData)). listed_tuples columns (map (λ s. s.now) ss)) (take-suc songs n song within ∙ ap (λ (s : Bor SongData). take n songs ++ s ∷ []) (sym is))
    ∙ ap (listed_tuples columns) (map-append (λ (s : Bor SongData). s.now) (take n songs) (song ∷ []))
    ∙ listed-last columns (map (λ s. s.now) (take n songs)) song.now

-- a song whose tuple is put into the set
pub song_put : (columns : List (Option TagName)) (songs : List (Bor SongData)) (n : ℕ) (song : Bor SongData) (keys new : List (Vec (Bor (List ℕ)))) (tuple : Vec (Bor (List ℕ))) (added : Bool)
    → n < length songs → song ≡ get_or songs n song → HaveTheSame (tuples_now keys) (listed_tuples columns (map (λ s. s.now) (take n songs)))
    → has_last (tuple_of columns song.now) ≡ true → now tuple ≡ tuple_of columns song.now → added ≡ not (list_any (eq_now tuple) keys)
    → MatchBool added (IsPermutation (tuple ∷ keys) new) (new ≡ keys) → HaveTheSame (tuples_now new) (listed_tuples columns (map (λ s. s.now) (take (n + 1) songs)))
song_put columns songs n song keys new tuple added within is same has shows put moved = λ x.
    let before : List (List (List ℕ)) = listed_tuples columns (map (λ s. s.now) (take n songs)) in
    puts_tuple keys new tuple added before same put moved x
    ∙ ap (λ (t : List (List ℕ)). stands_in x (before ++ t ∷ [])) shows
    ∙ ap (λ b. stands_in x (before ++ cond b (tuple_of columns song.now ∷ []) [])) (sym has)
    ∙ ap (stands_in x) (sym (listed_more columns songs n song within is))

-- a song that has no tuple
pub song_passed : (columns : List (Option TagName)) (songs : List (Bor SongData)) (n : ℕ) (song : Bor SongData) (keys : List (Vec (Bor (List ℕ))))
    → n < length songs → song ≡ get_or songs n song → HaveTheSame (tuples_now keys) (listed_tuples columns (map (λ s. s.now) (take n songs)))
    → has_last (tuple_of columns song.now) ≡ false → HaveTheSame (tuples_now keys) (listed_tuples columns (map (λ s. s.now) (take (n + 1) songs)))
song_passed columns songs n song keys within is same has = λ x.
    let before : List (List (List ℕ)) = listed_tuples columns (map (λ s. s.now) (take n songs)) in
    same x
    ∙ ap (stands_in x) (sym (append-nil before))
    ∙ ap (λ b. stands_in x (before ++ cond b (tuple_of columns song.now ∷ []) [])) (sym has)
    ∙ ap (stands_in x) (sym (listed_more columns songs n song within is))
