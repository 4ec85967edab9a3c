-- Songs by their keys: a list has one order.
use Rattle.std.proofs.Common.{◌≡◌, ◌∙◌, ℕ, Bool, true, false, ◌||◌, cond, List, [], ◌∷◌, map, reverse, Option, refl, sym, ap, subst, Bor}
use Rattle.std.specs.Prelude.{IsPermutation, not, ◌&&◌}
use Rattle.std.specs.Bool.{Decides}
use Rattle.std.specs.List.{list_any, AllByRecursion}
use Rattle.std.specs.List.Sorted.{IsStrictlySortedBy, IsSortedBy, IsStableBy, ties}
use Rattle.std.specs.Ordering.{eq_by_cmp, is_lt, flip_args, ordering_reverse}
use Rattle.std.specs.declared.cmp.Ordering.{Ordering}
use Rattle.std.specs.declared.cmp.Ordering.TheVariants.{Less, Equal, Greater}
use Rattle.std.specs.Cmp.{IsTotalOrder, IsStrictWeakOrder, Equal-is, both_ways, eq_by_cmp_equiv, tied_itself}
use Rattle.std.specs.Cmp.Lexicographic.{nat_list_cmp_total}
use Rattle.std.specs.FinMap.{IsAntisymmetric, nat_cmp-IsAntisymmetric, slice_cmp-IsAntisymmetric}
use Rattle.std.proofs.lemmas.Bool.{eq-eqb, eqb-true}
use Rattle.std.proofs.lemmas.Cmp.{back_total, nat_cmp_total}
use Rattle.std.proofs.lemmas.List.MinMax.{ranks_by}
use Rattle.std.proofs.lemmas.List.Sorted.{IsPermutation-map, IsPermutation-reverse, list_any-IsPermutation}
use lib.Pointwise.{bytes_decides}
use Rattle.mpd_text.specs.Songs.Song.{SongData}
use Rattle.mpd_text.specs.declared.songs.song.TagName.{TagName}
use Rattle.mpd_text.specs.Texts.{by_bytes}
use Rattle.song_groups.specs.Order.{Key, Text, Number, by_keys, same_key, goes_by_number, text_key, number_key, sort_key, in_order, with_key, ascending_keys, ordered, ordered_by, IsStablyOrdered, IsStablyOrderedBy}
use Rattle.song_groups.proofs.Once.{among, among-once, once-rises}
use Rattle.song_groups.proofs.Rows.{each-behind, each_one, reversed, rows, rows_same, each_text, each_among, rises_from, in_rows}
use Rattle.song_groups.proofs.References.{behind, filter-behind, filter_alike, sorted-behind, tied}

pub bytes : IsTotalOrder by_bytes
bytes = nat_list_cmp_total

pub bytes_apart : IsAntisymmetric by_bytes
bytes_apart = slice_cmp-IsAntisymmetric nat_cmp-IsAntisymmetric

-- ---- keys have a total order

keys_antisymm : (a b : Key) → by_keys a b ≡ ordering_reverse (by_keys b a)
keys_antisymm (Text a) (Text b) = bytes.antisymm a b
keys_antisymm (Text a) (Number n) = refl
keys_antisymm (Number m) (Text b) = refl
keys_antisymm (Number m) (Number n) = nat_cmp_total.antisymm m n

one_after_another : (a b c : Key) → by_keys a b ≡ Less → by_keys b c ≡ Less → by_keys a c ≡ Less
one_after_another (Text a) (Text b) (Text c) h k = bytes.trans a b c h k
one_after_another (Text a) (Text b) (Number n) h k = cc
one_after_another (Text a) (Number n) c h k = cc
one_after_another (Number m) b (Text c) h k = refl
one_after_another (Number m) (Text b) (Number n) h k = cc
one_after_another (Number m) (Number n) (Number o) h k = nat_cmp_total.trans m n o h k

alike : (a b c : Key) → by_keys a b ≡ Equal → by_keys a c ≡ by_keys b c
alike (Text a) (Text b) (Text c) h = bytes.congr a b c h
alike (Text a) (Text b) (Number n) h = refl
alike (Text a) (Number n) c h = cc
alike (Number m) (Text b) c h = cc
alike (Number m) (Number n) (Text c) h = refl
alike (Number m) (Number n) (Number o) h = nat_cmp_total.congr m n o h

all_keys : IsTotalOrder by_keys
all_keys = record { antisymm = keys_antisymm; trans = one_after_another; congr = alike }

keys_apart : IsAntisymmetric by_keys
keys_apart (Text a) (Text b) e = ap Text (bytes_apart a b e)
keys_apart (Text a) (Number n) e = cc
keys_apart (Number m) (Text b) e = cc
keys_apart (Number m) (Number n) e = ap Number (nat_cmp-IsAntisymmetric m n e)

falls : IsTotalOrder (flip_args by_keys)
falls = back_total all_keys

falls_apart : IsAntisymmetric (flip_args by_keys)
falls_apart a b e = sym (keys_apart b a e)

-- two keys are one by the test where they are
text_in_it : List ℕ → Key → List ℕ
text_in_it other (Text a) = a
text_in_it other (Number n) = other

number_in_it : ℕ → Key → ℕ
number_in_it other (Text a) = other
number_in_it other (Number n) = n

is_text : Key → Bool
is_text (Text a) = true
is_text (Number n) = false

decides : (a b : Key) → Decides (same_key a b) (a ≡ b)
unfolding text_in_it number_in_it is_text
decides (Text a) (Text b) = ((λ e. ap Text ((bytes_decides a b).0 e)), (λ e. (bytes_decides a b).1 (ap (text_in_it a) e)))
decides (Text a) (Number n) = ((λ e. cc), (λ e. let p : true ≡ false = ap is_text e in cc))
decides (Number m) (Text b) = ((λ e. cc), (λ e. let p : false ≡ true = ap is_text e in cc))
decides (Number m) (Number n) = ((λ e. ap Number (eqb-true m n e)), (λ e. eq-eqb m n (ap (number_in_it m) e)))

-- and where they tie
keys_tie : (a b : Key) → same_key a b ≡ eq_by_cmp by_keys a b
keys_tie a b =
    both_ways (same_key a b) (eq_by_cmp by_keys a b)
    (λ e. ap (eq_by_cmp by_keys a) (sym ((decides a b).0 e)) ∙ (Equal-is (by_keys a a)).1 (tied_itself all_keys a))
    (λ e. (decides a b).1 (keys_apart a b ((Equal-is (by_keys a b)).0 e)))

-- ---- the keys of some songs, each once

ascending-rises : (ks : List Key) → IsStrictlySortedBy by_keys (ascending_keys ks)
unfolding ascending_keys
ascending-rises ks = once-rises by_keys ks

ascending-has : (ks : List Key) (q : Key) → among by_keys q (ascending_keys ks) ≡ among by_keys q ks
unfolding ascending_keys
ascending-has ks q = among-once all_keys keys_apart ks q

any_alike : (p q : Key → Bool) → ((k : Key) → p k ≡ q k) → (ks : List Key) → list_any p ks ≡ list_any q ks
any_alike p q h [] = refl
any_alike p q h (k ∷ ks) = ap (λ (b : Bool). b || list_any p ks) (h k) ∙ ap (λ (b : Bool). q k || b) (any_alike p q h ks)

-- a key ties with another in both orders
either_way : (q k : Key) → eq_by_cmp (flip_args by_keys) q k ≡ eq_by_cmp by_keys q k
either_way q k = (eq_by_cmp_equiv all_keys).symm k q

falling-has : (ks : List Key) (q : Key) → among (flip_args by_keys) q (reverse (ascending_keys ks)) ≡ among (flip_args by_keys) q ks
falling-has ks q =
    any_alike (eq_by_cmp (flip_args by_keys) q) (eq_by_cmp by_keys q) (either_way q) (reverse (ascending_keys ks))
    ∙ sym (list_any-IsPermutation (eq_by_cmp by_keys q) (ascending_keys ks) (reverse (ascending_keys ks)) (IsPermutation-reverse (ascending_keys ks)))
    ∙ ascending-has ks q
    ∙ sym (any_alike (eq_by_cmp (flip_args by_keys) q) (eq_by_cmp by_keys q) (either_way q) ks)

-- ---- one order

module _ (key : SongData → Key) (songs sorted : List SongData) where
  module _ {R : Key → Key → Ordering} (order : IsTotalOrder R) (apart : IsAntisymmetric R) (ks : List Key) where
    one_list : IsStrictlySortedBy R ks → ((q : Key) → among R q ks ≡ among R q (map key songs)) → IsPermutation songs sorted
        → IsSortedBy (λ a b. is_lt (R (key a) (key b))) sorted → ((song : SongData) → with_key key (key song) sorted ≡ with_key key (key song) songs)
        → sorted ≡ rows key same_key decides ks songs
    one_list strict has moved up same =
        sym (in_rows key same_key decides order apart ks sorted strict there (rises_from key same_key decides order apart sorted up))
        ∙ rows_same key same_key decides ks sorted songs (each_among key same_key decides order apart (λ k. with_key key k sorted ≡ with_key key k songs) ks
        (λ k in_keys. each_text key same_key decides (λ u. with_key key u sorted ≡ with_key key u songs) R apart songs (each_one (λ song. with_key key (key song) sorted ≡ with_key key (key song) songs) same songs) k (sym (has k) ∙ in_keys)))
      where
        there : AllByRecursion (λ song. among R (key song) ks ≡ true) sorted
        there =
            each-behind (λ k. among R k ks ≡ true) key sorted
            (each_among key same_key decides order apart (λ k. among R k ks ≡ true) (map key sorted)
            (λ k in_sorted. has k ∙ list_any-IsPermutation (eq_by_cmp R k) (map key songs) (map key sorted) (IsPermutation-map key songs sorted moved) ∙ in_sorted))

one_order_by : (key : SongData → Key) (falling : Bool) (songs sorted : List SongData) → IsStablyOrderedBy key falling songs sorted → sorted ≡ ordered_by key falling songs
one_order_by key false songs sorted r =
    one_list key songs sorted all_keys keys_apart (ascending_keys (map key songs)) (ascending-rises (map key songs)) (ascending-has (map key songs)) r.permutation r.order r.ties
one_order_by key true songs sorted r =
    one_list key songs sorted falls falls_apart (reverse (ascending_keys (map key songs))) (reversed by_keys (ascending_keys (map key songs)) (ascending-rises (map key songs))) (falling-has (map key songs)) r.permutation r.order r.ties

pub one_order : (by : Option TagName) (falling : Bool) (songs sorted : List SongData) → IsStablyOrdered by falling songs sorted → sorted ≡ ordered by falling songs
one_order by falling songs sorted r = one_order_by (sort_key by) falling songs sorted r

-- by the keys of a tag: its numbers or its texts
pub by_numbers : (by : Option TagName) (falling : Bool) (songs sorted : List SongData) → goes_by_number by ≡ true → IsStablyOrderedBy (number_key by) falling songs sorted → IsStablyOrdered by falling songs sorted
unfolding sort_key
by_numbers by falling songs sorted e r = subst (λ (b : Bool). IsStablyOrderedBy (cond b (number_key by) (text_key by)) falling songs sorted) (sym e) r

pub by_texts : (by : Option TagName) (falling : Bool) (songs sorted : List SongData) → goes_by_number by ≡ false → IsStablyOrderedBy (text_key by) falling songs sorted → IsStablyOrdered by falling songs sorted
unfolding sort_key
by_texts by falling songs sorted e r = subst (λ (b : Bool). IsStablyOrderedBy (cond b (number_key by) (text_key by)) falling songs sorted) (sym e) r

-- ---- what a stable sort of references leaves

-- the test by which they are sorted
abbrev pub before : (SongData → Key) → Bool → Bor SongData → Bor SongData → Bool
before key falling a b = is_lt (in_order key falling a.now b.now)

pub weak : (key : SongData → Key) (falling : Bool) → IsStrictWeakOrder (before key falling)
weak key false = ranks_by all_keys (λ (r : Bor SongData). key r.now)
weak key true = ranks_by falls (λ (r : Bor SongData). key r.now)

-- songs that tie have one key
tied_key : (key : SongData → Key) (falling : Bool) (song other : SongData) → same_key (key other) (key song) ≡ not (is_lt (in_order key falling song other)) && not (is_lt (in_order key falling other song))
tied_key key false song other =
    keys_tie (key other) (key song)
    ∙ (eq_by_cmp_equiv all_keys).symm (key other) (key song)
    ∙ sym (tied (by_keys (key song) (key other)) (by_keys (key other) (key song)) (keys_antisymm (key other) (key song)))
tied_key key true song other =
    keys_tie (key other) (key song)
    ∙ sym (tied (by_keys (key other) (key song)) (by_keys (key song) (key other)) (keys_antisymm (key song) (key other)))

pub stable_from : (key : SongData → Key) (falling : Bool) (old new : List (Bor SongData)) → IsPermutation old new → IsSortedBy (before key falling) new → IsStableBy (before key falling) old new → IsStablyOrderedBy key falling (behind old) (behind new)
stable_from key falling old new moved up stable = record {
  permutation = IsPermutation-map (λ r. r.now) old new moved;
  order = sorted-behind (λ a b. is_lt (in_order key falling a b)) new up;
  ties = λ song.
      let it : Bor SongData = record { ref_ptr = (0, 0); now = song } in
      let has : SongData → Bool = λ other. same_key (key other) (key song) in
      filter-behind has new
      ∙ ap behind (filter_alike (λ (r : Bor SongData). has r.now) (ties (before key falling) it) (λ r. tied_key key falling song r.now) new ∙ stable it ∙ sym (filter_alike (λ (r : Bor SongData). has r.now) (ties (before key falling) it) (λ r. tied_key key falling song r.now) old))
      ∙ sym (filter-behind has old);
}
