-- A queue that is gone through from a position up to another.
use Rattle.std.proofs.Common.{◌≡◌, ℕ, zero, suc, ◌+◌, ◌-◌, ◌<◌, ◌≤◌, ◌||◌, Bool, true, false, not, cond, nat_lt, is_some, List, [], ◌∷◌, ◌++◌, length, fold, take, drop, slice_get, get_or, Option, Some, None, refl, ap, sym, ◌∙◌, arith}
use Rattle.std.specs.List.{slice_range}
use Rattle.std.proofs.lemmas.Bool.{false≢true, lt-ltb}
use Rattle.std.proofs.lemmas.List.Elements.{filter-append}
use Rattle.std.proofs.lemmas.List.Folds.{list_any-append}
use Rattle.song_queue.specs.declared.entry.Entry.{Entry}
use Rattle.song_queue.specs.declared.entry.Slot.{Slot}
use Rattle.song_queue.specs.State.{entries_of}
use Rattle.play_order.specs.declared.modes.Rank.{Rank}
use Rattle.play_order.specs.Draws.{ids_of, is_among, rank_of}
use Rattle.play_order.specs.Order.{first_of, ids_taken, left_by, unplayed}
use Rattle.play_order.specs.Scans.{best_among, better, has_unplayed, precedes, rank_of_best}
use Rattle.play_order.proofs.Firsts.{Distinct, best-first, distinct-left, distinct-unplayed, some-first}
use Rattle.play_order.proofs.Lists.{slice_range-front, slice_range-join, slice_range-more, slice_range-rest, fold-append, map-append}

pub best-more : (ranks : List Rank) (played : List ℕ) (done more : List Entry) (start : Option Entry) → best_among ranks played (done ++ more) start ≡ best_among ranks played more (best_among ranks played done start)
best-more ranks played done more start =
    ap (fold (better ranks) start) (filter-append (λ (x : Entry). not (is_among x.id played)) done more)
    ∙ fold-append (better ranks) start (unplayed played done) (unplayed played more)

better-new : (ranks : List Rank) (best : Option Entry) (e : Entry) → precedes e (rank_of ranks e.id) best (rank_of_best ranks best) ≡ true → better ranks best e ≡ Some e
better-new ranks None e h = refl
better-new ranks (Some b) e h = rw h refl

better-old : (ranks : List Rank) (best : Option Entry) (e : Entry) → precedes e (rank_of ranks e.id) best (rank_of_best ranks best) ≡ false → better ranks best e ≡ best
better-old ranks None e h = absurd (false≢true (sym h))
better-old ranks (Some b) e h = rw h refl

-- one entry further: an unplayed one that comes before the best so far is the best
pub best-new : (ranks : List Rank) (played : List ℕ) (done : List Entry) (e : Entry) (start best : Option Entry) → is_among e.id played ≡ false → best ≡ best_among ranks played done start
    → precedes e (rank_of ranks e.id) best (rank_of_best ranks best) ≡ true → Some e ≡ best_among ranks played (done ++ e ∷ []) start
best-new ranks played done e start best p same wins =
    let one : best_among ranks played (e ∷ []) best ≡ better ranks best e = rw p refl in
    sym (best-more ranks played done (e ∷ []) start ∙ ap (best_among ranks played (e ∷ [])) (sym same) ∙ one ∙ better-new ranks best e wins)

-- one that was played leaves it as it is
pub best-played : (ranks : List Rank) (played : List ℕ) (done : List Entry) (e : Entry) (start best : Option Entry) → is_among e.id played ≡ true → best ≡ best_among ranks played done start
    → best ≡ best_among ranks played (done ++ e ∷ []) start
best-played ranks played done e start best p same =
    let one : best_among ranks played (e ∷ []) best ≡ best = rw p refl in
    sym (best-more ranks played done (e ∷ []) start ∙ ap (best_among ranks played (e ∷ [])) (sym same) ∙ one)

-- and so does one that does not come before it, whether it was played or not
pub best-kept : (ranks : List Rank) (played : List ℕ) (done : List Entry) (e : Entry) (start best : Option Entry) → best ≡ best_among ranks played done start
    → precedes e (rank_of ranks e.id) best (rank_of_best ranks best) ≡ false → best ≡ best_among ranks played (done ++ e ∷ []) start
best-kept ranks played done e start best same loses =
    elim (is_among e.id played) as (λ v. is_among e.id played ≡ v → best ≡ best_among ranks played (done ++ e ∷ []) start) [
      | true ↦ λ p. best-played ranks played done e start best p same
      | false ↦ λ p.
          let one : best_among ranks played (e ∷ []) best ≡ better ranks best e = rw p refl in
          sym (best-more ranks played done (e ∷ []) start ∙ ap (best_among ranks played (e ∷ [])) (sym same) ∙ one ∙ better-old ranks best e loses)
    ] refl

pub ids-more : (queue : List Entry) (from position : ℕ) (e : Entry) → from ≤ position → slice_get queue position ≡ Some e → ids_taken queue from (position + 1) ≡ ids_taken queue from position ++ e.id ∷ []
ids-more queue from position e h k = ap ids_of (slice_range-more queue from position e h k) ∙ map-append (λ (x : Entry). x.id) (slice_range queue from position) (e ∷ [])

pub first-left : (ranks : List Rank) (played : List ℕ) (queue : List Entry) (from end : ℕ) → Distinct (unplayed played (left_by queue from end))
    → fold (better ranks) (fold (better ranks) None (unplayed played (slice_range queue 0 from))) (unplayed played (slice_range queue end (length queue))) ≡ first_of ranks (unplayed played (left_by queue from end))
first-left ranks played queue from end distinct =
    ap (λ (xs : List Entry). fold (better ranks) (fold (better ranks) None (unplayed played xs)) (unplayed played (slice_range queue end (length queue)))) (slice_range-front queue from)
    ∙ ap (λ (xs : List Entry). fold (better ranks) (fold (better ranks) None (unplayed played (take from queue))) (unplayed played xs)) (slice_range-rest queue end)
    ∙ sym (fold-append (better ranks) None (unplayed played (take from queue)) (unplayed played (drop end queue)))
    ∙ ap (fold (better ranks) None) (sym (filter-append (λ (x : Entry). not (is_among x.id played)) (take from queue) (drop end queue)))
    ∙ best-first ranks (unplayed played (left_by queue from end)) distinct

-- some entries have a first one of those that were not played, if one was not
pub any-first : (ranks : List Rank) (played : List ℕ) (xs : List Entry) → Distinct xs → has_unplayed played xs ≡ is_some (first_of ranks (unplayed played xs))
any-first ranks played xs distinct = any-length xs ∙ sym (some-first ranks (unplayed played xs) (distinct-unplayed played xs distinct))
  where
    any-length : (es : List Entry) → has_unplayed played es ≡ nat_lt 0 (length (unplayed played es))
    any-length [] = refl
    any-length (e ∷ es) = elim (is_among e.id played) as (λ v. (not v || has_unplayed played es) ≡ nat_lt 0 (length (cond (not v) (e ∷ unplayed played es) (unplayed played es)))) [
      | true ↦ any-length es
      | false ↦ sym (lt-ltb 0 (suc (length (unplayed played es))) (omega arith))
    ]

pub any-left : (ranks : List Rank) (played : List ℕ) (queue : List Entry) (from end len : ℕ) → from ≤ end → Distinct queue → len ≡ length queue
    → (has_unplayed played (slice_range queue 0 from) || has_unplayed played (slice_range queue end len)) ≡ is_some (first_of ranks (unplayed played (left_by queue from end)))
any-left ranks played queue from end len h distinct same =
    ap (λ (n : ℕ). has_unplayed played (slice_range queue 0 from) || has_unplayed played (slice_range queue end n)) same
    ∙ (λ i. has_unplayed played (slice_range-front queue from i) || has_unplayed played (slice_range-rest queue end i))
    ∙ sym (list_any-append (λ (e : Entry). not (is_among e.id played)) (take from queue) (drop end queue)) ∙ any-first ranks played (left_by queue from end) (distinct-left from end queue h distinct)

pub any-more : (played : List ℕ) (queue : List Entry) (from at count : ℕ) → from ≤ at → has_unplayed played (slice_range queue from at) ≡ false
    → has_unplayed played (slice_range queue from (at + count)) ≡ has_unplayed played (slice_range queue at (at + count))
any-more played queue from at count h none =
    ap (has_unplayed played) (slice_range-join queue from at count h) ∙ list_any-append (λ (e : Entry). not (is_among e.id played)) (slice_range queue from at) (slice_range queue at (at + count))
    ∙ ap (λ (b : Bool). b || has_unplayed played (slice_range queue at (at + count))) none

-- one that was not played is among those of a run, and of what holds the run
pub any-at : (played : List ℕ) (run : List Slot) (i : ℕ) (d : Slot) → i < length run → is_among (get_or run i d).entry.id played ≡ false → has_unplayed played (entries_of run) ≡ true
any-at played [] i d l h = absurd (omega arith)
any-at played (s ∷ run) zero d l h = ap (λ (b : Bool). not b || has_unplayed played (entries_of run)) h
any-at played (s ∷ run) (suc i) d l h = or-true (not (is_among s.entry.id played)) (any-at played run i d (omega arith) h)
  where
    or-true : (a : Bool) {b : Bool} → b ≡ true → (a || b) ≡ true
    or-true true e = refl
    or-true false e = e

pub any-found : (played : List ℕ) (queue : List Entry) (from at count end : ℕ) → from ≤ at → at + count ≤ end → has_unplayed played (slice_range queue at (at + count)) ≡ true
    → has_unplayed played (slice_range queue from end) ≡ true
any-found played queue from at count end low high found =
    let rest : ℕ = end - (at + count) in
    let whole : (at + count) + rest ≡ end = omega arith in
    ap (λ (n : ℕ). has_unplayed played (slice_range queue from n)) (sym whole) ∙ ap (has_unplayed played) (slice_range-join queue from (at + count) rest (omega arith))
    ∙ list_any-append (λ (e : Entry). not (is_among e.id played)) (slice_range queue from (at + count)) (slice_range queue (at + count) ((at + count) + rest))
    ∙ ap (λ (b : Bool). b || has_unplayed played (slice_range queue (at + count) ((at + count) + rest))) (ap (has_unplayed played) (slice_range-join queue from at count low)
    ∙ list_any-append (λ (e : Entry). not (is_among e.id played)) (slice_range queue from at) (slice_range queue at (at + count)) ∙ last (has_unplayed played (slice_range queue from at)) found)
  where
    last : (a : Bool) {b : Bool} → b ≡ true → (a || b) ≡ true
    last true e = refl
    last false e = e

pub ids-join : (queue : List Entry) (from at count : ℕ) → from ≤ at → ids_taken queue from (at + count) ≡ ids_taken queue from at ++ ids_taken queue at (at + count)
ids-join queue from at count h = ap ids_of (slice_range-join queue from at count h) ∙ map-append (λ (x : Entry). x.id) (slice_range queue from at) (slice_range queue at (at + count))
