-- The positions of slots that are shown to a client.
use Rattle.std.proofs.Common.{◌≡◌, ℕ, suc, ◌+◌, ◌≤◌, Bool, true, false, ◌||◌, cond, ltb, List, [], ◌∷◌, ◌++◌, length, map, refl, ap, sym, ◌∙◌, arith}
use Rattle.std.specs.Prelude.{filter}
use Rattle.std.specs.List.{enumerate_from, range_with_len}
use Rattle.std.proofs.lemmas.Bool.{cond-true, cond-false, ltb-false, le-ltb}
use Rattle.std.proofs.lemmas.List.{map-id}
use Rattle.std.proofs.lemmas.List.FromFn.{map-range_with_len_more}
use Rattle.queue_slots.specs.declared.entry.Entry.{Entry}
use Rattle.queue_slots.specs.declared.entry.Slot.{Slot}
use Rattle.queue_slots.specs.Slots.{written}
use Rattle.queue_slots.specs.Blocks.{IsWithin}
use Rattle.queue_slots.proofs.Shown.{none_left, none_right}

abbrev pub positions : ℕ → ℕ → ℕ → List Slot → List ℕ
positions v p n ss = map (λ (r : ℕ × Slot). r.0) (filter (λ (r : ℕ × Slot). r.1.marked || ltb v r.1.stamp || ltb p v) (enumerate_from n ss))

pub positions-append : (v p n : ℕ) (xs ys : List Slot) → positions v p n (xs ++ ys) ≡ positions v p n xs ++ positions v p (n + length xs) ys
positions-append v p n [] ys = let e : n ≡ n + 0 = omega arith in ap (λ (k : ℕ). positions v p k ys) e
positions-append v p n (x ∷ xs) ys =
    let e : n + 1 + length xs ≡ n + suc (length xs) = omega arith in
    let rest : positions v p (n + 1) (xs ++ ys) ≡ positions v p (n + 1) xs ++ positions v p (n + suc (length xs)) ys = positions-append v p (n + 1) xs ys ∙ ap (λ (k : ℕ). positions v p (n + 1) xs ++ positions v p k ys) e in
    elim (x.marked || ltb v x.stamp || ltb p v) as (λ b. map (λ (r : ℕ × Slot). r.0) (cond b ((n, x) ∷ filter (λ (r : ℕ × Slot). r.1.marked || ltb v r.1.stamp || ltb p v) (enumerate_from (n + 1) (xs ++ ys))) (filter (λ (r : ℕ × Slot). r.1.marked || ltb v r.1.stamp || ltb p v) (enumerate_from (n + 1) (xs ++ ys))))
    ≡ map (λ (r : ℕ × Slot). r.0) (cond b ((n, x) ∷ filter (λ (r : ℕ × Slot). r.1.marked || ltb v r.1.stamp || ltb p v) (enumerate_from (n + 1) xs)) (filter (λ (r : ℕ × Slot). r.1.marked || ltb v r.1.stamp || ltb p v) (enumerate_from (n + 1) xs))) ++ positions v p (n + suc (length xs)) ys) [
      | true ↦ ap (λ x. n ∷ x) rest
      | false ↦ rest
    ]

-- one position
pub positions-one : (v p n : ℕ) (s : Slot) → positions v p n (s ∷ []) ≡ cond (s.marked || ltb v s.stamp || ltb p v) (n ∷ []) []
positions-one v p n s = elim (s.marked || ltb v s.stamp || ltb p v) as (λ b. map (λ (r : ℕ × Slot). r.0) (cond b ((n, s) ∷ []) []) ≡ cond b (n ∷ []) []) [ true ↦ refl | false ↦ refl ]

-- none, where the summary shows none
pub positions-none : (v p n t : ℕ) (m : Bool) (ss : List Slot) → m || ltb v t || ltb p v ≡ false → IsWithin t m ss → positions v p n ss ≡ []
positions-none v p n t m [] e h = refl
positions-none v p n t m (s ∷ ss) e h =
    let first = none_left (m || ltb v t) (ltb p v) e in
    let low : t ≤ v = ltb-false v t (none_right m (ltb v t) first) in
    let here = h.0 in
    let a : s.marked ≡ false = h.1 (none_left m (ltb v t) first) in
    let b : ltb v s.stamp ≡ false = le-ltb v s.stamp (omega arith) in
    let d : ltb p v ≡ false = none_right (m || ltb v t) (ltb p v) e in
    let test : s.marked || ltb v s.stamp || ltb p v ≡ false = λ i. a i || b i || d i in
    ap (λ x. map (λ (r : ℕ × Slot). r.0) x) (cond-false _ _ _ test) ∙ positions-none v p (n + 1) t m ss e h.2

-- all, where each shows what the summary shows
pub positions-all : (v p n t : ℕ) (m : Bool) (es : List Entry) → m || ltb v t || ltb p v ≡ true → positions v p n (map (written t m) es) ≡ range_with_len n (length es)
positions-all v p n t m [] e = refl
positions-all v p n t m (x ∷ es) e = ap (λ x. map (λ (r : ℕ × Slot). r.0) x) (cond-true _ _ _ e) ∙ ap (λ x. n ∷ x) (positions-all v p (n + 1) t m es e)

pub range_with_len-push : (n k : ℕ) → range_with_len n (k + 1) ≡ range_with_len n k ++ ((n + k) ∷ [])
range_with_len-push n k = sym (map-id (range_with_len n (k + 1))) ∙ map-range_with_len_more (λ (x : ℕ). x) n k (n + k) refl ∙ ap (λ x. x ++ ((n + k) ∷ [])) (map-id (range_with_len n k))
