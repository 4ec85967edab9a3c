-- A part of a list that is shuffled: which element comes to which position.
use Rattle.std.proofs.Common.{◌≡◌, ◌≢◌, inl, inr, ℕ, zero, suc, ◌+◌, ◌-◌, ◌%◌, ◌<◌, ◌≤◌, List, [], ◌∷◌, ◌++◌, length, take, drop, set, get_or, Some, refl, ap, sym, ◌∙◌, arith, ltb, swap_remove}
use Rattle.std.specs.Prelude.{swap, slice_get}
use Rattle.std.specs.List.{slice_range}
use Rattle.std.proofs.Math.Nat.{mod-lt}
use Rattle.std.proofs.lemmas.Bool.{cond-true, cond-false, cases_Bool, ltb-true, ltb-false}
use Rattle.std.proofs.lemmas.List.{get_or_default, take-set-le, take-take}
use Rattle.std.proofs.lemmas.List.Edits.{get_or-between, length-between, length-swap}
use Rattle.std.proofs.lemmas.Option.{slice_get-get_or}
use Rattle.song_queue.specs.Shuffles.{shuffled}
use Rattle.song_queue.proofs.Shuffles.{shuffled-keeps}
use Rattle.play_order.proofs.Lists.{slice_range-more}
use Rattle.queue_laws.specs.Positions.{picked_in_turn}
use Rattle.queue_laws.proofs.ElementSwaps.{swap-first, swap-other, swap-part}

-- a write at the end of a front does not show in it
take-two : {X : Type 0} (n : ℕ) (xs : List X) (k : ℕ) (v w : X) → take n (set (set xs n v) k w) ≡ take n (set xs k w)
take-two n [] k v w = refl
take-two zero (x ∷ xs) k v w = refl
take-two (suc n) (x ∷ xs) zero v w = ap (λ l. w ∷ l) (take-set-le n xs n v (omega arith))
take-two (suc n) (x ∷ xs) (suc k) v w = ap (λ l. x ∷ l) (take-two n xs k v w)

-- all but the last of a list in which the last one changed places with another
swapped-front : {X : Type 0} (xs : List X) (k : ℕ) (d : X) → k < length xs → take (length xs - 1) (swap xs (length xs - 1) k) ≡ swap_remove xs k d
swapped-front [] k d l = absurd (omega arith)
swapped-front (x ∷ xs) k d l =
    let list = x ∷ xs in
    let m : ℕ = length list - 1 in
    take-two m list k (get_or list k x) (get_or list m x)
    ∙ ap (λ v. take m (set list k v)) (get_or_default list m x d (omega arith))

picked-next : {X : Type 0} (number : ℕ) (numbers : List ℕ) (xs : List X) (d : X) → 0 < length xs
    → picked_in_turn (number ∷ numbers) xs ≡ picked_in_turn numbers (swap_remove xs (number % length xs) d) ++ get_or xs (number % length xs) d ∷ []
picked-next number numbers [] d some = absurd (omega arith)
picked-next number numbers (x ∷ xs) d some =
    let list = x ∷ xs in
    let at : ℕ = number % length list in
    let m : ℕ = length list - 1 in
    let low : at < length list = mod-lt number (omega arith) in
    (λ i. picked_in_turn numbers (take m (set list at (get_or_default list m x d (omega arith) i))) ++ get_or_default list at x d low i ∷ [])

picked-none : {X : Type 0} (numbers : List ℕ) → picked_in_turn {X = X} numbers [] ≡ []
picked-none [] = refl
picked-none (number ∷ numbers) = refl

picked-few : {X : Type 0} (numbers : List ℕ) (xs : List X) → length xs ≤ 1 → picked_in_turn numbers xs ≡ xs
picked-few [] xs few = refl
picked-few (number ∷ numbers) [] few = refl
picked-few (number ∷ numbers) (x ∷ []) few =
    let low : number % 1 < 1 = mod-lt number (omega arith) in
    let first : number % 1 ≡ 0 = omega arith in
    ap (λ l. l ++ get_or (x ∷ []) (number % 1) x ∷ []) (picked-none numbers) ∙ ap (λ n. get_or (x ∷ []) n x ∷ []) first
picked-few (number ∷ numbers) (x ∷ (y ∷ xs)) few = absurd (omega arith)

first-of : {X : Type 0} (xs : List X) → 0 < length xs → X
first-of [] some = absurd (omega arith)
first-of (x ∷ xs) some = x

-- the entries of a range are shuffled: a position outside of it has what it had
others : {X : Type 0} (xs : List X) (start end : ℕ) (words : List ℕ) (position : ℕ) → end ≤ length xs → end ≤ position → slice_get (shuffled xs start end words) position ≡ slice_get xs position
others {X} xs start end words position within behind =
    let kept = shuffled-keeps (λ (ys : List X). (length ys ≡ length xs) × (slice_get ys position ≡ slice_get xs position)) start end
    (λ ys i j low high below p.
    let size : length ys ≡ length xs = p.0 in
    let not_i : position ≢ i = omega arith in
    let not_j : position ≢ j = omega arith in
    (length-swap ys i j ∙ size, swap-other ys i j (first-of ys (omega arith)) (omega arith) (omega arith) position not_i not_j ∙ p.1))
    xs end words (omega arith) (refl, refl) in
    kept.1

-- one number picks the last element of the range
module _ {X : Type 0} (xs : List X) (start end word : ℕ) (words : List ℕ) (within : end ≤ length xs) (above : start < end - 1) where
  abbrev last : ℕ
  last = end - 1

  abbrev chosen : ℕ
  chosen = start + word % (last - start + 1)

  abbrev swapped : List X
  swapped = swap xs last chosen

  abbrev part : List X
  part = slice_range xs start end

  step : slice_range (shuffled swapped start last words) start last ≡ picked_in_turn words (slice_range swapped start last)
      → slice_range (shuffled swapped start last words) start end ≡ picked_in_turn (word ∷ words) part
  step rest =
      let d : X = first-of xs (omega arith) in
      let after : List X = shuffled swapped start last words in
      let picked : word % (last - start + 1) < last - start + 1 = mod-lt word (omega arith) in
      let long : length part ≡ end - start = length-between xs start end within in
      let size : last - start + 1 ≡ length part = omega arith in
      let position : ℕ = word % length part in
      let is_position : word % (last - start + 1) ≡ position = ap (λ n. word % n) size in
      let top : last - start ≡ length part - 1 = omega arith in
      let at : chosen - start ≡ position = omega (arith, is_position) in
      let swapped_long : length swapped ≡ length xs = length-swap xs last chosen in
      let there : slice_get after last ≡ Some (get_or part position d) =
      others swapped start last words last (omega arith) (omega arith) ∙ swap-first xs last chosen d (omega arith) (omega arith)
      ∙ slice_get-get_or xs chosen d (omega arith) ∙ ap Some (ap (λ n. get_or xs (start + n) d) is_position ∙ sym (get_or-between xs start end position d (omega arith))) in
      let left : slice_range swapped start last ≡ swap_remove part position d =
      sym (take-take (last - start) (end - start) (drop start swapped) (omega arith))
      ∙ ap (take (last - start)) (swap-part xs last chosen start end (omega arith) (omega arith) (omega arith) (omega arith) within)
      ∙ (λ i. take (top i) (swap part (top i) (at i)))
      ∙ swapped-front part position d (omega arith) in
      let one : last + 1 ≡ end = omega arith in
      ap (slice_range after start) (sym one) ∙ slice_range-more after start last (get_or part position d) (omega arith) there
      ∙ ap (λ l. l ++ get_or part position d ∷ []) (rest ∙ ap (picked_in_turn words) left)
      ∙ sym (picked-next word words part d (omega arith))

pub shuffled-picks : {X : Type 0} (xs : List X) (start end : ℕ) (words : List ℕ) → start ≤ end → end ≤ length xs
    → slice_range (shuffled xs start end words) start end ≡ picked_in_turn words (slice_range xs start end)
shuffled-picks xs start end [] order within = refl
shuffled-picks xs start end (word ∷ words) order within =
    let last : ℕ = end - 1 in
    let chosen : ℕ = start + word % (last - start + 1) in
    let long : length (slice_range xs start end) ≡ end - start = length-between xs start end within in
    let size : length (swap xs last chosen) ≡ length xs = length-swap xs last chosen in
    elim (cases_Bool (ltb start last)) [
      | inl t ↦
          let above : start < last = ltb-true _ _ t in
          ap (λ l. slice_range l start end) (cond-true _ _ xs t)
          ∙ step xs start end word words within above (shuffled-picks (swap xs last chosen) start last words (omega arith) (omega arith))
      | inr t ↦
          let few : last ≤ start = ltb-false _ _ t in
          ap (λ l. slice_range l start end) (cond-false _ (shuffled (swap xs last chosen) start last words) xs t)
          ∙ sym (picked-few (word ∷ words) (slice_range xs start end) (omega arith))
    ]
