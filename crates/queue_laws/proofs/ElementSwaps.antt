-- Elements that are swapped.
use Rattle.std.proofs.Common.{◌≡◌, ◌≢◌, inl, inr, ℕ, ◌+◌, ◌-◌, ◌<◌, ◌≤◌, List, length, get_or, Some, refl, ap, sym, ◌∙◌, arith}
use Rattle.std.specs.Prelude.{swap, slice_get}
use Rattle.std.specs.List.{slice_range}
use Rattle.std.proofs.lemmas.Bool.{cases_eq, cases_lt}
use Rattle.std.proofs.lemmas.List.{same_lists}
use Rattle.std.proofs.lemmas.List.Edits.{get_or-between, length-between, length-swap, swapped_from_swap}
use Rattle.std.proofs.lemmas.Option.{slice_get-get_or, slice_get_past}

-- a position of one list shows what one of another does
shows-same : {X : Type 0} (xs ys : List X) (i j : ℕ) (d : X) → i < length xs → j < length ys → get_or xs i d ≡ get_or ys j d → slice_get xs i ≡ slice_get ys j
shows-same xs ys i j d li lj same = slice_get-get_or xs i d li ∙ ap Some same ∙ sym (slice_get-get_or ys j d lj)

module _ {X : Type 0} (xs : List X) (a b : ℕ) where
  abbrev exchanged : List X
  exchanged = swap xs a b

  module _ (d : X) (la : a < length xs) (lb : b < length xs) where
    pub swap-first : slice_get exchanged a ≡ slice_get xs b
    swap-first =
        let size : length exchanged ≡ length xs = length-swap xs a b in
        shows-same exchanged xs a b d (omega arith) lb (swapped_from_swap xs exchanged a b d la lb refl).0

    pub swap-second : slice_get exchanged b ≡ slice_get xs a
    swap-second =
        let size : length exchanged ≡ length xs = length-swap xs a b in
        shows-same exchanged xs b a d (omega arith) la (swapped_from_swap xs exchanged a b d la lb refl).1

    pub swap-other : (p : ℕ) → p ≢ a → p ≢ b → slice_get exchanged p ≡ slice_get xs p
    swap-other p na nb =
        let size : length exchanged ≡ length xs = length-swap xs a b in
        elim (cases_lt p (length xs)) [
          | inl l ↦ shows-same exchanged xs p p d (omega arith) l ((swapped_from_swap xs exchanged a b d la lb refl).2 p na nb)
          | inr past ↦ slice_get_past exchanged p (omega arith) ∙ sym (slice_get_past xs p past)
        ]

  -- a part in which both positions lie is exchanged as the whole
  pub swap-part : (start end : ℕ) → start ≤ a → a < end → start ≤ b → b < end → end ≤ length xs → slice_range exchanged start end ≡ swap (slice_range xs start end) (a - start) (b - start)
  swap-part start end al ah bl bh within =
      let part : List X = slice_range xs start end in
      let size : length exchanged ≡ length xs = length-swap xs a b in
      let one : length part ≡ end - start = length-between xs start end within in
      let two : length (slice_range exchanged start end) ≡ end - start = length-between exchanged start end (omega arith) in
      let three : length (swap part (a - start) (b - start)) ≡ length part = length-swap part (a - start) (b - start) in
      same_lists (slice_range exchanged start end) (swap part (a - start) (b - start)) (omega arith) (λ k d l.
      let whole = swapped_from_swap xs exchanged a b d (omega arith) (omega arith) refl in
      let own = swapped_from_swap part (swap part (a - start) (b - start)) (a - start) (b - start) d (omega arith) (omega arith) refl in
      let at : get_or (slice_range exchanged start end) k d ≡ get_or exchanged (start + k) d = get_or-between exchanged start end k d (omega arith) in
      elim (cases_eq k (a - start)) [
        | inl is_a ↦
            let position : start + k ≡ a = omega arith in
            let from : start + (b - start) ≡ b = omega arith in
            at ∙ ap (λ n. get_or exchanged n d) position ∙ whole.0 ∙ ap (λ n. get_or xs n d) (sym from) ∙ sym (get_or-between xs start end (b - start) d (omega arith)) ∙ sym own.0
            ∙ ap (λ n. get_or (swap part (a - start) (b - start)) n d) (sym is_a)
        | inr not_a ↦ elim (cases_eq k (b - start)) [
          | inl is_b ↦
              let position : start + k ≡ b = omega arith in
              let from : start + (a - start) ≡ a = omega arith in
              at ∙ ap (λ n. get_or exchanged n d) position ∙ whole.1 ∙ ap (λ n. get_or xs n d) (sym from) ∙ sym (get_or-between xs start end (a - start) d (omega arith)) ∙ sym own.1
              ∙ ap (λ n. get_or (swap part (a - start) (b - start)) n d) (sym is_b)
          | inr not_b ↦
              at ∙ whole.2 (start + k) (omega arith) (omega arith) ∙ sym (get_or-between xs start end k d (omega arith)) ∙ sym (own.2 k not_a not_b)
        ]
      ])
