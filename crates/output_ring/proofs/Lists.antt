-- Frames that move along.
use Rattle.std.proofs.Common.{◌≡◌, ℕ, ◌+◌, ◌-◌, ◌≤◌, List, ◌++◌, length, take, drop, ap, ◌∙◌, arith}
use Rattle.std.proofs.lemmas.List.{length-drop, take_all}
use Rattle.std.proofs.Math.Seq.{take-add}
use Rattle.std.proofs.lemmas.Slice.{take-put_mid_below}
use borrow.Rule.Slice.PartMut.{put_mid}

module _ {X : Type 0} where
  -- a part that stays, and what a write put after it
  pub part_stays : (held k n : ℕ) (xs ys : List X) → held ≤ length xs → take (held + n) (put_mid held k xs ys) ≡ take held xs ++ take n (drop held (put_mid held k xs ys))
  part_stays held k n xs ys within =
      take-add held n (put_mid held k xs ys) ∙ ap (λ zs. zs ++ take n (drop held (put_mid held k xs ys))) (take-put_mid_below held k xs ys held (omega arith) within)

  -- all from an offset on
  pub all_from : (n : ℕ) (xs ys : List X) → xs ≡ ys → take (length xs - n) (drop n xs) ≡ drop n ys
  all_from n xs ys e = take_all (length xs - n) (drop n xs) (omega (arith, length-drop n xs)) ∙ ap (drop n) e
