-- Frames of a block on their way into a ring.
use Rattle.std.proofs.Common.{◌≡◌, ◌∙◌, ℕ, ℤ, ◌+◌, ◌-◌, ◌++◌, List, length, take, drop, ap, sym, append_assoc}
use Rattle.std.proofs.lemmas.List.{drop-drop, drop-map, take-append-drop, take-map}
use Rattle.output_ring.specs.declared.frames.Cut.{Cut}
use Rattle.output_ring.specs.declared.frames.CutFrame.{CutFrame}
use Rattle.output_ring.specs.Frames.{with_cut}
use Rattle.output_ring.proofs.Lists.{all_from}

module _ (cut : Cut) (block read : List (List ℤ)) (before n : ℕ) (old new : List CutFrame) where
  -- what went in
  pub went : read ≡ block → new ≡ old ++ with_cut cut (take n (take (length read - before) (drop before read))) → new ≡ old ++ take n (with_cut cut (drop before block))
  went same sent =
      sent ∙ ap (λ l. old ++ with_cut cut (take n l)) (all_from before read block same) ∙ ap (λ l. old ++ l) (sym (take-map _ n (drop before block)))

  -- what is owed then
  pub left : with_cut cut (drop (before + n) block) ≡ drop n (with_cut cut (drop before block))
  left = ap (with_cut cut) (sym (drop-drop n before block)) ∙ sym (drop-map _ n (drop before block))

  -- both together
  pub taken : read ≡ block → new ≡ old ++ with_cut cut (take n (take (length read - before) (drop before read))) → new ++ with_cut cut (drop (before + n) block) ≡ old ++ with_cut cut (drop before block)
  taken same sent =
      let owed = with_cut cut (drop before block) in
      (λ i. went same sent i ++ left i) ∙ append_assoc old (take n owed) (drop n owed) ∙ ap (λ l. old ++ l) (take-append-drop n owed)
