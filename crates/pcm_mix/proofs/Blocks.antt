-- A block frame by frame is what is faded as a whole and then set to the volume as a whole.
use Rattle.std.proofs.Common.{ℕ, suc, ◌+◌, ◌<◌, ◌≡◌, List, [], ◌∷◌, length, get_or, ℤ, refl, ap, sym, ◌∙◌, arith, map, Some, None}
use Rattle.std.specs.List.{range_with_len}
use Rattle.pcm_mix.specs.Samples.{faded_frame, faded_frames, gained}
use Rattle.pcm_mix.specs.Blocks.{FadingData, block_of}

-- lists as functions of the offset, from offset k on
module _ (len offset volume : ℕ) (f g : ℕ → List ℤ) where
  faded_from : (k : ℕ) (froms tos : List (List ℤ)) → length froms ≡ length tos →
      ((j : ℕ) → j < length froms → f (k + j) ≡ get_or froms j []) → ((j : ℕ) → j < length tos → g (k + j) ≡ get_or tos j []) →
      map (map (gained volume)) (faded_frames len (offset + k) froms tos)
      ≡ map (λ i. map (gained volume) (faded_frame len (offset + i) (f i) (g i))) (range_with_len k (length froms))
  faded_from k [] [] same is_f is_g = refl
  faded_from k [] (to ∷ tos) same is_f is_g = absurd (omega (arith, same))
  faded_from k (from ∷ froms) [] same is_f is_g = absurd (omega (arith, same))
  faded_from k (from ∷ froms) (to ∷ tos) same is_f is_g =
      let e : offset + k + 1 ≡ offset + (k + 1) = omega arith in
      let a : f k ≡ from = ap f (omega arith) ∙ is_f 0 (omega arith) in
      let b : g k ≡ to = ap g (omega arith) ∙ is_g 0 (omega arith) in
      let rest = faded_from (k + 1) froms tos (omega (arith, same)) (λ j h. ap f (omega arith) ∙ is_f (suc j) (omega (arith, h))) (λ j h. ap g (omega arith) ∙ is_g (suc j) (omega (arith, h))) in
      rw (a, b, e, rest) refl

module _ (volume : ℕ) (f : ℕ → List ℤ) where
  gained_from : (k : ℕ) (froms : List (List ℤ)) → ((j : ℕ) → j < length froms → f (k + j) ≡ get_or froms j []) →
      map (map (gained volume)) froms ≡ map (λ i. map (gained volume) (f i)) (range_with_len k (length froms))
  gained_from k [] is_f = refl
  gained_from k (from ∷ froms) is_f =
      let a : f k ≡ from = ap f (omega arith) ∙ is_f 0 (omega arith) in
      let rest = gained_from (k + 1) froms (λ j h. ap f (omega arith) ∙ is_f (suc j) (omega (arith, h))) in
      rw (a, rest) refl

at_front : (frames : List (List ℤ)) (j : ℕ) → j < length frames → get_or frames (0 + j) [] ≡ get_or frames j []
at_front frames j h = ap (λ (k : ℕ). get_or frames k []) (omega arith)

pub faded_then_gained : (fading : FadingData) (volume : ℕ) (frames : List (List ℤ)) → length fading.others ≡ length frames →
    map (map (gained volume)) (faded_frames fading.len fading.offset frames fading.others) ≡ block_of (Some fading) volume frames
faded_then_gained fading volume frames same =
    let e : fading.offset + 0 ≡ fading.offset = omega arith in
    ap (λ (p : ℕ). map (map (gained volume)) (faded_frames fading.len p frames fading.others)) (sym e)
    ∙ faded_from fading.len fading.offset volume (λ i. get_or frames i []) (λ i. get_or fading.others i []) 0 frames fading.others (sym same) (at_front frames) (at_front fading.others)

pub gained_alone : (volume : ℕ) (frames : List (List ℤ)) → map (map (gained volume)) frames ≡ block_of None volume frames
gained_alone volume frames = gained_from volume (λ i. get_or frames i []) 0 frames (at_front frames)
