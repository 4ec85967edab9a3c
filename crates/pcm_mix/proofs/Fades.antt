-- A loop over the frames of a fade.
use Rattle.std.proofs.Common.{ℕ, zero, suc, ◌+◌, ◌<◌, ◌≡◌, List, [], ◌∷◌, ◌++◌, length, take, drop, set, get_or, ℤ, refl, ap, arith, add-one, add-zero}
use Rattle.pcm_mix.specs.Samples.{faded_frame, faded_frames}

step : (len offset : ℕ) (froms tos : List (List ℤ)) (i : ℕ) → i < length froms → i < length tos →
    set (faded_frames len offset (take i froms) (take i tos) ++ drop i froms) i (faded_frame len (offset + i) (get_or froms i []) (get_or tos i []))
    ≡ faded_frames len offset (take (suc i) froms) (take (suc i) tos) ++ drop (suc i) froms
step len offset [] tos i h k = absurd (omega arith)
step len offset (from ∷ froms) [] i h k = absurd (omega arith)
step len offset (from ∷ froms) (to ∷ tos) zero h k = rw add-zero refl
step len offset (from ∷ froms) (to ∷ tos) (suc i) h k =
    let e : offset + suc i ≡ offset + 1 + i = omega arith in
    rw e (ap (λ xs. faded_frame len offset from to ∷ xs) (step len (offset + 1) froms tos i (omega arith) (omega arith)))

here : (len offset : ℕ) (froms tos : List (List ℤ)) (i : ℕ) → i < length froms → i < length tos →
    get_or (faded_frames len offset (take i froms) (take i tos) ++ drop i froms) i [] ≡ get_or froms i []
here len offset [] tos i h k = absurd (omega arith)
here len offset (from ∷ froms) [] i h k = absurd (omega arith)
here len offset (from ∷ froms) (to ∷ tos) zero h k = refl
here len offset (from ∷ froms) (to ∷ tos) (suc i) h k = here len (offset + 1) froms tos i (omega arith) (omega arith)

pub fade_more : (len offset : ℕ) (froms tos now : List (List ℤ)) (i : ℕ) (frame : List ℤ) → i < length froms → length froms ≡ length tos →
    now ≡ faded_frames len offset (take i froms) (take i tos) ++ drop i froms →
    frame ≡ faded_frame len (offset + i) (get_or now i []) (get_or tos i []) →
    set now i frame ≡ faded_frames len offset (take (i + 1) froms) (take (i + 1) tos) ++ drop (i + 1) froms
fade_more len offset froms tos now i frame h same e f =
    let k : i < length tos = omega arith in
    let g : get_or now i [] ≡ get_or froms i [] = rw e (here len offset froms tos i h k) in
    rw (f, g, e, add-one) (step len offset froms tos i h k)
