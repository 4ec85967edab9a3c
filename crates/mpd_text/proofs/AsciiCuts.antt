-- A text may be cut at an ASCII byte, and may lose it.
use Rattle.std.proofs.Common.{◌≡◌, ℕ, ◌+◌, ◌<◌, List, [], ◌∷◌, ◌++◌, length, get_or, drop, refl, sym, ap, subst, ◌∙◌, append_assoc, arith}
use Rattle.std.specs.Str.{IsUtf8}
use Rattle.std.proofs.lemmas.List.{length-append, take_at, drop_at, get_or_at}
use Rattle.std.proofs.lemmas.Str.{IsUtf8-append, IsUtf8-take, IsUtf8-drop, IsCharBoundary-before_ascii, IsCharBoundary-after_ascii}

pub cut_at : (xs ys : List ℕ) (c : ℕ) → IsUtf8 (xs ++ c ∷ ys) → c < 128 → IsUtf8 xs × IsUtf8 ys
cut_at xs ys c utf8 small =
    let bytes = xs ++ c ∷ ys in
    let at : get_or bytes (length xs) 0 ≡ c = get_or_at xs c ys 0 (length xs) refl in
    let len = length-append xs (c ∷ ys) in
    let inside : length xs < length bytes = omega arith in
    let ascii : get_or bytes (length xs) 0 < 128 = omega arith in
    let front = IsUtf8-take bytes (length xs) utf8 (IsCharBoundary-before_ascii bytes (length xs) inside ascii) in
    let back = IsUtf8-drop bytes (length xs + 1) utf8 (IsCharBoundary-after_ascii bytes (length xs) utf8 inside ascii) in (
      subst IsUtf8 (take_at xs (c ∷ ys) (length xs) refl) front,
      subst IsUtf8 (ap (drop (length xs + 1)) (sym (append_assoc xs (c ∷ []) ys)) ∙ drop_at (xs ++ c ∷ []) ys (length xs + 1) (length-append xs (c ∷ []))) back,
    )

pub without : (xs ys : List ℕ) (c : ℕ) → IsUtf8 (xs ++ c ∷ ys) → c < 128 → IsUtf8 (xs ++ ys)
without xs ys c utf8 small = let parts = cut_at xs ys c utf8 small in IsUtf8-append xs ys parts.0 parts.1

-- a byte that goes over from the rest to what was read
pub one_more : (text : List ℕ) (b : ℕ) (rest : List ℕ) → IsUtf8 (text ++ b ∷ rest) → IsUtf8 ((text ++ b ∷ []) ++ rest)
one_more text b rest utf8 = subst IsUtf8 (sym (append_assoc text (b ∷ []) rest)) utf8
