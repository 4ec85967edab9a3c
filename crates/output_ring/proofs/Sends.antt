-- Frames and bytes on their way to a writer.
use Rattle.std.proofs.Common.{◌≡◌, ℕ, zero, suc, ◌+◌, ◌*◌, ◌/◌, ◌%◌, ◌<◌, List, [], ◌∷◌, ◌++◌, Option, Some, None, length, take, drop, refl, sym, ap, ◌∙◌, arith, append_assoc, zero-add, ℤ, subst}
use Rattle.std.proofs.Math.Seq.{take-add}
use Rattle.std.specs.Io.KnownBytes.{Appends}
use Rattle.output_ring.specs.declared.frames.CutFrame.{CutFrame}
use Rattle.output_ring.specs.declared.frames.Live.{Live}
use Rattle.output_ring.specs.Frames.{heard, bytes_of, StopsInside}

pub Appends-trans : (a b c : Option (List ℕ)) (xs ys : List ℕ) → Appends a b xs → Appends b c ys → Appends a c (xs ++ ys)
Appends-trans None b c xs ys p q = tt
Appends-trans (Some x) None c xs ys p q = absurd p
Appends-trans (Some x) (Some y) None xs ys p q = absurd q
Appends-trans (Some x) (Some y) (Some z) xs ys p q = q ∙ ap (λ l. l ++ ys) p ∙ append_assoc x xs ys

-- a writer took some bytes, and then more of those that were left
pub takes_more : (a b c : Option (List ℕ)) (bytes left : List ℕ) (done more : ℕ) → left ≡ drop done bytes → Appends a b (take done bytes) → Appends b c (take more left) → Appends a c (take (done + more) bytes)
takes_more a b c bytes left done more e p q =
    subst (λ xs. Appends a c xs) (ap (λ xs. take done bytes ++ take more xs) e ∙ sym (take-add done more bytes)) (Appends-trans a b c (take done bytes) (take more left) p q)

-- so many bytes are whole frames and a part of the next
pub bytes_split : (frames : List (List ℤ)) (written torn : ℕ) → written < length frames → take (4 * written + torn) (bytes_of frames) ≡ bytes_of (take written frames) ++ take torn (bytes_of (drop written frames))
bytes_split [] written torn h = absurd (omega (arith, h))
bytes_split (x ∷ xs) zero torn h = rw zero-add refl
bytes_split (x ∷ xs) (suc written) torn h =
    let e : 4 * suc written + torn ≡ suc (suc (suc (suc (4 * written + torn)))) = omega arith in
    let r = bytes_split xs written torn (omega arith) in
    rw (e, r) refl

-- a writer that stopped after so many bytes of a hand stopped inside a frame of it
pub stops : (before after : Option (List ℕ)) (live : Live) (hand : List CutFrame) (bytes : List ℕ) (done : ℕ) → bytes ≡ bytes_of (heard live hand) → done < 4 * length (heard live hand) → Appends before after (take done bytes) → StopsInside before after live hand (done / 4) (done % 4)
stops before after live hand bytes done e few p =
    let inside : done / 4 < length (heard live hand) = omega arith in
    let whole : done ≡ 4 * (done / 4) + done % 4 = omega arith in
    record {
      inside = inside;
      part = omega arith;
      bytes = subst (λ xs. Appends before after xs) (ap (take done) e ∙ ap (λ n. take n (bytes_of (heard live hand))) whole ∙ bytes_split (heard live hand) (done / 4) (done % 4) inside) p;
    }
