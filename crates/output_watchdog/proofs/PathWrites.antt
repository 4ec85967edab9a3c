-- What was written of what came from a ring, piece by piece.
use Rattle.std.proofs.Common.{◌≡◌, ◌≤◌, ℕ, ◌+◌, ◌-◌, List, [], ◌++◌, Option, Some, None, length, take, drop, sym, ap, ◌∙◌, arith, append_assoc, append-nil, subst}
use Rattle.std.proofs.Math.Seq.{take-add}
use Rattle.std.proofs.lemmas.List.{take-append-drop, length-drop}
use Rattle.std.specs.Io.KnownBytes.{Appends}
use Rattle.output_watchdog.specs.PathWriting.{WritesAll, WritesFirst}

pub Appends-trans : (a b c : Option (List ℕ)) (xs ys : List ℕ) → Appends a b xs → Appends b c ys → Appends a c (xs ++ ys)
Appends-trans None b c xs ys p q = tt
Appends-trans (Some x) None c xs ys p q = absurd p
Appends-trans (Some x) (Some y) None xs ys p q = absurd q
Appends-trans (Some x) (Some y) (Some z) xs ys p q = q ∙ ap (λ l. l ++ ys) p ∙ append_assoc x xs ys

pub Appends-nothing : (a : Option (List ℕ)) → Appends a a []
Appends-nothing None = tt
Appends-nothing (Some x) = sym (append-nil x)

-- some bytes of a piece were written, and then more of those that were left
pub takes_more : (a b c : Option (List ℕ)) (bytes left : List ℕ) (done more : ℕ) → left ≡ drop done bytes → Appends a b (take done bytes) → Appends b c (take more left) → Appends a c (take (done + more) bytes)
takes_more a b c bytes left done more e p q =
    subst (λ xs. Appends a c xs) (ap (λ xs. take done bytes ++ take more xs) e ∙ sym (take-add done more bytes)) (Appends-trans a b c (take done bytes) (take more left) p q)

-- all was written, and then the first of what came after it
pub first_after_all : (x y z : List ℕ) (a b c : Option (List ℕ)) → WritesAll x y a b → WritesFirst y z b c → WritesFirst x z a c
first_after_all x y z a b c (came, after, written) (more, left, then, few, wrote) =
    (came ++ more, left, then ∙ ap (λ l. l ++ (more ++ left)) after ∙ append_assoc x came (more ++ left) ∙ ap (λ l. x ++ l) (sym (append_assoc came more left)), few, Appends-trans a b c came more written wrote)

pub all_after_all : (x y z : List ℕ) (a b c : Option (List ℕ)) → WritesAll x y a b → WritesAll y z b c → WritesAll x z a c
all_after_all x y z a b c (came, after, written) (more, then, wrote) =
    (came ++ more, then ∙ ap (λ l. l ++ more) after ∙ append_assoc x came more, Appends-trans a b c came more written wrote)

-- so many bytes of the piece that came were written
pub first_of_piece : (x y piece : List ℕ) (a b : Option (List ℕ)) (n : ℕ) → y ≡ x ++ piece → length piece ≤ 4096 → Appends a b (take n piece) → WritesFirst x y a b
first_of_piece x y piece a b n came few wrote =
    let left : length (drop n piece) ≡ length piece - n = length-drop n piece in
    (take n piece, drop n piece, came ∙ ap (λ l. x ++ l) (sym (take-append-drop n piece)), omega (arith, left, few), wrote)
