-- Reads into the rest of a buffer.
use Rattle.std.proofs.Common.{ℕ, Bool, true, false, ltb, ◌+◌, ◌≤◌, ◌<◌, ◌≡◌, List, ◌++◌, length, min, take, drop, refl, sym, ap, subst, ◌∙◌, arith, append_assoc, Option, Some, None, length-take-le}
use Rattle.std.proofs.lemmas.List.{take_at, drop_at, take-append-le}
use Rattle.std.proofs.lemmas.Bool.{ltb-true, ltb-false}
use Rattle.std.specs.Io.KnownBytes.{Consumes}
use borrow.Rule.Slice.PartMut.{put_mid, post_of}
use lib.Seq.{take-add}
use Rattle.wave.proofs.Starts.{take_both}

consumes_more : (old mid new : Option (List ℕ)) (xs ys : List ℕ) → Consumes old mid xs → Consumes mid new ys → Consumes old new (xs ++ ys)
consumes_more None mid new xs ys h k = h
consumes_more (Some a) None new xs ys h k = absurd h
consumes_more (Some a) (Some b) None xs ys h k = k
consumes_more (Some a) (Some b) (Some d) xs ys h k = h ∙ ap (λ t. xs ++ t) k ∙ sym (append_assoc xs ys d)

longer : (got room n : ℕ) (buf part : List ℕ) → got ≤ length buf → n ≤ length part → take (got + n) (put_mid got room buf part) ≡ take got buf ++ take n part
longer got room n buf part h k =
    let front : length (take got buf) ≡ got = length-take-le got buf h in
    take-add got n (put_mid got room buf part)
    ∙ ap (λ xs. xs ++ take n (drop got (put_mid got room buf part))) (take_at (take got buf) (part ++ post_of got room buf) got front)
    ∙ ap (λ xs. take got buf ++ take n xs) (drop_at (take got buf) (part ++ post_of got room buf) got front)
    ∙ ap (λ xs. take got buf ++ xs) (take-append-le n part (post_of got room buf) k)

pub reads_more : (old mid new : Option (List ℕ)) (got room n : ℕ) (buf part : List ℕ) → got ≤ length buf → n ≤ length part → Consumes old mid (take got buf) → Consumes mid new (take n part)
    → Consumes old new (take (got + n) (put_mid got room buf part))
reads_more old mid new got room n buf part h k before read =
    subst (Consumes old new) (sym (longer got room n buf part h k)) (consumes_more old mid new (take got buf) (take n part) before read)

-- the start of a filled buffer
pub start_is : (room n len : ℕ) (buf xs : List ℕ) → length buf ≡ room → take n buf ≡ take (length buf) xs → take (min n len) buf ≡ take room (take len xs)
start_is room n len buf xs h e =
    ap (λ k. take k buf) (omega arith) ∙ sym (take_both len n buf) ∙ ap (take len) (e ∙ ap (λ k. take k xs) h) ∙ take_both len room xs
    ∙ ap (λ k. take k xs) (omega arith) ∙ sym (take_both room len xs)

by_test : {P : Type 0} (a b : ℕ) (t : Bool) → ltb a b ≡ t → (a < b → P) → (b ≤ a → P) → P
by_test a b true e f g = f (ltb-true a b e)
by_test a b false e f g = g (ltb-false a b e)

pub by_lt : {P : Type 0} (a b : ℕ) → (a < b → P) → (b ≤ a → P) → P
by_lt a b f g = by_test a b (ltb a b) refl f g
