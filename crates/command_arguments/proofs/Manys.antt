-- Arguments that are read one after the other.
use Rattle.std.proofs.Common.{◌≡◌, ℕ, List, [], ◌∷◌, ◌++◌, Option, Result, Ok, Err, refl, ap, sym, append_assoc}
use Rattle.command_arguments.specs.declared.readers.Misread.{Misread}
use Rattle.command_arguments.specs.Readers.{argument_of, both, many_of, map_ok}

-- values, and then those that are read
abbrev pub after : {A : Type 0} → List A → Result (List A) Misread → Result (List A) Misread
after values r = map_ok (λ more. values ++ more) r

pub after_none : {A : Type 0} → (r : Result (List A) Misread) → after [] r ≡ r
after_none (Ok more) = refl
after_none (Err e) = refl

after_one : {A : Type 0} → (values : List A) (a : A) (r : Result (List A) Misread) → after values (map_ok (λ p. p.0 ∷ p.1) (both (Ok a) r)) ≡ after (values ++ a ∷ []) r
after_one values a (Ok more) = ap Ok (sym (append_assoc values (a ∷ []) more))
after_one values a (Err e) = refl

pub next_read : {A : Type 0} → (read : List ℕ → Option A) (values : List A) (word : List ℕ) (words : List (List ℕ)) (a : A) → argument_of read word ≡ Ok a
    → after values (many_of read (word ∷ words)) ≡ after (values ++ a ∷ []) (many_of read words)
next_read read values word words a e = rw e (after_one values a (many_of read words))

pub next_refused : {A : Type 0} → (read : List ℕ → Option A) (values : List A) (word : List ℕ) (words : List (List ℕ)) (fault : Misread) → argument_of read word ≡ Err fault
    → after values (many_of read (word ∷ words)) ≡ Err fault
next_refused read values word words fault e = rw e refl
