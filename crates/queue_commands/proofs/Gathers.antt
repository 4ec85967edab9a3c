-- Values that are looked for one after the other.
use Rattle.std.proofs.Common.{◌≡◌, List, [], ◌∷◌, ◌++◌, Option, Some, None, refl, ap, sym, append_assoc}
use Rattle.queue_commands.specs.Queue.{all_of, consed}

-- values, and then those that are found
abbrev pub after : {A : Type 0} → List A → Option (List A) → Option (List A)
after values None = None
after values (Some more) = Some (values ++ more)

pub after_none : {A : Type 0} → (o : Option (List A)) → after [] o ≡ o
after_none None = refl
after_none (Some more) = refl

after_one : {A : Type 0} → (values : List A) (a : A) (o : Option (List A)) → after values (consed (Some a) o) ≡ after (values ++ a ∷ []) o
after_one values a None = refl
after_one values a (Some more) = ap Some (sym (append_assoc values (a ∷ []) more))

pub next_found : {A B : Type 0} → (f : A → Option B) (values : List B) (x : A) (xs : List A) (b : B) → f x ≡ Some b
    → after values (all_of f (x ∷ xs)) ≡ after (values ++ b ∷ []) (all_of f xs)
next_found f values x xs b e = rw e (after_one values b (all_of f xs))

pub next_missing : {A B : Type 0} → (f : A → Option B) (values : List B) (x : A) (xs : List A) → f x ≡ None → after values (all_of f (x ∷ xs)) ≡ None
next_missing f values x xs e = rw e refl
