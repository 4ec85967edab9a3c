-- The counts of the four seats of callers.
use Rattle.std.proofs.Common.{◌≡◌, ℕ, zero, suc, ◌+◌, ◌<◌, ◌≤◌, ◌^◌, List, [], ◌∷◌, length, refl, ap, sym, ◌∙◌, arith}
use Rattle.std.specs.Prelude.{slice_index, slice_index_or, slice_set}
use Rattle.player_events.specs.declared.event.Event.{Event}
use Rattle.partition.specs.History.{Chronicle}
use Rattle.partition.specs.Image.{Image}
use Rattle.partition.specs.Legal.{IsPast}
use Rattle.partition.specs.Step.{next_image}
use Rattle.house.specs.Counts.{own_in, owns}

own_at : (made : List ℕ) (n : ℕ) → n < 4 → slice_index (owns made) n ≡ slice_index_or made n 0
own_at made zero low = refl
own_at made (suc zero) low = refl
own_at made (suc (suc zero)) low = refl
own_at made (suc (suc (suc zero))) low = refl
own_at made (suc (suc (suc (suc n)))) low = absurd (omega arith)

-- the books have each caller's count
pub found_at : (inside now : Chronicle) (books : List ℕ) (n made : ℕ) → inside ≡ now → books ≡ owns inside.present.shared.made
    → (n < 4 → slice_index books n ≡ made) → n < 4 → own_in n now.present ≡ made
found_at inside now books n made same is found low =
    ap (λ (c : Chronicle). own_in n c.present) (sym same) ∙ sym (own_at inside.present.shared.made n low) ∙ sym (ap (λ (xs : List ℕ). slice_index xs n) is) ∙ found low

-- so many events more of a seat
pub record Grows (s n : ℕ) (made after : List ℕ) : Type 0 where
  pub owns_are : owns after ≡ slice_set (owns made) s (slice_index_or made s 0 + n)
  pub own_is : slice_index_or after s 0 ≡ slice_index_or made s 0 + n
  pub long : length after ≡ length made

none_more : (n : ℕ) → n ≡ n + 0
none_more n = omega arith

set_same : (made : List ℕ) (s : ℕ) → owns made ≡ slice_set (owns made) s (slice_index_or made s 0 + 0)
set_same made zero = λ i. none_more (slice_index_or made 0 0) i ∷ slice_index_or made 1 0 ∷ slice_index_or made 2 0 ∷ slice_index_or made 3 0 ∷ []
set_same made (suc zero) = λ i. slice_index_or made 0 0 ∷ none_more (slice_index_or made 1 0) i ∷ slice_index_or made 2 0 ∷ slice_index_or made 3 0 ∷ []
set_same made (suc (suc zero)) = λ i. slice_index_or made 0 0 ∷ slice_index_or made 1 0 ∷ none_more (slice_index_or made 2 0) i ∷ slice_index_or made 3 0 ∷ []
set_same made (suc (suc (suc zero))) = λ i. slice_index_or made 0 0 ∷ slice_index_or made 1 0 ∷ slice_index_or made 2 0 ∷ none_more (slice_index_or made 3 0) i ∷ []
set_same made (suc (suc (suc (suc s)))) = refl

pub grows_none : (s : ℕ) (made : List ℕ) → Grows s 0 made made
grows_none s made = record { owns_are = set_same made s; own_is = none_more (slice_index_or made s 0); long = refl }

at_set : (xs : List ℕ) (s v : ℕ) → s < length xs → slice_index_or (slice_set xs s v) s 0 ≡ v
at_set [] s v low = absurd (omega arith)
at_set (x ∷ xs) zero v low = refl
at_set (x ∷ xs) (suc s) v low = at_set xs s v (omega arith)

set_long : (xs : List ℕ) (s v : ℕ) → length (slice_set xs s v) ≡ length xs
set_long [] s v = refl
set_long (x ∷ xs) zero v = refl
set_long (x ∷ xs) (suc s) v = ap suc (set_long xs s v)

set_twice : (xs : List ℕ) (s u v : ℕ) → slice_set (slice_set xs s u) s v ≡ slice_set xs s v
set_twice [] s u v = refl
set_twice (x ∷ xs) zero u v = refl
set_twice (x ∷ xs) (suc s) u v = ap (λ l. x ∷ l) (set_twice xs s u v)

owns_set : (made : List ℕ) (s v : ℕ) → 4 ≤ length made → owns (slice_set made s v) ≡ slice_set (owns made) s v
owns_set [] s v long = absurd (omega arith)
owns_set (a ∷ []) s v long = absurd (omega arith)
owns_set (a ∷ b ∷ []) s v long = absurd (omega arith)
owns_set (a ∷ b ∷ c ∷ []) s v long = absurd (omega arith)
owns_set (a ∷ b ∷ c ∷ d ∷ rest) zero v long = refl
owns_set (a ∷ b ∷ c ∷ d ∷ rest) (suc zero) v long = refl
owns_set (a ∷ b ∷ c ∷ d ∷ rest) (suc (suc zero)) v long = refl
owns_set (a ∷ b ∷ c ∷ d ∷ rest) (suc (suc (suc zero))) v long = refl
owns_set (a ∷ b ∷ c ∷ d ∷ rest) (suc (suc (suc (suc s)))) v long = refl

pub grows_one : (s : ℕ) (made : List ℕ) → s < length made → 4 ≤ length made → Grows s 1 made (slice_set made s (slice_index_or made s 0 + 1))
grows_one s made low long = record {
  owns_are = owns_set made s (slice_index_or made s 0 + 1) long;
  own_is = at_set made s (slice_index_or made s 0 + 1) low;
  long = set_long made s (slice_index_or made s 0 + 1);
}

pub grows_on : (s n : ℕ) (made next after : List ℕ) → Grows s 1 made next → Grows s n next after → Grows s (n + 1) made after
grows_on s n made next after one more =
    let sum : slice_index_or next s 0 + n ≡ slice_index_or made s 0 + (n + 1) = (let own = one.own_is in omega (arith, own)) in
    record {
      owns_are = more.owns_are ∙ ap (λ (xs : List ℕ). slice_set xs s (slice_index_or next s 0 + n)) one.owns_are
          ∙ set_twice (owns made) s (slice_index_or made s 0 + 1) (slice_index_or next s 0 + n) ∙ ap (slice_set (owns made) s) sum;
      own_is = more.own_is ∙ sum;
      long = more.long ∙ one.long;
    }

-- there are sixteen counts
pub many_counts : (c : Chronicle) → IsPast c → length c.present.shared.made ≡ 16
many_counts c past = ap (λ (i : Image). length i.shared.made) past.present.world

-- an event counts for its seat
next_made : (seat : ℕ) (i : Image) (e : Event) → (next_image seat i e).shared.made ≡ slice_set i.shared.made seat (slice_index_or i.shared.made seat 0 + 1)
unfolding next_image
next_made seat i e = refl

pub next_grows : (seat : ℕ) (i : Image) (e : Event) → seat < 16 → length i.shared.made ≡ 16 → Grows seat 1 i.shared.made (next_image seat i e).shared.made
next_grows seat i e low many =
    rw (next_made seat i e) (grows_one seat i.shared.made (omega (arith, low, many)) (omega (arith, many)))

set_as : (made : List ℕ) (s m n : ℕ) → (s < 4 → slice_index_or made s 0 ≡ m) → slice_set (owns made) s (m + n) ≡ slice_set (owns made) s (slice_index_or made s 0 + n)
set_as made zero m n found = ap (λ x. slice_set (owns made) 0 (x + n)) (sym (found (omega arith)))
set_as made (suc zero) m n found = ap (λ x. slice_set (owns made) 1 (x + n)) (sym (found (omega arith)))
set_as made (suc (suc zero)) m n found = ap (λ x. slice_set (owns made) 2 (x + n)) (sym (found (omega arith)))
set_as made (suc (suc (suc zero))) m n found = ap (λ x. slice_set (owns made) 3 (x + n)) (sym (found (omega arith)))
set_as made (suc (suc (suc (suc s)))) m n found = refl

-- more events of a seat are as many more in its book
pub counts_on : (made after books books' : List ℕ) (s m n : ℕ) → books ≡ owns made → (s < 4 → slice_index books s ≡ m)
    → books' ≡ slice_set books s (m + n) → Grows s n made after → books' ≡ owns after
counts_on made after books books' s m n is found counted grows =
    counted ∙ ap (λ (xs : List ℕ). slice_set xs s (m + n)) is
    ∙ set_as made s m n (λ low. sym (own_at made s low) ∙ sym (ap (λ (xs : List ℕ). slice_index xs s) is) ∙ found low)
    ∙ sym grows.owns_are

-- a caller's count, as far as its events can be counted
pub count_fits : (made books : List ℕ) (s m n : ℕ) → books ≡ owns made → (s < 4 → slice_index books s ≡ m) → slice_index_or made s 0 + n < 2 ^ 63 → s < 4 → m + n < 2 ^ 63
count_fits made books s m n is found fits low =
    let same : m ≡ slice_index_or made s 0 = sym (found low) ∙ ap (λ (xs : List ℕ). slice_index xs s) is ∙ own_at made s low in
    omega (arith, same, fits)

pub own_few : (made books : List ℕ) (s m : ℕ) → books ≡ owns made → (s < 4 → slice_index books s ≡ m) → m < 2 ^ 63 → s < 4 → slice_index_or made s 0 < 2 ^ 63
own_few made books s m is found few low =
    let same : m ≡ slice_index_or made s 0 = sym (found low) ∙ ap (λ (xs : List ℕ). slice_index xs s) is ∙ own_at made s low in
    omega (arith, same, few)
