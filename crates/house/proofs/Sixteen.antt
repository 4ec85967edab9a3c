-- Tests at indices, one after the other.
use Rattle.std.proofs.Common.{◌≡◌, ℕ, zero, suc, ◌+◌, ◌<◌, Bool, false, List, [], ◌∷◌, length, Option, None, Some, refl, ap, ◌∙◌, arith}
use Rattle.std.specs.Prelude.{is_some, slice_index_or}
use Rattle.std.specs.Borrow.{Bor}
use Rattle.std.specs.Option.{option_copied}

-- each is what a test says of its index, from an index on
abbrev pub AreFrom : (ℕ → Bool) → ℕ → List Bool → Type 0
AreFrom test n [] = Unit {0}
AreFrom test n (b ∷ bs) = (b ≡ test n) × AreFrom test (n + 1) bs

one_on : (n k : ℕ) → (n + 1) + k ≡ n + suc k
one_on n k = omega arith

none_on : (n : ℕ) → n ≡ n + 0
none_on n = omega arith

at_index : (test : ℕ → Bool) (n : ℕ) (bs : List Bool) → AreFrom test n bs → (index : ℕ) → index < length bs → slice_index_or bs index false ≡ test (n + index)
at_index test n [] are index low = absurd (omega (arith, low))
at_index test n (b ∷ bs) are zero low = are.0 ∙ ap test (none_on n)
at_index test n (b ∷ bs) are (suc index) low = at_index test (n + 1) bs are.1 index (omega (arith, low)) ∙ ap test (one_on n index)

pub at_indices : (test : ℕ → Bool) (bs : List Bool) → AreFrom test 0 bs → (index : ℕ) → index < length bs → slice_index_or bs index false ≡ test index
at_indices test bs are index low =
    let same : 0 + index ≡ index = omega arith in
    at_index test 0 bs are index low ∙ ap test same

-- whether there is something, or what is behind it
pub copied_there : {T : Type 0} (o : Option (Bor T)) → is_some o ≡ is_some (option_copied o)
copied_there None = refl
copied_there (Some x) = refl
