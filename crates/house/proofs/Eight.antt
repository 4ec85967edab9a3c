-- Lists of eight numbers.
use Rattle.std.proofs.Common.{◌≡◌, ℕ, ◌+◌, ◌≤◌, List, [], ◌∷◌, length, refl, arith}
use Rattle.std.specs.Prelude.{slice_index_or, sum}
use Rattle.player_state.specs.Outputs.{grown, total}

-- eight numbers are those at their indices
pub eight : (numbers : List ℕ) → length numbers ≡ 8
    → slice_index_or numbers 0 0 ∷ slice_index_or numbers 1 0 ∷ slice_index_or numbers 2 0 ∷ slice_index_or numbers 3 0
    ∷ slice_index_or numbers 4 0 ∷ slice_index_or numbers 5 0 ∷ slice_index_or numbers 6 0 ∷ slice_index_or numbers 7 0 ∷ []
    ≡ numbers
eight [] many = absurd (omega (arith, many))
eight (a ∷ []) many = absurd (omega (arith, many))
eight (a ∷ b ∷ []) many = absurd (omega (arith, many))
eight (a ∷ b ∷ c ∷ []) many = absurd (omega (arith, many))
eight (a ∷ b ∷ c ∷ d ∷ []) many = absurd (omega (arith, many))
eight (a ∷ b ∷ c ∷ d ∷ e ∷ []) many = absurd (omega (arith, many))
eight (a ∷ b ∷ c ∷ d ∷ e ∷ f ∷ []) many = absurd (omega (arith, many))
eight (a ∷ b ∷ c ∷ d ∷ e ∷ f ∷ g ∷ []) many = absurd (omega (arith, many))
eight (a ∷ b ∷ c ∷ d ∷ e ∷ f ∷ g ∷ h ∷ []) many = refl
eight (a ∷ b ∷ c ∷ d ∷ e ∷ f ∷ g ∷ h ∷ k ∷ more) many = absurd (omega (arith, many))

-- what is true of lists of eight numbers that are written out is true of all
by_eight : (P : List ℕ → Type 0) → ((a b c d e f g h : ℕ) → P (a ∷ b ∷ c ∷ d ∷ e ∷ f ∷ g ∷ h ∷ [])) → (numbers : List ℕ) → length numbers ≡ 8 → P numbers
by_eight P each [] many = absurd (omega (arith, many))
by_eight P each (a ∷ []) many = absurd (omega (arith, many))
by_eight P each (a ∷ b ∷ []) many = absurd (omega (arith, many))
by_eight P each (a ∷ b ∷ c ∷ []) many = absurd (omega (arith, many))
by_eight P each (a ∷ b ∷ c ∷ d ∷ []) many = absurd (omega (arith, many))
by_eight P each (a ∷ b ∷ c ∷ d ∷ e ∷ []) many = absurd (omega (arith, many))
by_eight P each (a ∷ b ∷ c ∷ d ∷ e ∷ f ∷ []) many = absurd (omega (arith, many))
by_eight P each (a ∷ b ∷ c ∷ d ∷ e ∷ f ∷ g ∷ []) many = absurd (omega (arith, many))
by_eight P each (a ∷ b ∷ c ∷ d ∷ e ∷ f ∷ g ∷ h ∷ []) many = each a b c d e f g h
by_eight P each (a ∷ b ∷ c ∷ d ∷ e ∷ f ∷ g ∷ h ∷ k ∷ more) many = absurd (omega (arith, many))

none_more : (x a : ℕ) → x ≡ 0 → x + a ≡ a
none_more x a e = omega (arith, e)

-- numbers that grow by none
pub grown_none : (more : ℕ → ℕ) → ((n : ℕ) → more n ≡ 0) → (numbers : List ℕ) → length numbers ≡ 8 → grown numbers more ≡ numbers
grown_none more none = by_eight (λ numbers. grown numbers more ≡ numbers) (λ a b c d e f g h.
    λ i. none_more (more 0) a (none 0) i ∷ none_more (more 1) b (none 1) i ∷ none_more (more 2) c (none 2) i ∷ none_more (more 3) d (none 3) i
    ∷ none_more (more 4) e (none 4) i ∷ none_more (more 5) f (none 5) i ∷ none_more (more 6) g (none 6) i ∷ none_more (more 7) h (none 7) i ∷ [])

at_least : (a b c d e f g h x1 x2 x3 x4 x5 x6 x7 x8 : ℕ)
    → sum (a ∷ b ∷ c ∷ d ∷ e ∷ f ∷ g ∷ h ∷ []) ≤ sum ((x1 + a) ∷ (x2 + b) ∷ (x3 + c) ∷ (x4 + d) ∷ (x5 + e) ∷ (x6 + f) ∷ (x7 + g) ∷ (x8 + h) ∷ [])
at_least a b c d e f g h x1 x2 x3 x4 x5 x6 x7 x8 = omega arith

-- numbers that grow have no smaller sum
pub grown_sum : (more : ℕ → ℕ) (numbers : List ℕ) → length numbers ≡ 8 → sum numbers ≤ sum (grown numbers more)
grown_sum more = by_eight (λ numbers. sum numbers ≤ sum (grown numbers more)) (λ a b c d e f g h.
    at_least a b c d e f g h (more 0) (more 1) (more 2) (more 3) (more 4) (more 5) (more 6) (more 7))

-- eight numbers together are their sum
pub total_sum : (numbers : List ℕ) → length numbers ≡ 8 → sum numbers ≡ total numbers
total_sum = by_eight (λ numbers. sum numbers ≡ total numbers) (λ a b c d e f g h. omega arith)
