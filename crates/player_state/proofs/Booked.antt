-- Books that an event leaves as they are.
use Rattle.std.proofs.Common.{◌≡◌, ℕ, ◌+◌, true, List, [], ◌∷◌, length, refl, arith}
use Rattle.player_state.specs.declared.effect.Effect.TheVariants.{ByCommand}
use Rattle.player_state.specs.declared.effect.CommandEffect.TheVariants.{Rests}
use Rattle.player_state.specs.declared.report.Report.TheVariants.{Nothing}
use Rattle.player_state.specs.Outputs.{books_after, can_count, can_count_all, decoded_by, grown}

none_more : (x a : ℕ) → x ≡ 0 → x + a ≡ a
none_more x a e = omega (arith, e)

-- eight numbers that grow by none
grown_none : (numbers : List ℕ) → length numbers ≡ 8 → (more : ℕ → ℕ) → ((n : ℕ) → more n ≡ 0) → grown numbers more ≡ numbers
grown_none (a ∷ b ∷ c ∷ d ∷ e ∷ f ∷ g ∷ h ∷ []) eight more none =
    λ i. none_more (more 0) a (none 0) i ∷ none_more (more 1) b (none 1) i ∷ none_more (more 2) c (none 2) i ∷ none_more (more 3) d (none 3) i
    ∷ none_more (more 4) e (none 4) i ∷ none_more (more 5) f (none 5) i ∷ none_more (more 6) g (none 6) i ∷ none_more (more 7) h (none 7) i ∷ []
grown_none [] eight more none = absurd (omega (arith, eight))
grown_none (a ∷ []) eight more none = absurd (omega (arith, eight))
grown_none (a ∷ b ∷ []) eight more none = absurd (omega (arith, eight))
grown_none (a ∷ b ∷ c ∷ []) eight more none = absurd (omega (arith, eight))
grown_none (a ∷ b ∷ c ∷ d ∷ []) eight more none = absurd (omega (arith, eight))
grown_none (a ∷ b ∷ c ∷ d ∷ e ∷ []) eight more none = absurd (omega (arith, eight))
grown_none (a ∷ b ∷ c ∷ d ∷ e ∷ f ∷ []) eight more none = absurd (omega (arith, eight))
grown_none (a ∷ b ∷ c ∷ d ∷ e ∷ f ∷ g ∷ []) eight more none = absurd (omega (arith, eight))
grown_none (a ∷ b ∷ c ∷ d ∷ e ∷ f ∷ g ∷ h ∷ k ∷ more_numbers) eight more none = absurd (omega (arith, eight))

pub rests_same : (decoded written discarded : List ℕ) → length decoded ≡ 8 → length written ≡ 8 → length discarded ≡ 8
    → books_after (record { decoded = decoded; written = written; discarded = discarded }) (ByCommand Rests) Nothing ≡ record { decoded = decoded; written = written; discarded = discarded }
rests_same decoded written discarded d w x = λ i. record {
  decoded = grown_none decoded d (decoded_by (ByCommand Rests) Nothing) (λ n. refl) i;
  written = grown_none written w (λ n. 0) (λ n. refl) i;
  discarded = grown_none discarded x (λ n. 0) (λ n. refl) i;
}

pub all_counted : (decoded written discarded : List ℕ) → can_count decoded ≡ true → can_count written ≡ true → can_count discarded ≡ true
    → can_count_all (record { decoded = decoded; written = written; discarded = discarded }) ≡ true
all_counted decoded written discarded d w x = rw (d, w, x) refl
