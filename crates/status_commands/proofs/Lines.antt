-- Lines that are put after others.
use Rattle.std.proofs.Common.{◌≡◌, ℕ, List, ◌++◌, Result, Ok, Err, ap, append_assoc, ◌∙◌}
use Rattle.std.specs.Prelude.{OnOk}

-- a line after a first one
pub after_first : {X E : Type 0} (r : Result X E) (old first second mid new : List ℕ) → mid ≡ old ++ first → OnOk r (new ≡ mid ++ second) → OnOk r (new ≡ old ++ (first ++ second))
after_first (Ok x) old first second mid new one two = two ∙ ap (λ (lines : List ℕ). lines ++ second) one ∙ append_assoc old first second
after_first (Err e) old first second mid new one two = tt

-- a line after three
pub after_three : {X E : Type 0} (r : Result X E) (old a b c d one two three new : List ℕ)
    → one ≡ old ++ a → two ≡ one ++ b → three ≡ two ++ c → OnOk r (new ≡ three ++ d) → OnOk r (new ≡ old ++ (a ++ (b ++ (c ++ d))))
after_three (Ok x) old a b c d one two three new ea eb ec ed =
    ed ∙ ap (λ (lines : List ℕ). lines ++ d) (ec ∙ ap (λ (lines : List ℕ). lines ++ c) (eb ∙ ap (λ (lines : List ℕ). lines ++ b) ea))
    ∙ append_assoc ((old ++ a) ++ b) c d ∙ append_assoc (old ++ a) b (c ++ d) ∙ append_assoc old a (b ++ (c ++ d))
after_three (Err e) old a b c d one two three new ea eb ec ed = tt

-- lines that are joined, and a rest behind them
pub two : (a b r : List ℕ) → (a ++ b) ++ r ≡ a ++ (b ++ r)
two a b r = append_assoc a b r

pub three : (a b c r : List ℕ) → (a ++ (b ++ c)) ++ r ≡ a ++ (b ++ (c ++ r))
three a b c r = append_assoc a (b ++ c) r ∙ ap (λ l. a ++ l) (two b c r)

pub four : (a b c d r : List ℕ) → (a ++ (b ++ (c ++ d))) ++ r ≡ a ++ (b ++ (c ++ (d ++ r)))
four a b c d r = append_assoc a (b ++ (c ++ d)) r ∙ ap (λ l. a ++ l) (three b c d r)

pub five : (a b c d e r : List ℕ) → (a ++ (b ++ (c ++ (d ++ e)))) ++ r ≡ a ++ (b ++ (c ++ (d ++ (e ++ r))))
five a b c d e r = append_assoc a (b ++ (c ++ (d ++ e))) r ∙ ap (λ l. a ++ l) (four b c d e r)
