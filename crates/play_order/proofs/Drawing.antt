-- Ranks and words drawn one after another.
use Rattle.std.proofs.Common.{◌≡◌, ℕ, zero, suc, ◌+◌, ◌<◌, List, [], ◌∷◌, ◌++◌, length, take, get_or, refl, ap, ◌∙◌}
use Rattle.std.proofs.Math.Numerals.{add-one}
use Rattle.std.proofs.lemmas.List.{take_more}
use Rattle.rand_pcg.specs.Lcg.{Lcg}
use Rattle.rand_pcg.specs.Pcg.{pcg32}
use Rattle.play_order.specs.Draws.{ranks_drawn, generator_after, words_drawn, generator_after_words}

pub ranks_drawn-push : (g : Lcg) (ids : List ℕ) (id : ℕ) → ranks_drawn g (ids ++ id ∷ []) ≡ ranks_drawn g ids ++ record { id = id; rank = (pcg32 (generator_after g ids)).0 } ∷ []
ranks_drawn-push g [] id = refl
ranks_drawn-push g (first ∷ ids) id = ap (λ r. record { id = first; rank = (pcg32 g).0 } ∷ r) (ranks_drawn-push (pcg32 g).1 ids id)

pub generator_after-push : (g : Lcg) (ids : List ℕ) (id : ℕ) → generator_after g (ids ++ id ∷ []) ≡ (pcg32 (generator_after g ids)).1
generator_after-push g [] id = refl
generator_after-push g (first ∷ ids) id = generator_after-push (pcg32 g).1 ids id

-- one more draw
pub ranks_drawn-more : (g : Lcg) (ids : List ℕ) (i : ℕ) → i < length ids
    → ranks_drawn g (take (i + 1) ids) ≡ ranks_drawn g (take i ids) ++ record { id = get_or ids i 0; rank = (pcg32 (generator_after g (take i ids))).0 } ∷ []
ranks_drawn-more g ids i h = ap (ranks_drawn g) (take_more ids i 0 h) ∙ ranks_drawn-push g (take i ids) (get_or ids i 0)

pub generator_after-more : (g : Lcg) (ids : List ℕ) (i : ℕ) → i < length ids → generator_after g (take (i + 1) ids) ≡ (pcg32 (generator_after g (take i ids))).1
generator_after-more g ids i h = ap (generator_after g) (take_more ids i 0 h) ∙ generator_after-push g (take i ids) (get_or ids i 0)

-- one more word
words_drawn-push : (g : Lcg) (n : ℕ) → words_drawn g (suc n) ≡ words_drawn g n ++ (pcg32 (generator_after_words g n)).0 ∷ []
words_drawn-push g zero = refl
words_drawn-push g (suc n) = ap (λ ws. (pcg32 g).0 ∷ ws) (words_drawn-push (pcg32 g).1 n)

generator_after_words-push : (g : Lcg) (n : ℕ) → generator_after_words g (suc n) ≡ (pcg32 (generator_after_words g n)).1
generator_after_words-push g zero = refl
generator_after_words-push g (suc n) = generator_after_words-push (pcg32 g).1 n

pub words_drawn-more : (g : Lcg) (n : ℕ) → words_drawn g (n + 1) ≡ words_drawn g n ++ (pcg32 (generator_after_words g n)).0 ∷ []
words_drawn-more g n = ap (words_drawn g) (add-one n) ∙ words_drawn-push g n

pub generator_after_words-more : (g : Lcg) (n : ℕ) → generator_after_words g (n + 1) ≡ (pcg32 (generator_after_words g n)).1
generator_after_words-more g n = ap (generator_after_words g) (add-one n) ∙ generator_after_words-push g n
