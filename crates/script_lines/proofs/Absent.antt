-- A byte that a text does not have.
use Rattle.std.proofs.Common.{◌≡◌, ℕ, zero, suc, ◌<◌, false, List, [], ◌∷◌, length, arith}
use Rattle.std.specs.Prelude.{slice_index_or, Contains}
use Rattle.std.proofs.lemmas.Bool.Decides.{nat_tests}
use Rattle.script_lines.specs.Cuts.{has_byte}

-- it is nowhere
absent_at : (b : ℕ) (text : List ℕ) (k : ℕ) → has_byte b text ≡ false → k < length text → slice_index_or text k b ≡ b → ⊥
absent_at b [] k lacks below is = absurd (omega arith)
absent_at b (c ∷ cs) zero lacks below is = grind (arith, nat_tests)
absent_at b (c ∷ cs) (suc k) lacks below is = absent_at b cs k (grind (arith, nat_tests)) (omega arith) is

pub absent : (b : ℕ) (text : List ℕ) → has_byte b text ≡ false → ¬ Contains text b
absent b text lacks at = absent_at b text at.0 lacks at.1 at.2
