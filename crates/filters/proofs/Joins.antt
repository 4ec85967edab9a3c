-- Expressions that are joined.
use Rattle.std.proofs.Common.{◌≡◌, List, [], ◌∷◌, ◌++◌, refl}
use Rattle.filters.specs.Expressions.{Expression, Both, all_of}

pub all_push : (e : Expression) (fs : List Expression) (f : Expression) → all_of e (fs ++ f ∷ []) ≡ Both (all_of e fs) f
all_push e [] f = refl
all_push e (g ∷ fs) f = all_push (Both e g) fs f
