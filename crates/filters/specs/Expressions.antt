-- Filter expressions (MPD protocol reference, Filters).
use Rattle.std.specs.Prelude.{ℕ, ◌+◌, List, [], ◌∷◌}
use Rattle.filters.specs.declared.expression.Field.{Field}
use Rattle.filters.specs.declared.expression.Test.{Test}

-- one comparison, the songs under a folder, a negation, or two that both hold
pub data Expression : Type 0 where
  Compare : Field → Test → List ℕ → Expression
  Under : List ℕ → Expression
  Negation : Expression → Expression
  Both : Expression → Expression → Expression

abbrev pub nodes : Expression → ℕ
nodes (Compare field test text) = 1
nodes (Under text) = 1
nodes (Negation e) = nodes e + 1
nodes (Both e f) = nodes e + nodes f + 1

-- one and all of these, joined from the left
abbrev pub all_of : Expression → List Expression → Expression
all_of e [] = e
all_of e (f ∷ fs) = all_of (Both e f) fs
