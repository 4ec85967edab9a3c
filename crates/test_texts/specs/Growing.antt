-- A text that grows, or none after a fault.
use Rattle.std.specs.Prelude.{◌≡◌, ◌++◌, ℕ, List, Option, IfSome}

-- what is whole is what was before, if that was whole, and then the piece
abbrev pub Grows : Option (List ℕ) → List ℕ → Option (List ℕ) → Type 0
Grows old piece new = IfSome new (λ text. IfSome old (λ begun. text ≡ begun ++ piece))
