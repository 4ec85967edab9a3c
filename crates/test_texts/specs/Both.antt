-- Two texts that may both have been made.
use Rattle.std.specs.Prelude.{Result, IfOk}

-- where both were made, this holds of them
abbrev pub IfBoth : {A B E F : Type 0} → Result A E → Result B F → (A → B → Type 0) → Type 0
IfBoth first second holds = IfOk first (λ x. IfOk second (λ y. holds x y))
