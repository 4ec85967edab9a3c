-- What a thread wrote of the bytes that came from a ring meanwhile.
use Rattle.std.specs.Prelude.{◌≡◌, ◌≤◌, ℕ, List, ◌++◌, Option, length}
use Rattle.std.specs.Io.KnownBytes.{Appends}

-- all that came, in its order
abbrev pub WritesAll : List ℕ → List ℕ → Option (List ℕ) → Option (List ℕ) → Type 0
WritesAll before after old new = (came : List ℕ) × (after ≡ before ++ came) × Appends old new came

-- the first of what came, in its order; at most one piece of 4,096 bytes was left
abbrev pub WritesFirst : List ℕ → List ℕ → Option (List ℕ) → Option (List ℕ) → Type 0
WritesFirst before after old new =
    (came left : List ℕ) × (after ≡ before ++ (came ++ left)) × (length left ≤ 4096) × Appends old new came
