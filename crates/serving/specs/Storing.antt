-- How files take other names (this profile's).
use Rattle.std.specs.Prelude.{ℕ, ◌≡◌, List, Option, Some, None}

module _ {S : Type 0} (moves : S → List ℕ → List ℕ → S → Type 0) where
  -- a file has the other name, if there is one
  abbrev pub IsSetAside : S → List ℕ → Option (List ℕ) → S → Type 0
  IsSetAside old path None new = new ≡ old
  IsSetAside old path (Some aside) new = moves old path aside new

  -- a file has the other name, and then the system stored that
  abbrev pub IsRenamed : (S → List ℕ → S → Type 0) → S → List ℕ → List ℕ → S → Type 0
  IsRenamed syncs old from to new = (between : S) × (folder : List ℕ) × moves old from to between × syncs between folder new
