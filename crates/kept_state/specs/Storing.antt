-- How a text is kept in a file (this profile's).
use Rattle.std.specs.Prelude.{ℕ, ◌≡◌, Bool, true, false, not, List}
use Rattle.std.specs.Str.{bytes_eq}

-- it is said whether a text is another one than that which was written last
abbrev pub SaysWhetherOther : List ℕ → List ℕ → Bool → Type 0
SaysWhetherOther written text is_other = is_other ≡ not (bytes_eq text written)

module _ {S : Type 0} (writes : S → List ℕ → List ℕ → S → Type 0) (renames : S → List ℕ → List ℕ → S → Type 0) where
  abbrev pub KeepsUnless : Bool → S → S → List ℕ → List ℕ → List ℕ → Type 0
  KeepsUnless true old new aside path text = new ≡ old
  KeepsUnless false old new aside path text = (between : S) × writes old aside text between × renames between aside path new

  -- a text is kept: it is the one that was written last, or it is written into the file beside, which is renamed
  abbrev pub Keeps : S → S → List ℕ → List ℕ → List ℕ → List ℕ → Type 0
  Keeps old new aside path written text = KeepsUnless (bytes_eq text written) old new aside path text
