-- The shares of the books of frames.
use Rattle.std.specs.Prelude.{◌≡◌, ◌+◌, ℕ}
use Rattle.frame_ledger.specs.declared.books.OutputShares.{OutputShares}

-- the shares of outputs have as many parts as before
abbrev pub KeepsParts : {W X : Type 0} → OutputShares W X → OutputShares W X → Type 0
KeepsParts old new = (new.written.parts ≡ old.written.parts) × (new.discarded.parts ≡ old.discarded.parts)

-- the shares have all parts of their ledgers: one of decoded frames; of written and of discarded ones a part
-- for each of eight outputs, and one more
abbrev pub HasAllParts : {W X : Type 0} → ℕ → OutputShares W X → Type 0
HasAllParts decoded outputs = (decoded ≡ 1) × (outputs.written.parts ≡ 9) × (outputs.discarded.parts ≡ 9)

-- no frames are in the shares
abbrev pub HasNoFrames : {W X : Type 0} → ℕ → OutputShares W X → Type 0
HasNoFrames decoded outputs = (decoded ≡ 0) × (outputs.written.amount ≡ 0) × (outputs.discarded.amount ≡ 0)

-- the shares have one part of each of their ledgers
abbrev pub HasOnePart : {W X : Type 0} → OutputShares W X → Type 0
HasOnePart outputs = (outputs.written.parts ≡ 1) × (outputs.discarded.parts ≡ 1)

-- the shares have all parts of their ledgers but those of so many outputs, which have one part each
abbrev pub HasPartsBut : {W X : Type 0} → ℕ → OutputShares W X → Type 0
HasPartsBut count outputs = (outputs.written.parts + count ≡ 9) × (outputs.discarded.parts + count ≡ 9)

-- no frames are in the shares of outputs
abbrev pub AreEmpty : {W X : Type 0} → OutputShares W X → Type 0
AreEmpty outputs = (outputs.written.amount ≡ 0) × (outputs.discarded.amount ≡ 0)
