-- The blanks of the seven ledgers of a house.
use Rattle.std.specs.Prelude.{ℕ, ◌≡◌, [], ◌∷◌, slice_index_or}
use Rattle.house.specs.declared.held.Blanks.{Blanks}
use Rattle.house.specs.Ledgers.{IsAt}

-- blanks that open these ledgers
abbrev pub AreFor : (ℕ → ℕ) → Blanks → Type 0
AreFor names b =
    IsAt names 0 b.first × IsAt names 1 b.second × IsAt names 2 b.third × IsAt names 3 b.fourth
    × IsAt names 4 b.frames.decoded × IsAt names 5 b.frames.written × IsAt names 6 b.frames.discarded

-- the names of these blanks
abbrev pub names_in : Blanks → ℕ → ℕ
names_in b index =
    slice_index_or (b.first.name ∷ b.second.name ∷ b.third.name ∷ b.fourth.name ∷ b.frames.decoded.name ∷ b.frames.written.name ∷ b.frames.discarded.name ∷ []) index 0

-- blanks of four seats have one part each
abbrev pub HasSeatsOfOnePart : Blanks → Type 0
HasSeatsOfOnePart b = (b.first.parts ≡ 1) × (b.second.parts ≡ 1) × (b.third.parts ≡ 1) × (b.fourth.parts ≡ 1)

-- those of frames have one part for the decoder; and a part for each of eight outputs, and one more
abbrev pub HasPartsOfFrames : Blanks → Type 0
HasPartsOfFrames b = (b.frames.decoded.parts ≡ 1) × (b.frames.written.parts ≡ 9) × (b.frames.discarded.parts ≡ 9)
