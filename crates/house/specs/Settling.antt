-- What a settlement of an output answers.
use Rattle.std.specs.Prelude.{ℕ, ◌≡◌, ◌↔◌, ◌+◌, List, [], ◌∷◌, Result, Err, IfOk, IsNone, IsOk, IsSome, length, slice_index, sum, if◌then◌else◌}
use Rattle.frame_ledger.specs.Balance.{Agrees, Balances, has_room, raised}
use Rattle.frame_ledger.specs.declared.books.Books.{Books}
use Rattle.frame_ledger.specs.declared.settlement.SettleFault.{SettleFault}
use Rattle.frame_ledger.specs.declared.settlement.SettleFault.TheVariants.{Unsettled}
use Rattle.frame_ledger.specs.declared.settlement.Settled.{Settled}
use Rattle.output_ring.specs.Rings.{unreported_of}
use Rattle.output_ring.specs.declared.drainer.Drainer.{Drainer}
use Rattle.output_ring.specs.declared.feeder.FeederEnd.{FeederEnd}
use Rattle.output_ring.specs.declared.frames.CutFrame.{CutFrame}
use Rattle.partition.specs.History.{Chronicle}
use Rattle.partition.specs.Legal.{IsPast}
use Rattle.player_state.specs.Outputs.{FrameBooks}
use Rattle.house.specs.declared.held.CrewShares.{CrewShares}
use Rattle.house.specs.declared.ended_ring.EndedRing.{EndedRing}
use Rattle.house.specs.declared.settlement.Settlement.{Settlement}

-- the books once the fates of an output that no turn told of are counted in both of them, or in none where
-- they do not fit
abbrev pub with_fates : Drainer → ℕ → FrameBooks → FrameBooks
with_fates drainer output books = record {
  decoded = books.decoded;
  written = if has_room books.written books.discarded (unreported_of drainer) then raised books.written output (unreported_of drainer).written else books.written;
  discarded = if has_room books.written books.discarded (unreported_of drainer) then raised books.discarded output (unreported_of drainer).discarded else books.discarded;
}

-- where the books agree with the ring, an output is settled
abbrev pub SettlesWhereAgreed : FeederEnd → Drainer → FrameBooks → ℕ → Result Settled SettleFault → Type 0
SettlesWhereAgreed end drainer books output result =
    (taken : List CutFrame) → IsSome end.finished → Agrees end drainer books.decoded books.written books.discarded output taken → IsOk result

-- the settled numbers are those of the output in the books
abbrev pub AreNumbers : FrameBooks → ℕ → Settled → Type 0
AreNumbers books output s =
    (slice_index books.decoded output ≡ s.decoded) × (slice_index books.written output ≡ s.written) × (slice_index books.discarded output ≡ s.discarded)

-- What is answered of two ends where the books said this: the numbers are the ring's and the books'; it is
-- unsettled just where the end has no token, and no mismatch where the books agree.
pub record Settles (end : FeederEnd) (drainer : Drainer) (output : ℕ) (books : FrameBooks) (result : Result Settled SettleFault) : Type 0 where
  pub balances : IfOk result (λ s. Balances end drainer s)
  pub numbers : IfOk result (λ s. AreNumbers (with_fates drainer output books) output s)
  pub unsettled : (result ≡ Err Unsettled) ↔ IsNone end.finished
  pub agrees : SettlesWhereAgreed end drainer books output result

-- the numbers that the books have of each output
abbrev pub numbers_in : {E W X : Type 0} → Books E W X → FrameBooks
numbers_in books = record { decoded = books.decoded; written = books.written; discarded = books.discarded }

-- the numbers of books are these
abbrev pub AreNumbersOf : {E W X : Type 0} → Books E W X → FrameBooks → Type 0
AreNumbersOf books numbers = (books.decoded ≡ numbers.decoded) × (books.written ≡ numbers.written) × (books.discarded ≡ numbers.discarded)

-- each book has a number of each of eight outputs
abbrev pub HaveAllOutputs : FrameBooks → Type 0
HaveAllOutputs books = (length books.decoded ≡ 8) × (length books.written ≡ 8) × (length books.discarded ≡ 8)

-- whole shares have what the books sum to
abbrev pub AreSumsOf : {L : Type 0} → CrewShares L → FrameBooks → Type 0
AreSumsOf shares books =
    (shares.decoded.amount ≡ sum books.decoded) × (shares.outputs.written.amount ≡ sum books.written) × (shares.outputs.discarded.amount ≡ sum books.discarded)

-- the books once these rings, from that of output n on, were settled one after the other
abbrev pub settled_books : ℕ → List EndedRing → FrameBooks → FrameBooks
settled_books n [] books = books
settled_books n (ring ∷ rings) books = settled_books (n + 1) rings (with_fates ring.drainer n books)

-- An output's ring is settled against these books: the settlement names its very ends and these books, and is
-- right of them.
pub record SettlesRing {L : Type 0} (output : ℕ) (books : FrameBooks) (ring : EndedRing) (s : Settlement L) : Type 0 where
  pub end : s.end.value ≡ ring.end
  pub drainer : s.drainer.value ≡ ring.drainer
  pub found : numbers_in s.books.value ≡ books
  pub settles : Settles ring.end ring.drainer output books s.result

-- Rings, from that of output n on, are settled one after the other: the first against these books, each other
-- one against those that the settlements before it left.
abbrev pub SettlesInTurn : {L : Type 0} → ℕ → FrameBooks → List EndedRing → List (Settlement L) → Type 0
SettlesInTurn n books [] [] = Unit {0}
SettlesInTurn n books [] (s ∷ ss) = ⊥
SettlesInTurn n books (ring ∷ rings) [] = ⊥
SettlesInTurn n books (ring ∷ rings) (s ∷ ss) = SettlesRing n books ring s × SettlesInTurn (n + 1) (with_fates ring.drainer n books) rings ss

-- After some past the whole shares have what its books sum to, and all rings are settled against those.
abbrev pub ClosesBooks : {L : Type 0} → CrewShares L → List EndedRing → List (Settlement L) → Type 0
ClosesBooks shares rings results =
    (past : Chronicle) × IsPast past × AreSumsOf shares past.present.shared.books × SettlesInTurn 0 past.present.shared.books rings results
