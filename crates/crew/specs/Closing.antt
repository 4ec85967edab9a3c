-- What a close answers.
use Rattle.std.specs.Prelude.{◌≡◌, ◌+◌, List, length, map}
use Rattle.std.specs.List.{range_with_len}
use Rattle.frame_ledger.specs.Shares.{HasAllParts}
use Rattle.frame_ledger.specs.declared.books.OutputShares.{OutputShares}
use Rattle.house.specs.declared.held.CrewShares.{CrewShares}
use Rattle.house.specs.declared.ended_ring.EndedRing.{EndedRing}
use Rattle.house.specs.declared.settlement.Settlement.{Settlement}
use Rattle.house.specs.Settling.{ClosesBooks}
use Rattle.output_ring.specs.Rings.{EndsFeeder, SameDrainer}
use Rattle.crew.specs.declared.output.OutputRun.{OutputRun}
use Rattle.crew.specs.Rows.{drainer_of_run, output_of_run}
use Rattle.crew_steps.specs.Each.{Each}
use Rattle.crew_steps.specs.Turns.{HasRun}

-- the shares gain one part of each of their ledgers
abbrev pub GainsOnePart : {W X : Type 0} → OutputShares W X → OutputShares W X → Type 0
GainsOnePart old new = (new.written.parts ≡ old.written.parts + 1) × (new.discarded.parts ≡ old.discarded.parts + 1)

-- the ring whose two ends came back from the threads is that of the output that ran, which had its turns under its
-- own number until it was told of the end, and obeyed each
abbrev pub LeavesRun : {L : Type 0} → OutputRun L → EndedRing → Type 0
LeavesRun run ring =
    EndsFeeder run.first.value ring.end × SameDrainer (drainer_of_run run) ring.drainer × HasRun (output_of_run run) (drainer_of_run run) ring.drainer

-- The outputs that ran have the numbers from 0 on, and each left its ring; all parts of the shares came back; and the
-- rings are settled by these numbers, one after the other, against the books of some past, which sum to those
-- shares. Which rings these are the settlements say.
abbrev pub ClosesRuns : {L : Type 0} → List (OutputRun L) → List (Settlement L) → Type 0
ClosesRuns {L} runs results =
    (rings : List EndedRing) × (shares : CrewShares L) × (map output_of_run runs ≡ range_with_len 0 (length runs)) × Each LeavesRun runs rings
    × HasAllParts shares.decoded.parts shares.outputs × ClosesBooks shares rings results
