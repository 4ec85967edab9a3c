-- What a caller learns who cannot see what the lock found: the value that was found is the witness.
use Rattle.std.proofs.Common.{◌≡◌, ◌<◌, ◌↔◌, ℕ, List, Result, Ok, Err, IfOk, IsNone, IsOk, IsSome, slice_index, sym, ap, ◌∙◌}
use Rattle.frame_ledger.specs.Balance.{Agrees, Balances}
use Rattle.frame_ledger.specs.declared.settlement.SettleFault.{SettleFault}
use Rattle.frame_ledger.specs.declared.settlement.SettleFault.TheVariants.{Unsettled}
use Rattle.frame_ledger.specs.declared.settlement.Settled.{Settled}
use Rattle.output_ring.specs.declared.drainer.Drainer.{Drainer}
use Rattle.output_ring.specs.declared.feeder.FeederEnd.{FeederEnd}
use Rattle.output_ring.specs.declared.frames.CutFrame.{CutFrame}
use Rattle.player_events.specs.declared.event.Event.{Event}
use Rattle.partition.specs.declared.partition.PartitionFault.{PartitionFault}
use Rattle.player_events.specs.Outcomes.{OutcomeData}
use Rattle.partition.specs.History.{Chronicle}
use Rattle.partition.specs.Legal.{IsPast}
use Rattle.player_state.specs.Outputs.{FrameBooks}
use Rattle.partition.specs.Step.{told}
use Rattle.house.specs.Seats.{SeatCount}
use Rattle.house.specs.Settling.{AreNumbers, Settles, with_fates}
use Rattle.house.specs.Views.{TellsSomewhere}
use Rattle.house.specs.Counts.{own_in}

module _ (past : Chronicle) (seat : SeatCount) (legal : IsPast past) (own : seat.number < 4 → own_in seat.number past.present ≡ seat.made) where
  pub tells : (event : Event) (r : Result OutcomeData PartitionFault) → IfOk r (λ outcome. outcome ≡ told past.present event) → IfOk r (λ outcome. TellsSomewhere seat event outcome)
  tells event (Ok outcome) is = (past, (legal, own), is)
  tells event (Err fault) is = tt

module _ (end : FeederEnd) (drainer : Drainer) (output : ℕ) (old new : FrameBooks) (decoded : new.decoded ≡ old.decoded)
    (written : new.written ≡ (with_fates drainer output old).written) (discarded : new.discarded ≡ (with_fates drainer output old).discarded) where
  numbers : (r : Result Settled SettleFault) → IfOk r (λ s. AreNumbers new output s) → IfOk r (λ s. AreNumbers (with_fates drainer output old) output s)
  numbers (Ok s) are =
      (ap (λ l. slice_index l output) (sym decoded) ∙ are.0, ap (λ l. slice_index l output) (sym written) ∙ are.1, ap (λ l. slice_index l output) (sym discarded) ∙ are.2)
  numbers (Err fault) are = tt

  pub settles : (r : Result Settled SettleFault) → IfOk r (λ s. Balances end drainer s) → IfOk r (λ s. AreNumbers new output s) → (r ≡ Err Unsettled) ↔ IsNone end.finished
      → ((taken : List CutFrame) → IsSome end.finished → Agrees end drainer old.decoded old.written old.discarded output taken → IsOk r)
      → Settles end drainer output old r
  settles r balances are unsettled agrees = record { balances = balances; numbers = numbers r are; unsettled = unsettled; agrees = agrees }
