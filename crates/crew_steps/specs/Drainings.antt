-- What contracts see of an output that runs.
use Rattle.std.specs.Prelude.{ℕ, ◌≡◌, List, Option}
use Rattle.std.specs.declared.io.traits.Write as Write
use Rattle.counted_devices.specs.declared.device.Failing as Failing
use Rattle.output_ring.specs.Rings.{has_failed}
use Rattle.output_ring.specs.declared.drainer.Drainer.{Drainer}
use Rattle.player_events.specs.Outcomes.{OutcomeData}
use Rattle.player_state.specs.declared.report.Report.{Report}
use Rattle.crew_steps.specs.Turns.{DoesAs, Drains, HasRun, Runs, RunsToEnd}
use Rattle.crew_steps.specs.declared.draining.Draining.{Draining}

module _ {L O G R : Type 0} {write : Write.Ghosts O} {failing : Failing.Ghosts O} where
  -- an output knows whether its writer has failed
  abbrev pub Knows : Draining L O G R write failing → Drainer → Type 0
  Knows output drainer = output.failed ≡ has_failed drainer

  -- it knows it still, where it did
  abbrev pub KeepsKnowing : Draining L O G R write failing → Drainer → Draining L O G R write failing → Drainer → Type 0
  KeepsKnowing old before new after = Knows old before → Knows new after

  -- its writer, its number, and whether the writer has failed, are as they were
  abbrev pub KeepsWriter : Draining L O G R write failing → Draining L O G R write failing → Type 0
  KeepsWriter old new = (new.writer ≡ old.writer) × (new.failed ≡ old.failed) × (new.output ≡ old.output)

  -- an output that knows it ran under its number, whatever bytes its writer had
  abbrev pub HasRunTo : Draining L O G R write failing → Drainer → Drainer → Type 0
  HasRunTo output drainer ended = Knows output drainer → HasRun output.output drainer ended

  -- what is known of a writer's bytes
  module _ (contents : O → Option (List ℕ)) where
    -- the same, with its writer
    abbrev pub RunsOut : Draining L O G R write failing → Drainer → Drainer → Type 0
    RunsOut output drainer ended = Knows output drainer → RunsToEnd contents output.output drainer output.writer ended

    -- it ran until its last turn was told this
    abbrev pub RunsTo : OutcomeData → Draining L O G R write failing → Drainer → Draining L O G R write failing → Drainer → Type 0
    RunsTo last old before new after = Knows old before → Runs contents old.output last before old.writer after new.writer

    -- it waited or had a turn
    abbrev pub DrainsOnce : Option OutcomeData → Draining L O G R write failing → Drainer → Draining L O G R write failing → Drainer → Type 0
    DrainsOnce told old before new after = Drains contents old.output old.failed told before old.writer after new.writer

    -- it did with its hand what its turn was told
    abbrev pub ObeysTurn : Report → Draining L O G R write failing → Drainer → Draining L O G R write failing → Drainer → Type 0
    ObeysTurn report old before new after = DoesAs contents report before old.writer after new.writer
