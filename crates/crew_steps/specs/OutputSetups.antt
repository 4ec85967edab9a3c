-- The rings of the outputs, as they are new.
use Rattle.std.specs.Prelude.{ℕ, ◌≡◌, []}
use Rattle.std.specs.Global.{Vec}
use Rattle.output_ring.specs.Rings.{most_of, room_of, taken_of}
use Rattle.output_ring.specs.declared.feeder.Feeder.{Feeder}
use Rattle.output_ring.specs.declared.drainer.Drainer.{Drainer}
use Rattle.crew_steps.specs.Each.{Each}
use Rattle.crew_steps.specs.declared.output_setup.OutputSetup.{OutputSetup}

module _ {O : Type 0} where
  abbrev pub feeder_of_setup : OutputSetup O → Feeder
  feeder_of_setup s = s.feeder

  abbrev pub drainer_of_setup : OutputSetup O → Drainer
  drainer_of_setup s = s.drainer

  -- an output's setup: a new ring with room for so many frames, and a hand for 1,024
  abbrev pub IsSetupOf : ℕ → O → OutputSetup O → Type 0
  IsSetupOf frames writer s = (s.writer ≡ writer) × (taken_of s.feeder ≡ []) × (room_of s.feeder ≡ frames) × (most_of s.drainer ≡ 1024)

  -- a setup for each writer
  abbrev pub AreSetupsOf : ℕ → Vec O → Vec (OutputSetup O) → Type 0
  AreSetupsOf frames writers setups = Each (IsSetupOf frames) writers.items setups.items
