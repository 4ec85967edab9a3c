-- What the threads promise of what they hand back.
use Rattle.std.specs.Prelude.{ℕ, List}
use Rattle.output_ring.specs.Rings.{EndsFeeder, SameDrainer}
use Rattle.output_ring.specs.declared.drainer.Drainer.{Drainer}
use Rattle.output_ring.specs.declared.feeder.Feeder.{Feeder}
use Rattle.output_ring.specs.declared.feeder.FeederEnd.{FeederEnd}
use Rattle.crew_steps.specs.Decoding.{RunsDecoder}
use Rattle.crew_steps.specs.Each.{Each}
use Rattle.crew_steps.specs.Turns.{HasRun}

-- it is the ring's end that the output of this number was given, and the output ran with it until it was told of the end
abbrev pub HandsBack : ℕ → Drainer → Drainer → Type 0
HandsBack output given back = SameDrainer given back × HasRun output given back

-- each end is of the ring of the feeder at its index, and the rings took what a decoder of songs of this rate handed out
-- until it was told of the end
abbrev pub HandsBackAll : ℕ → List Feeder → List FeederEnd → Type 0
HandsBackAll rate feeders ends = Each EndsFeeder feeders ends × RunsDecoder rate feeders ends
