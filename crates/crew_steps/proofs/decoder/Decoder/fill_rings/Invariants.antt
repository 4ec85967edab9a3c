use Rattle.std.proofs.Common.{◌≡◌}
use Rattle.crew_steps.specs.Each.{Each}
use Rattle.crew_steps.specs.Feeding.{TakesNone}
use Rattle.crew_steps.proofs.decoder.Decoder.fill_rings.Given as goal

abbrev pub invariant-loop : goal.invariant-loop
invariant-loop g l = record {
  kept : Each TakesNone l.initial.feeders.items l.feeders.items;
  rate : l.self.songs.rate ≡ l.initial.self.songs.rate;
}
