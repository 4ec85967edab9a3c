use Rattle.std.proofs.Common.{◌≡◌}
use Rattle.output_ring.specs.Rings.{SameFeeder}
use Rattle.crew_steps.specs.Each.{Each}
use Rattle.crew_steps.specs.Shown.{causes}
use Rattle.crew_steps.proofs.Decodings.{DidSoFar}
use Rattle.crew_steps.proofs.decoder.Decoder.keep_decoding.Given as goal

abbrev pub invariant-loop : goal.invariant-loop
invariant-loop g l = record {
  rings : Each SameFeeder l.initial.feeders.items l.feeders.items;
  rate : l.self.songs.rate ≡ l.initial.self.songs.rate;
  did : DidSoFar (causes l.initial.self.songs) l.initial.self.songs.rate l.initial.feeders.items l.feeders.items;
}
