use Rattle.std.proofs.Common.{◌≡◌}
use Rattle.crew_steps.proofs.decoder.Decoder.have.Given as goal

abbrev pub invariant-loop : goal.invariant-loop
invariant-loop g l = (l.self.seat ≡ l.initial.self.seat) × (l.self.share ≡ l.initial.self.share) × (l.self.songs ≡ l.initial.self.songs)
