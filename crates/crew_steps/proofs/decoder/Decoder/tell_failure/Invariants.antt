use Rattle.std.proofs.Common.{◌≡◌}
use Rattle.crew_steps.proofs.decoder.Decoder.tell_failure.Given as goal

abbrev pub invariant-loop : goal.invariant-loop
invariant-loop g l = (l.self.seat ≡ l.initial.self.seat) × (l.self.songs ≡ l.initial.self.songs) × (l.self.share ≡ l.initial.self.share)
