use Rattle.std.specs.Prelude.{map}
use Rattle.kept_state.specs.Heard.{HasHeard}
use Rattle.kept_state.proofs.answers.kept_of.Given as goal

abbrev pub invariant-answers : goal.invariant-answers
invariant-answers l = HasHeard (map (λ line. line.now) l.yielded) l.heard
