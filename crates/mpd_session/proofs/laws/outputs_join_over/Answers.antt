use Rattle.std.proofs.Common.{◌∙◌, arith, refl}
use Rattle.mpd_session.specs.Answers.{Answers, AnswersSometime, Caller, HasGrown, at_uptime}
use Rattle.mpd_session.proofs.Outputs.{both_over, one_over}
use Rattle.mpd_session.proofs.laws.outputs_join_over.Goals as goal

stays : {S : Type 0} (p : Caller S) → HasGrown p p
stays p = (refl, omega arith)

grows : {S : Type 0} (p q r : Caller S) → HasGrown p q → HasGrown q r → HasGrown p r
grows p q r (n, m) (n', m') = (n' ∙ n, omega (arith, m, m'))

pub returns-clause-timeless : goal.returns-clause-timeless
returns-clause-timeless g c = λ asker. (
  one_over (Answers g.S.Shelf.standing g.S.Shelf.failed asker) HasGrown stays grows
      (Answers g.S.Shelf.standing g.S.Shelf.failed asker) (λ p one text next q it. it),
  both_over (Answers g.S.Shelf.standing g.S.Shelf.failed asker) HasGrown stays grows,
)

pub returns-clause-sometime : goal.returns-clause-sometime
returns-clause-sometime g c = λ asker uptime. (
  one_over (Answers g.S.Shelf.standing g.S.Shelf.failed (at_uptime asker uptime)) HasGrown stays grows
      (AnswersSometime g.S.Shelf.standing g.S.Shelf.failed asker) (λ p one text next q it. (uptime, it)),
  both_over (AnswersSometime g.S.Shelf.standing g.S.Shelf.failed asker) HasGrown stays grows,
)
