use Rattle.std.proofs.Common.{◌≤◌, ◌∙◌, ap, subst, rules}
use Rattle.library_scan.proofs.Windows.{gives, ended}
use Rattle.library_scan.proofs.window.WindowedRead.read.Goals as goal

pub returns-clause-bytes : goal.returns-clause-bytes
returns-clause-bytes g c = (
  gives _ _ _ _ _ _ _ _ _ (c.make_ready.ensures.file ∙ ap g.M.Media.all_bytes c.count_call.ensures.file) (ap g.M.Media.all_bytes c.give.ensures.file) (c.make_ready.ensures.len ∙ c.count_call.ensures.len) c.give.ensures.len (c.make_ready.ensures.offset ∙ c.count_call.ensures.offset) c.give.result _ c.make_ready.new.self.short (search rules) c.give.ensures.stand c.give.ensures.offset,
  (λ zero room. ended _ _ _ _ _ _ _ _ _ c.make_ready.ensures.file (ap g.M.Media.all_bytes c.give.ensures.file) c.make_ready.ensures.len c.give.ensures.len c.make_ready.ensures.offset (c.in_ok-make_ready.ensures.ends (search rules)) (subst (λ p. p ≤ c.give.new.self.offset) c.make_ready.ensures.offset c.give.ensures.later)),
)
