use Rattle.std.proofs.Common.{◌≡◌, ◌++◌, ◌==◌, take}
use Rattle.std.specs.List.{filter}
use Rattle.daemon_script.specs.Script.{notices_for}
use Rattle.daemon_script.proofs.lists.push_notices_to.Given as goal

abbrev pub invariant-loop-notice : goal.invariant-loop-notice
invariant-loop-notice l = l.shown.items ≡ l.initial.shown.items ++ notices_for (filter (λ notice. notice.client == l.number) (take l.notice-index l.notices))
