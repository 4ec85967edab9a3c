use Rattle.std.proofs.Common.{◌≡◌, ◌++◌, take}
use Rattle.daemon_script.specs.Script.{notices_for}
use Rattle.daemon_script.proofs.client_lines.push_notices.Given as goal

abbrev pub invariant-loop-notice : goal.invariant-loop-notice
invariant-loop-notice l = l.shown.items ≡ l.initial.shown.items ++ notices_for (take l.notice-index l.notices)
