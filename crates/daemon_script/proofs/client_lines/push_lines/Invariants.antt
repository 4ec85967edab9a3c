use Rattle.std.proofs.Common.{◌≡◌, ◌++◌, drop}
use Rattle.daemon_script.specs.Script.{lines_for}
use Rattle.daemon_script.proofs.Numbered.{by_bytes}
use Rattle.daemon_script.proofs.client_lines.push_lines.Given as goal

abbrev pub invariant-loop-b : goal.invariant-loop-b
invariant-loop-b l = l.shown.items ++ by_bytes l.number l.begins (drop l.b-index l.text) ≡ l.initial.shown.items ++ lines_for l.number l.text
