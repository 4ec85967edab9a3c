use Rattle.std.proofs.Common.{◌≡◌, take}
use Rattle.mpd_session.specs.Answers.{read_lines}
use Rattle.mpd_session.proofs.asking.read_all.Given as goal

abbrev pub invariant-loop-place : goal.invariant-loop-place
invariant-loop-place l = l.requests.items ≡ take l.place (read_lines l.set l.lines)
