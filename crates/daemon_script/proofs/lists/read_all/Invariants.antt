use Rattle.std.proofs.Common.{◌≡◌, map, take}
use Rattle.daemon_script.specs.Script.{request_in}
use Rattle.daemon_script.proofs.lists.read_all.Given as goal

abbrev pub invariant-loop-place : goal.invariant-loop-place
invariant-loop-place l = l.requests.items ≡ take l.place (map (request_in l.set) l.lines)
