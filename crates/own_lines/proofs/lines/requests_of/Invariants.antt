use Rattle.std.specs.Prelude.{◌≡◌, map}
use Rattle.mpd_command.specs.Names.{fewest}
use Rattle.mpd_command.specs.Requests.{request_of}
use Rattle.own_lines.proofs.lines.requests_of.Given as goal

abbrev pub invariant-each_line : goal.invariant-each_line
invariant-each_line l = l.requests.items ≡ map (λ line. request_of line fewest) (map (λ line. line.now) l.yielded)
