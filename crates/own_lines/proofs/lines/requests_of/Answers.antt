use Rattle.std.proofs.Common.{◌∙◌, List, ap, map, ℕ}
use Rattle.std.proofs.lemmas.Iterator.Consumers.{YieldsList-end}
use Rattle.std.proofs.lemmas.Iterator.Splits.{YieldsList-from_lines}
use Rattle.mpd_command.specs.Names.{fewest}
use Rattle.mpd_command.specs.Requests.{request_of}
use Rattle.own_lines.proofs.lines.requests_of.Goals as goal

pub returns : goal.returns
returns c =
    let t = YieldsList-end (YieldsList-from_lines c.args.text.now cc) c.each_line.yielded _ c.each_line.yielded_by _ _ c.in-None.is c.next.ensures.steps in
    c.each_line.invariant ∙ ap (map (λ (line : List ℕ). request_of line fewest)) t.0
