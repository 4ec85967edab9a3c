use Rattle.std.proofs.Common.{ap, ◌∙◌}
use Rattle.std.specs.Prelude.{Bool, if◌then◌else◌}
use Rattle.house.proofs.house.House.longest_rest.Goals as goal

pub returns : goal.returns
returns g c = (c.player.result.now, c.plays-plays.ensures.legal, c.time_by.ensures ∙ ap (λ (plays : Bool). if plays then c.args.while_playing else c.args.while_idle) c.plays-plays.ensures.plays)
