use Rattle.std.proofs.Common.{◌∙◌, ap, sym}
use Rattle.player_state.specs.Outputs.{can_count_all}
use Rattle.player_state.proofs.Booked.{all_counted, rests_same}
use Rattle.player_state.proofs.frame_counts.FrameCounts.rest.Goals as goal

pub returns-clause-counted : goal.returns-clause-counted
returns-clause-counted c =
    ap can_count_all (sym c.self.view_is) ∙ all_counted c.self.inside.decoded c.self.inside.written c.self.inside.discarded c.self.invariant.3 c.self.invariant.4 c.self.invariant.5

pub returns-clause-same : goal.returns-clause-same
returns-clause-same c =
    rw (← c.self.view_is) (rests_same c.self.inside.decoded c.self.inside.written c.self.inside.discarded c.self.invariant.0 c.self.invariant.1 c.self.invariant.2)
