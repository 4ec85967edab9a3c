use Rattle.std.proofs.Common.{◌≡◌, ◌∙◌, ap, sym, false, List, map, arith}
use Rattle.player_state.specs.declared.state.Part.{Part}
use Rattle.partition_table.specs.Parts.{crosses_beyond, known}
use Rattle.partition_table.proofs.Moves.{can_cross}
use Rattle.transitions.proofs.transition.Transition.carry_out.Goals as goal

pub cross-requires : goal.cross-requires
cross-requires c =
    let within : crosses_beyond c.max_cut_at-max_cut.result c.self.inside.crossing (map known c.args.parts.now) ≡ false =
    sym c.moves_beyond.ensures ∙ c.if-moves_beyond.false in
    ap (λ (ps : List Part). crosses_beyond 18446744073709551615 c.self.inside.crossing (map known ps)) c.in_ok-report.ensures.parts
    ∙ can_cross c.max_cut_at-max_cut.result c.args.library.now.rate c.args.index c.self.inside.effect c.self.inside.crossing c.args.parts.now (omega arith) within
