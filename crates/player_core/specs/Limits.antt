-- When a number is at its limit, as the code asks it before a step.
use Rattle.std.specs.Prelude.{Bool, true, ◌==◌, ◌&&◌, ◌||◌}
use Rattle.player_core.specs.Player.{PlayerState}

-- whether a start, if there is one, would raise a number above its limit
abbrev pub ends_starts : PlayerState → Bool → Bool
ends_starts p starts = starts && (p.starts == p.max_cut)

-- whether a cut would, with a start or without
abbrev pub ends_cuts : PlayerState → Bool → Bool
ends_cuts p starts = (p.cuts == p.max_cut) || ends_starts p starts

-- whether a start by hand, if there is one, would
abbrev pub ends_by_hand : PlayerState → Bool → Bool
ends_by_hand p starts = starts && ends_cuts p true
