-- The state of a player, as its fields hold it.
use Rattle.std.specs.Prelude.{option_map, string_bytes}
use Rattle.player_core.specs.declared.player.Player.TheInside.{Inside}
use Rattle.player_core.specs.Player.{PlayerState}

abbrev pub state_in : Inside → PlayerState
state_in p = record {
  modes = p.modes;
  round = p.round;
  crossfade = p.crossfade;
  playback = p.playback;
  current = p.current;
  offset = p.offset;
  starts = p.starts;
  cuts = p.cuts;
  error = option_map string_bytes p.error;
  jobs = p.jobs;
  job = p.job;
  fade = p.fade;
  gave_up = p.gave_up;
  max_cut = p.max_cut;
}
