-- The commands that look at outputs and turn them on and off (MPD protocol reference, Audio output devices;
-- that an output which has failed stays off is this profile's).
use Rattle.std.specs.Prelude.{ℕ, Bool, true, false, if◌then◌else◌, List, [], ◌++◌, codes, decimal}
use Rattle.std.specs.List.{enumerate_from, flat_map}
use Rattle.mpd_text.specs.Answers.Answer.{pair_line}
use Rattle.mpd_text.specs.declared.answers.answer.ErrorNumber.TheVariants.{NoExist, System}
use Rattle.transitions.specs.CommandResults.{does, refusal, shows}
use Rattle.status_commands.specs.Status.{digit}
use Rattle.player_state.specs.declared.effect.CommandEffect.TheVariants.{Switches}
use Rattle.transitions.specs.declared.asked.Asked.{Asked}
use Rattle.player_state.specs.declared.state.Part.{Part}
use Rattle.transitions.specs.Transitions.{CommandResult}
use Rattle.player_state.specs.Outputs.{OutputsData, has_failed, is_enabled, is_output}
use Rattle.mpd_command.specs.declared.outputs.OutputCommand.{OutputCommand}
use Rattle.mpd_command.specs.declared.outputs.OutputCommand.TheVariants as output_command

unfoldable pub output_name_lines : ℕ → List ℕ → List ℕ
output_name_lines number name = pair_line (codes "outputid") (decimal number) ++ pair_line (codes "outputname") name

unfoldable pub plugin_line : List ℕ
plugin_line = pair_line (codes "plugin") (codes "raw")

unfoldable pub enabled_line : ℕ → List ℕ
enabled_line on = pair_line (codes "outputenabled") (decimal on)

abbrev pub output_lines : OutputsData → ℕ × List ℕ → List ℕ
output_lines outputs row = output_name_lines row.0 row.1 ++ (plugin_line ++ enabled_line (digit (is_enabled outputs row.0)))

-- the lines of an output that is in the partition
abbrev pub lines_if_here : OutputsData → ℕ × List ℕ → List ℕ
lines_if_here outputs row = if is_output outputs row.0 then output_lines outputs row else []

-- the outputs of the partition, by number: the index of the name among those of all outputs
abbrev pub outputs : Asked → Part → CommandResult
outputs asked part = shows asked (flat_map (lines_if_here part.outputs) (enumerate_from 0 part.outputs.names))

abbrev pub no_such_output : Asked → CommandResult
no_such_output asked = refusal asked NoExist (codes "no such output")

-- an output of the partition is turned on, unless it has failed, or off
abbrev pub switch_known : Asked → Part → ℕ → Bool → CommandResult
switch_known asked part output true = if has_failed part.outputs output then refusal asked System (codes "output has failed") else does asked (Switches output true)
switch_known asked part output false = does asked (Switches output false)

abbrev pub switch_output : Asked → Part → ℕ → Bool → CommandResult
switch_output asked part output on = if is_output part.outputs output then switch_known asked part output on else no_such_output asked

-- one that is on is turned off, and one that is off on
abbrev pub toggle_output : Asked → Part → ℕ → CommandResult
toggle_output asked part output = switch_output asked part output (if is_enabled part.outputs output then false else true)

-- what each command makes of the player
unfoldable pub result_of : Asked → Part → OutputCommand → CommandResult
result_of asked part (output_command.DisableOutput output) = switch_output asked part output false
result_of asked part (output_command.EnableOutput output) = switch_output asked part output true
result_of asked part output_command.Outputs = outputs asked part
result_of asked part (output_command.ToggleOutput output) = toggle_output asked part output
