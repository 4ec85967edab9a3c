-- What `outputs` shows after an output was turned on or off (MPD protocol reference, Audio output devices).
use Rattle.std.specs.Prelude.{◌≡◌, ℕ, ◌==◌, Bool, true, false, not, if◌then◌else◌, List, ◌++◌, length, map, codes, decimal}
use Rattle.std.specs.List.{flat_map}
use Rattle.mpd_command.specs.declared.outputs.OutputCommand.{OutputCommand}
use Rattle.mpd_command.specs.declared.outputs.OutputCommand.TheVariants as outputs
use Rattle.mpd_text.specs.Answers.Answer.{pair_line}
use Rattle.player_state.specs.Effects.{part_after}
use Rattle.player_state.specs.Outputs.{OutputsData}
use Rattle.player_state.specs.declared.effect.Effect.TheVariants.{ByCommand}
use Rattle.player_state.specs.declared.state.Part.{Part}
use Rattle.status_commands.specs.Outputs.{result_of}
use Rattle.transitions.specs.CommandResults.{shows}
use Rattle.transitions.specs.declared.asked.Asked.{Asked}
use Rattle.queue_laws.specs.Options.{switch_text}

-- an output as `outputs` shows it
pub record Output : Type 0 where
  pub number : ℕ
  pub name : List ℕ
  pub enabled : Bool

abbrev pub lines_of : Output → List ℕ
lines_of it =
    pair_line (codes "outputid") (decimal it.number)
    ++ (pair_line (codes "outputname") it.name
    ++ (pair_line (codes "plugin") (codes "raw") ++ pair_line (codes "outputenabled") (switch_text it.enabled)))

-- `outputs` shows these
abbrev pub ShowsOutputs : Asked → Part → List Output → Type 0
ShowsOutputs asked part shown = result_of asked part outputs.Outputs ≡ shows asked (flat_map lines_of shown)

-- an output, turned on or off where it has this number
abbrev pub switched : ℕ → Bool → Output → Output
switched number on it = if it.number == number then record it { enabled = on } else it

-- an output after a command
abbrev pub output_left : OutputCommand → Output → Output
output_left (outputs.DisableOutput number) it = switched number false it
output_left (outputs.EnableOutput number) it = switched number true it
output_left (outputs.ToggleOutput number) it = switched number (not it.enabled) it
output_left outputs.Outputs it = it

-- of eight outputs it is known whether each is here, and whether it is enabled
abbrev pub KnowsEight : OutputsData → Type 0
KnowsEight it = (length it.here ≡ 8) × (length it.enabled ≡ 8)

abbrev pub part_left : ℕ → Asked → Part → OutputCommand → Part
part_left rate asked part it = part_after rate part (ByCommand (result_of asked part it).effect)

-- The output that a command names is shown as the command says, and every other as before; no more than outputs
-- changes; a command that is refused leaves all as it was.
pub record SwitchesAsSaid (rate : ℕ) (asking asked : Asked) (part : Part) (it : OutputCommand) : Type 0 where
  pub done :
      (result_of asking part it).answer.refused ≡ false
      → (shown : List Output) × ShowsOutputs asked part shown
      × ShowsOutputs asked (part_left rate asking part it) (map (output_left it) shown)
  pub refused : (result_of asking part it).answer.refused ≡ true → part_left rate asking part it ≡ part
  pub rest : part_left rate asking part it ≡ record part { outputs = (part_left rate asking part it).outputs }

abbrev pub OutputsAreShown : Type 0
OutputsAreShown =
    (rate : ℕ) (asking asked : Asked) (part : Part) (it : OutputCommand)
    → KnowsEight part.outputs → SwitchesAsSaid rate asking asked part it
