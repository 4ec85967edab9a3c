-- What the laws of all partitions assume: the daemon opens its player so, whatever its settings say, and there is something
-- of which all of it holds (the settings are this profile's).
use Rattle.std.specs.Prelude.{ℕ, ◌≡◌, ◌<◌, ◌≤◌, List, [], ◌∷◌, map, codes, slice_index_or, string_bytes}
use Rattle.kept_state.specs.Lines.{state_steps}
use Rattle.kept_state.specs.declared.partitions.KeptPartition.{KeptPartition}
use Rattle.opened_player.specs.Opened.{setup_for}
use Rattle.partition.specs.declared.state.Setup.{Setup}
use Rattle.player_state.specs.Outputs.{OutputsData}
use Rattle.settings.specs.Values.{AreWithin, HaveOwnNames}
use Rattle.settings.specs.declared.values.OutputSettings.{OutputSettings}
use Rattle.settings.specs.declared.values.Settings.{Settings}
use Rattle.state_laws.specs.Limits.{count_lines}
use Rattle.state_laws.specs.Partitions.{ArePartitions, AreSetUp, CanBeTold, Each, lines_of_player}
use Rattle.state_laws.specs.Saying.{HasRoom, songs_of}
use Rattle.state_laws.specs.Telling.{IsPlainPartition}

abbrev pub NoneWasMoved : OutputsData → Type 0
NoneWasMoved outputs = (output : ℕ) → slice_index_or outputs.moves output 0 ≡ 0

-- The crate `settings` reads no other settings than these: each number is in its range, and there are at most eight outputs,
-- no two of one name. With them the daemon opens a player whose outputs are set up as the laws assume.
abbrev pub SettingsAreSetUp : Type 0
SettingsAreSetUp =
    (settings : Settings) → AreWithin settings → HaveOwnNames settings.outputs.items
    → AreSetUp (setup_for settings).outputs × NoneWasMoved (setup_for settings).outputs

-- Whatever the settings say, there is room for the songs of a queue, of which there are at most 16,384, and for their ids;
-- and there may be as many cuts as lines.
abbrev pub SettingsLeaveRoom : Type 0
SettingsLeaveRoom =
    (settings : Settings) (songs lines : ℕ) → songs ≤ 16384 → lines < 9223372036854775806
    → HasRoom (setup_for settings) songs × (lines ≤ (setup_for settings).limits.max_cut)

-- ---- something of which all of it holds

-- All that the laws assume of a setup and of the partitions that are kept. Where another player told them of itself, the
-- laws assume more of that player (`AreKeptOf`).
pub record AreAssumed (setup : Setup) (partitions : List KeptPartition) : Type 0 where
  pub outputs : AreSetUp setup.outputs
  pub unmoved : NoneWasMoved setup.outputs
  pub fine : ArePartitions partitions
  pub told : Each (CanBeTold setup) partitions
  pub plain : Each IsPlainPartition partitions
  pub cuts : count_lines (lines_of_player partitions) ≤ setup.limits.max_cut
  pub events : count_lines (lines_of_player partitions) < 9223372036854775806

-- settings with two outputs
pub record HaveTwoOutputs (settings : Settings) : Type 0 where
  pub within : AreWithin settings
  pub own_names : HaveOwnNames settings.outputs.items
  pub named : map (λ (o : OutputSettings). string_bytes o.name) settings.outputs.items
      ≡ codes "kitchen" ∷ codes "study" ∷ []

-- the partition `default`, with a song in its queue and the first output, and another one with the second output
pub record AreTwoPartitions (partitions : List KeptPartition) : Type 0 where
  pub named : map (λ (p : KeptPartition). p.name) partitions ≡ codes "default" ∷ codes "guests" ∷ []
  pub outputs : map (λ (p : KeptPartition). p.outputs.items) partitions
      ≡ (codes "kitchen" ∷ []) ∷ (codes "study" ∷ []) ∷ []
  pub songs : map (λ (p : KeptPartition). songs_of (state_steps p.kept)) partitions ≡ 1 ∷ 0 ∷ []

-- There are such settings and such partitions of which all holds that the laws assume.
abbrev pub AssumptionsAreMet : Type 0
AssumptionsAreMet =
    (settings : Settings) × (partitions : List KeptPartition) × HaveTwoOutputs settings × AreTwoPartitions partitions
    × AreAssumed (setup_for settings) partitions
