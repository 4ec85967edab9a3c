-- The limits of a daemon's numbers, while it is told the lines of a state (which numbers have limits is this
-- profile's).
use Rattle.std.specs.Prelude.{ℕ, ◌≡◌, ◌≤◌, ◌<◌, ◌+◌, true, List, [], ◌∷◌, length, slice_index_or, Some}
use Rattle.kept_state.specs.Lines.{Line, state_steps}
use Rattle.kept_state.specs.declared.kept.Kept.{Kept}
use Rattle.kept_state.specs.declared.partitions.KeptPartition.{KeptPartition}
use Rattle.partition.specs.History.{AreTold, replay}
use Rattle.partition.specs.Image.{Image}
use Rattle.partition.specs.Lists.{AllWithin}
use Rattle.partition.specs.declared.state.Setup.{Setup}
use Rattle.connected_clients.specs.Clients.{client_of}
use Rattle.partition_table.specs.Parts.{part_at}
use Rattle.player_core.specs.Player.{PlayerState}
use Rattle.player_events.specs.declared.event.LogEntry.{LogEntry}
use Rattle.player_state.specs.Outputs.{can_count_all}
use Rattle.player_state.specs.declared.state.Client.{Client}
use Rattle.player_state.specs.declared.state.Library.{Library}
use Rattle.player_state.specs.declared.state.Part.{Part}
use Rattle.state_laws.specs.Bytes.{read_bytes}
use Rattle.state_laws.specs.Partitions.{ArePartitions, AreSetUp, CanBeTold, Each, lines_of_player, restored}
use Rattle.state_laws.specs.Saying.{EachAsks, HasRoom, after_steps, begun, songs_of}

-- so many more events of a seat can be counted, and as many cuts and starts of a player
pub record HasLeft (seat events : ℕ) (i : Image) (player : PlayerState) : Type 0 where
  pub made : slice_index_or i.shared.made seat 0 + events < 9223372036854775807
  pub books : can_count_all i.shared.books ≡ true
  pub cuts : player.cuts + events ≤ player.max_cut
  pub starts : player.starts + events ≤ player.max_cut
  pub jobs : player.jobs ≤ player.max_cut

-- the same of the player of a client's partition
abbrev pub IsFar : ℕ → ℕ → ℕ → Image → Type 0
IsFar seat number events i =
    (client : Client) × (part : Part) × (client_of number i.clients ≡ Some client)
    × (part_at client.index i.parts ≡ Some part) × HasLeft seat events i part.player

-- events led from a daemon to another: each was told what the player of one thread tells at its position, and none
-- passed a limit
abbrev pub LeadsWithin : Image → Image → Type 0
LeadsWithin i j = (entries : List LogEntry) × (j ≡ replay i entries) × AreTold i entries × AllWithin i entries

-- how many lines there are
abbrev pub lines_of : List (List Line) → ℕ
lines_of [] = 0
lines_of (step ∷ steps) = length step + lines_of steps

-- The lines of a state that a player is told which was just opened are events of its history, where there may be as
-- many cuts as lines.
abbrev pub OpenedStaysWithin : Type 0
OpenedStaysWithin =
    (seat number : ℕ) (setup : Setup) (library : Library) (kept : Kept) → EachAsks (state_steps kept)
    → HasRoom setup (songs_of (state_steps kept)) → lines_of (state_steps kept) ≤ setup.limits.max_cut
    → lines_of (state_steps kept) < 9223372036854775806
    → LeadsWithin (begun seat number setup library)
    (after_steps seat number read_bytes (state_steps kept) (begun seat number setup library))

-- how many lines there are, by their bytes
abbrev pub count_lines : List (List (List ℕ)) → ℕ
count_lines [] = 0
count_lines (lines ∷ more) = length lines + count_lines more

-- The lines of all partitions that a player is told which was just opened are events of its history, where there may be
-- as many cuts, and moves of each output, as lines.
abbrev pub AllStayWithin : Type 0
AllStayWithin =
    (seat number : ℕ) (setup : Setup) (library : Library) (partitions : List KeptPartition) → AreSetUp setup.outputs
    → ((output : ℕ) → slice_index_or setup.outputs.moves output 0 ≡ 0) → ArePartitions partitions
    → Each (CanBeTold setup) partitions → count_lines (lines_of_player partitions) ≤ setup.limits.max_cut
    → count_lines (lines_of_player partitions) < 9223372036854775806
    → LeadsWithin (begun seat number setup library) (restored seat number setup library partitions)
