-- What is told of an output names how often it was moved: its own turns, and the frames that are fed to it.
use Rattle.std.specs.Prelude.{◌≡◌, ℕ, Bool, true, false, List, [], ◌∷◌, Option, Some, None, slice_index_or}
use Rattle.player_core.specs.declared.state.Live.{Live}
use Rattle.player_state.specs.Outputs.{OutputsData, is_output}
use Rattle.player_state.specs.declared.report.Feed.{Feed}
use Rattle.player_state.specs.declared.report.Report.TheVariants.{ToFeed, ToPlay}
use Rattle.player_state.specs.declared.state.Library.{Library}
use Rattle.player_state.specs.declared.state.Part.{Part}
use Rattle.player_events.specs.declared.event.Event.{Event}
use Rattle.player_events.specs.declared.event.Event.TheVariants.{Have, OutputTurn}
use Rattle.partition.specs.Image.{Image, opening}
use Rattle.partition.specs.Step.{next_image, told}
use Rattle.partition.specs.declared.state.Setup.{Setup}
use Rattle.partition_laws.specs.Moves.{HasEight, IsDisjoint, IsAt, Spot}

-- the frames of a partition's last job are for outputs that are in it
abbrev pub AsksHere : OutputsData → Type 0
AsksHere outputs = (output : ℕ) → slice_index_or outputs.asked output false ≡ true → is_output outputs output ≡ true

abbrev pub AllAskHere : List Part → Type 0
AllAskHere [] = Unit {0}
AllAskHere (p ∷ ps) = AsksHere p.outputs × AllAskHere ps

-- what is true of each daemon from its opening on
pub record HasOutputs (i : Image) : Type 0 where
  pub disjoint : IsDisjoint i
  pub asked : AllAskHere i.parts

abbrev pub OpensWithOutputs : Type 0
OpensWithOutputs =
    (setup : Setup) (library : Library) → HasEight setup.outputs → AsksHere setup.outputs
    → HasOutputs (opening setup library)

abbrev pub KeepsOutputs : Type 0
KeepsOutputs = (seat : ℕ) (i : Image) (event : Event) → HasOutputs i → HasOutputs (next_image seat i event)

-- a turn of an output is told how often it was moved
abbrev pub IsTold : Image → Event → ℕ → Type 0
IsTold i event moves = (live : Live) × ((told i event).report ≡ ToPlay (record { moves = moves; live = live }))

-- before the end each turn of an output is told so
abbrev pub TurnsTellMoves : Type 0
TurnsTellMoves = (i : Image) (output written discarded : ℕ) (failed : Bool) (s : Spot) → IsDisjoint i → IsAt output i s
    → i.shared.ended ≡ false → IsTold i (OutputTurn output written discarded failed) s.moves

abbrev pub is_fed_at : Feed → ℕ → Option ℕ
is_fed_at feed output = slice_index_or feed.outputs output None

-- frames of a partition are fed to outputs that are in it, each with how often it was moved
abbrev pub FeedsNameMoves : Type 0
FeedsNameMoves = (i : Image) (index number frames : ℕ) (feed : Feed) → HasOutputs i
    → (told i (Have index number frames)).report ≡ ToFeed (Some feed)
    → (output moves : ℕ) → is_fed_at feed output ≡ Some moves → IsAt output i (record { index = index; moves = moves })
