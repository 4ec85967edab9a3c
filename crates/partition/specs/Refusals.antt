-- Why an event may be refused.
use Rattle.std.specs.Prelude.{◌≡◌, ◌⊎◌, ℕ, true, false, List, Option, Some, None}
use Rattle.partition.specs.declared.partition.PartitionFault.{PartitionFault}
use Rattle.partition.specs.declared.partition.PartitionFault.TheVariants.{HistoryFull, CutsAtLimit, AtLimit, NoMemory}
use Rattle.player_state.specs.declared.state.Library.{Library}
use Rattle.player_state.specs.declared.state.Part.{Part}
use Rattle.partition.specs.Image.{Image}
use Rattle.player_events.specs.declared.event.Event.{Event}
use Rattle.transitions.specs.Transitions.{TransitionData}
use Rattle.player_state.specs.Outputs.{FrameBooks, can_count_all}
use Rattle.partition.specs.Step.{books_by, counts_frames, keeps_limits}

-- a transition is refused where it passes a limit, or for lack of memory; that of a fold comes before any
-- transition
abbrev pub RefusesTransition : Image → Event → TransitionData → PartitionFault → Type 0
RefusesTransition i event t AtLimit = counts_frames i event t ≡ false
RefusesTransition i event t CutsAtLimit = (counts_frames i event t ≡ true) × (keeps_limits i event t ≡ false)
RefusesTransition i event t NoMemory = Unit {0}
RefusesTransition i event t HistoryFull = ⊥

-- what an event needs is refused where its frames could not be counted any more, or for lack of memory
abbrev pub RefusesFrames : FrameBooks → ℕ → List Part → Library → TransitionData → PartitionFault → Type 0
RefusesFrames books index parts library t AtLimit = can_count_all (books_by books index parts library t) ≡ false
RefusesFrames books index parts library t CutsAtLimit = ⊥
RefusesFrames books index parts library t NoMemory = Unit {0}
RefusesFrames books index parts library t HistoryFull = ⊥

-- why an event may be refused: for the limit that it would pass, or for lack of memory, which may come first
abbrev pub MayRefuse : Option PartitionFault → PartitionFault → Type 0
MayRefuse None fault = fault ≡ NoMemory
MayRefuse (Some limit) fault = (fault ≡ limit) ⊎ (fault ≡ NoMemory)
