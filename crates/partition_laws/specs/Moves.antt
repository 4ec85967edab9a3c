-- Where outputs are, over the events of a daemon: one that comes to another partition was moved once more,
-- and one that stays was not.
use Rattle.std.specs.Prelude.{◌≡◌, ◌≢◌, ◌⊎◌, ◌≤◌, ℕ, ◌+◌, true, List, [], ◌∷◌, length, Option, Some, None, option_map, slice_index_or}
use Rattle.player_state.specs.Outputs.{OutputsData, is_output}
use Rattle.player_state.specs.declared.state.Library.{Library}
use Rattle.partition_table.specs.Parts.{Known, holding, known_at}
use Rattle.player_events.specs.declared.event.Event.{Event}
use Rattle.partition.specs.Image.{Image, opening, overview}
use Rattle.partition.specs.Step.{next_image}
use Rattle.partition.specs.declared.state.Setup.{Setup}
use Rattle.partition_laws.specs.Apart.{after_events}

-- the partition that an output is in, and how often it was moved
pub record Spot : Type 0 where
  pub index : ℕ
  pub moves : ℕ

abbrev pub spot : ℕ → Known → Spot
spot output f = record { index = f.index; moves = slice_index_or f.outputs.moves output 0 }

-- where an output is, if it is anywhere
abbrev pub where_is : ℕ → Image → Option Spot
where_is output i = option_map (spot output) (holding output (overview i).parts)

abbrev pub IsAt : ℕ → Image → Spot → Type 0
IsAt output i s = where_is output i ≡ Some s

-- of eight outputs it is known whether each is in the partition, and how often it was moved
pub record HasEight (outputs : OutputsData) : Type 0 where
  pub here : length outputs.here ≡ 8
  pub moves : length outputs.moves ≡ 8

-- no output of the first partition is in one of these
abbrev pub HoldsAlone : Known → List Known → Type 0
HoldsAlone f fs = (output : ℕ) → is_output f.outputs output ≡ true → holding output fs ≡ None

-- no number is that of two partitions, and no output is in two
abbrev pub AreApart : List Known → Type 0
AreApart [] = Unit {0}
AreApart (f ∷ fs) = (known_at f.index fs ≡ None) × HasEight f.outputs × HoldsAlone f fs × AreApart fs

abbrev pub IsDisjoint : Image → Type 0
IsDisjoint i = AreApart (overview i).parts

abbrev pub OpensApart : Type 0
OpensApart = (setup : Setup) (library : Library) → HasEight setup.outputs → IsDisjoint (opening setup library)

abbrev pub StaysApart : Type 0
StaysApart = (seat : ℕ) (i : Image) (event : Event) → IsDisjoint i → IsDisjoint (next_image seat i event)

-- an output that was at a spot is in another partition, and was moved once more
pub record Moved (before after : Spot) : Type 0 where
  pub index : after.index ≢ before.index
  pub moves : after.moves ≡ before.moves + 1

abbrev pub HasMoved : ℕ → Image → Spot → Type 0
HasMoved output i before = (after : Spot) × IsAt output i after × Moved before after

-- An event leaves an output where it is, moved as often as before, or brings it to another partition. One
-- that is nowhere stays nowhere
pub record Rises (seat : ℕ) (i : Image) (event : Event) (output : ℕ) : Type 0 where
  pub nowhere : where_is output i ≡ None → where_is output (next_image seat i event) ≡ None
  pub somewhere : (before : Spot) → IsAt output i before
      → IsAt output (next_image seat i event) before ⊎ HasMoved output (next_image seat i event) before

abbrev pub MovesRise : Type 0
MovesRise = (seat : ℕ) (i : Image) (event : Event) (output : ℕ) → IsDisjoint i → Rises seat i event output

-- the moves of an output did not fall, and where they are as before, the output is where it was
abbrev pub IsLater : Spot → Spot → Type 0
IsLater before after = (before.moves ≤ after.moves) × (before.moves ≡ after.moves → before ≡ after)

-- so it is over every list of events
abbrev pub MovesTellSpots : Type 0
MovesTellSpots = (i : Image) (es : List (ℕ × Event)) (output : ℕ) (before : Spot) → IsDisjoint i → IsAt output i before
    → (after : Spot) × IsAt output (after_events i es) after × IsLater before after
