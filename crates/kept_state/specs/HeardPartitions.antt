-- What was heard of a player's partitions so far, and what a line changes in it.
use Rattle.std.specs.Prelude.{◌≡◌, ℕ, Bool, true, false, List, [], ◌∷◌, ◌++◌, codes, map, Option, None, Some}
use Rattle.std.specs.Option.{option_to_list}
use Rattle.std.specs.Global.{Vec}
use Rattle.kept_state.specs.Heard.{HasHeard, Hears, Keeps, text_after}
use Rattle.kept_state.specs.Partitions.{Pairwise, begins_partition, listed, name_told, of_each, same_texts, values}
use Rattle.kept_state.specs.Told.{behind}
use Rattle.kept_state.specs.declared.partitions.HeardPartition.{HeardPartition}
use Rattle.kept_state.specs.declared.partitions.HeardPlayer.{HeardPlayer}
use Rattle.kept_state.specs.declared.partitions.KeptPartition.{KeptPartition}

-- these lines were heard of a partition
pub record HasHeardOf (lines : List (List ℕ)) (heard : HeardPartition) : Type 0 where
  pub name : heard.name ≡ name_told lines
  pub outputs : heard.outputs.items ≡ values (codes "outputname: ") lines
  pub state : HasHeard lines heard.state

-- these lines were heard
pub record HasHeardAll (lines : List (List ℕ)) (heard : HeardPlayer) : Type 0 where
  pub listed : heard.listed.items ≡ listed lines
  pub partitions : Pairwise HasHeardOf (of_each lines) heard.partitions.items

-- texts, where a line may tell one more
abbrev pub texts_after : List ℕ → List ℕ → List (List ℕ) → List (List ℕ)
texts_after key line texts = texts ++ option_to_list (behind key line)

-- a line was heard of a partition
pub record HearsOf (line : List ℕ) (old new : HeardPartition) : Type 0 where
  pub name : new.name ≡ text_after (codes "partition: ") line old.name
  pub outputs : new.outputs.items ≡ texts_after (codes "outputname: ") line old.outputs.items
  pub state : Hears line old.state new.state

abbrev pub BeginsIf : Bool → List HeardPartition → List HeardPartition → Type 0
BeginsIf false old new = new ≡ old
BeginsIf true old new = (fresh : HeardPartition) × HasHeardOf [] fresh × (new ≡ old ++ fresh ∷ [])

-- a partition begins, where the line is the first of one
abbrev pub Begins : List ℕ → List HeardPartition → List HeardPartition → Type 0
Begins line old new = BeginsIf (begins_partition line) old new

-- a line was heard of the last partition, where there is one, and it is said whether there is
abbrev pub HearsLast : List ℕ → List HeardPartition → List HeardPartition → Bool → Type 0
HearsLast line old new false = (old ≡ []) × (new ≡ [])
HearsLast line old new true =
    (others : List HeardPartition) × (before after : HeardPartition) × (old ≡ others ++ before ∷ [])
    × (new ≡ others ++ after ∷ []) × HearsOf line before after

-- before the first partition a line may list one
abbrev pub listed_after : Bool → List ℕ → List (List ℕ) → List (List ℕ)
listed_after true line names = names
listed_after false line names = texts_after (codes "partition: ") line names

-- a line was heard
pub record HearsAll (line : List ℕ) (old new : HeardPlayer) : Type 0 where
  pub begun : List HeardPartition
  pub is_heard : Bool
  pub begins : Begins line old.partitions.items begun
  pub hears : HearsLast line begun new.partitions.items is_heard
  pub lists : new.listed.items ≡ listed_after is_heard line old.listed.items

-- what is kept of a partition by all that was heard of it
pub record KeepsOf (heard : HeardPartition) (partition : KeptPartition) : Type 0 where
  pub name : partition.name ≡ heard.name
  pub outputs : partition.outputs.items ≡ heard.outputs.items
  pub state : Keeps heard.state partition.kept

abbrev pub KeepsAllIf : Bool → HeardPlayer → Option (Vec KeptPartition) → Type 0
KeepsAllIf false heard partitions = partitions ≡ None
KeepsAllIf true heard partitions = (all : Vec KeptPartition) × (partitions ≡ Some all) × Pairwise KeepsOf heard.partitions.items all.items

-- what is kept by all that was heard
abbrev pub KeepsAll : HeardPlayer → Option (Vec KeptPartition) → Type 0
KeepsAll heard partitions =
    KeepsAllIf (same_texts heard.listed.items (map (λ (p : HeardPartition). p.name) heard.partitions.items)) heard partitions
