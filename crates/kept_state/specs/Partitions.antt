-- What a player told of all its partitions, by its answers to `listpartitions`, and then in each partition to `status`,
-- `outputs` and `playlistinfo` (MPD protocol reference, Partition commands; that a client asks so is this profile's).
use Rattle.std.specs.Prelude.{◌≡◌, ℕ, Bool, true, false, ◌&&◌, List, [], ◌∷◌, Option, Some, None, codes, is_some, map, if◌then◌else◌}
use Rattle.std.specs.List.{filter_map, list_any}
use Rattle.std.specs.Str.{bytes_eq}
use Rattle.std.specs.Global.{Vec}
use Rattle.kept_state.specs.Outputs.{plays, turned_on}
use Rattle.kept_state.specs.Told.{IsTold, behind, told_or}
use Rattle.kept_state.specs.declared.partitions.KeptPartition.{KeptPartition}

-- ---- lists of the same length

-- the first items of two lists belong together, and the second ones, and so on to the ends of both
abbrev pub Pairwise : {A B : Type 0} → (A → B → Type 0) → List A → List B → Type 0
Pairwise R [] [] = Unit {0}
Pairwise R [] (y ∷ ys) = ⊥
Pairwise R (x ∷ xs) [] = ⊥
Pairwise R (x ∷ xs) (y ∷ ys) = R x y × Pairwise R xs ys

-- ---- the lines of each partition

-- the items before the first that begins a section
abbrev pub up_to : {A : Type 0} → (A → Bool) → List A → List A
up_to begins [] = []
up_to begins (x ∷ xs) = if begins x then [] else x ∷ up_to begins xs

-- the sections of a list, each with the item that begins it
abbrev pub sections : {A : Type 0} → (A → Bool) → List A → List (List A)
sections begins [] = []
sections begins (x ∷ xs) =
    if begins x then (x ∷ up_to begins xs) ∷ sections begins xs else sections begins xs

-- the volume is the first that a partition tells of itself
abbrev pub begins_partition : List ℕ → Bool
begins_partition line = is_some (behind (codes "volume: ") line)

-- all values of a key
abbrev pub values : List ℕ → List (List ℕ) → List (List ℕ)
values key lines = filter_map (behind key) lines

-- the names of the partitions that there are, which are told before those tell of themselves
abbrev pub listed : List (List ℕ) → List (List ℕ)
listed lines = values (codes "partition: ") (up_to begins_partition lines)

-- the lines of each partition that told of itself
abbrev pub of_each : List (List ℕ) → List (List (List ℕ))
of_each lines = sections begins_partition lines

abbrev pub name_told : List (List ℕ) → List ℕ
name_told lines = told_or (codes "partition: ") [] lines

-- ---- what is kept of each

-- What is kept of a partition is what it told of itself: its own name, its own outputs, and its state.
pub record IsPartitionTold (lines : List (List ℕ)) (partition : KeptPartition) : Type 0 where
  pub name : partition.name ≡ name_told lines
  pub outputs : partition.outputs.items ≡ values (codes "outputname: ") lines
  pub kept : IsTold lines partition.kept

abbrev pub same_texts : List (List ℕ) → List (List ℕ) → Bool
same_texts [] [] = true
same_texts [] (b ∷ bs) = false
same_texts (a ∷ more) [] = false
same_texts (a ∷ more) (b ∷ bs) = bytes_eq a b && same_texts more bs

-- whether just the partitions that there are told of themselves, in that order
abbrev pub told_of_all : List (List ℕ) → Bool
told_of_all lines = same_texts (listed lines) (map name_told (of_each lines))

abbrev pub IsPlayerToldIf : Bool → List (List ℕ) → Option (Vec KeptPartition) → Type 0
IsPlayerToldIf false lines partitions = partitions ≡ None
IsPlayerToldIf true lines partitions = (all : Vec KeptPartition) × (partitions ≡ Some all) × Pairwise IsPartitionTold (of_each lines) all.items

-- Each partition that there is is kept as it told of itself; nothing is, where one of them did not tell.
abbrev pub IsPlayerTold : List (List ℕ) → Option (Vec KeptPartition) → Type 0
IsPlayerTold lines partitions = IsPlayerToldIf (told_of_all lines) lines partitions

-- ---- of what is kept

-- the same is kept of a partition, with outputs on that are named by their numbers
pub record IsTurnedOn (named : List Bool) (old new : KeptPartition) : Type 0 where
  pub outputs : new.kept.outputs.items ≡ map (turned_on named) old.kept.outputs.items
  pub state : new.kept ≡ record old.kept { outputs = new.kept.outputs }
  pub others : new ≡ record old { kept = new.kept }

-- whether a song is played in a partition
abbrev pub plays_in_one : List KeptPartition → Bool
plays_in_one partitions = list_any (λ (p : KeptPartition). plays p.kept.song) partitions
