-- The text of a player with all its partitions.
use Rattle.std.specs.Prelude.{ℕ, Bool, List, [], ◌++◌, codes, if◌then◌else◌}
use Rattle.std.specs.List.{flat_map}
use Rattle.std.specs.Str.{bytes_eq}
use Rattle.mpd_text.specs.Lines.Quoted.{quoted_text}
use Rattle.kept_state.specs.Texts.{line, state_text}
use Rattle.kept_state.specs.declared.partitions.KeptPartition.{KeptPartition}

-- the partition that is always there, in which a client begins, and all outputs
abbrev pub is_default : KeptPartition → Bool
is_default partition = bytes_eq partition.name (codes "default")

-- an output comes to the partition in which the client is
abbrev pub bring_text : List ℕ → List ℕ
bring_text name = line (codes "moveoutput") (quoted_text name)

-- a partition is made, and the client goes there
abbrev pub open_text : List ℕ → List ℕ
open_text name = line (codes "newpartition") (quoted_text name) ++ line (codes "partition") (quoted_text name)

-- A partition is made, its outputs come to it, and then its state is said: an output is switched where it stands.
abbrev pub partition_text : KeptPartition → List ℕ
partition_text partition =
    open_text partition.name ++ (flat_map bring_text partition.outputs.items ++ state_text partition.kept)

-- the state of the partition `default`; another one says nothing here
abbrev pub default_text : KeptPartition → List ℕ
default_text partition = if is_default partition then state_text partition.kept else []

-- another partition; `default` says nothing here
abbrev pub other_text : KeptPartition → List ℕ
other_text partition = if is_default partition then [] else partition_text partition

-- the state of the partition `default`, and then each other partition
abbrev pub player_text : List KeptPartition → List ℕ
player_text partitions = flat_map default_text partitions ++ flat_map other_text partitions
