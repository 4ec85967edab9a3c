-- What becomes of a player with partitions that reads the lines of its state (MPD protocol reference, Partition commands).
use Rattle.std.specs.Prelude.{◌≡◌, ℕ, Bool, true, false, List, [], ◌∷◌, ◌++◌, codes, map, if◌then◌else◌}
use Rattle.std.specs.List.{flat_map, list_any}
use Rattle.std.specs.Str.{bytes_eq}
use Rattle.mpd_text.specs.Lines.Quoted.{quoted_text}
use Rattle.kept_state.specs.Lines.{Line, state_steps}
use Rattle.kept_state.specs.Players.{bring_text, is_default, player_text}
use Rattle.kept_state.specs.Reading.{Player, given_back, opened, read_step}
use Rattle.kept_state.specs.Texts.{line, text_of_step}
use Rattle.kept_state.specs.declared.kept.KeptOptions.{KeptOptions}
use Rattle.kept_state.specs.declared.partitions.KeptPartition.{KeptPartition}

-- ---- the lines

pub data PlayerStep : Type 0 where
  -- `newpartition`
  Open : List ℕ → PlayerStep
  -- `partition`: the client goes there
  Go : List ℕ → PlayerStep
  -- `moveoutput`: the output comes to the client's partition
  Bring : List ℕ → PlayerStep
  -- lines that the client's partition is told together
  Own : List Line → PlayerStep

abbrev pub own_steps : KeptPartition → List PlayerStep
own_steps partition = map Own (state_steps partition.kept)

-- another partition than `default`: it is opened, its outputs come there, and it is told its state
abbrev pub partition_steps : KeptPartition → List PlayerStep
partition_steps partition = Open partition.name ∷ Go partition.name ∷ (map Bring partition.outputs.items ++ own_steps partition)

abbrev pub default_steps : KeptPartition → List PlayerStep
default_steps partition = if is_default partition then own_steps partition else []

abbrev pub other_steps : KeptPartition → List PlayerStep
other_steps partition = if is_default partition then [] else partition_steps partition

-- the partition `default`, and then each other one
abbrev pub player_steps : List KeptPartition → List PlayerStep
player_steps partitions = flat_map default_steps partitions ++ flat_map other_steps partitions

-- the bytes of a step
abbrev pub text_of_player_step : PlayerStep → List ℕ
text_of_player_step (Open name) = line (codes "newpartition") (quoted_text name)
text_of_player_step (Go name) = line (codes "partition") (quoted_text name)
text_of_player_step (Bring name) = bring_text name
text_of_player_step (Own step) = text_of_step step

-- ---- a player that reads them

-- a partition
pub record Named : Type 0 where
  pub name : List ℕ
  pub player : Player

-- what a player with partitions has: these, in which the client is, and which outputs came into which of them, in that order
pub record Players : Type 0 where
  pub all : List Named
  pub here : List ℕ
  pub brought : List (List ℕ × List ℕ)

-- whether a name is one of these
abbrev pub is_named : List ℕ → List (List ℕ) → Bool
is_named name names = list_any (λ other. bytes_eq name other) names

abbrev pub names : List Named → List (List ℕ)
names all = map (λ (p : Named). p.name) all

-- a partition whose player is changed, if it is the one of this name
abbrev pub changed : List ℕ → (Player → Player) → Named → Named
changed name change p = record p { player = if bytes_eq name p.name then change p.player else p.player }

abbrev pub with_partition : List ℕ → KeptOptions → Players → Players
with_partition name options players =
    record players { all = players.all ++ record { name = name; player = opened options } ∷ [] }

-- a player after a step; a name that is taken is not opened again, and no client goes where no partition is
abbrev pub read_player : (List ℕ → Bool) → KeptOptions → Players → PlayerStep → Players
read_player has options players (Open name) =
    if is_named name (names players.all) then players else with_partition name options players
read_player has options players (Go name) =
    if is_named name (names players.all) then record players { here = name } else players
read_player has options players (Bring output) = record players { brought = players.brought ++ (output, players.here) ∷ [] }
read_player has options players (Own step) =
    record players { all = map (changed players.here (read_step has step)) players.all }

abbrev pub read_players : (List ℕ → Bool) → KeptOptions → List PlayerStep → Players → Players
read_players has options [] players = players
read_players has options (step ∷ steps) players = read_players has options steps (read_player has options players step)

-- a player that was just opened has the partition `default` alone
abbrev pub begun : KeptOptions → Players
begun options = record {
  all = record { name = codes "default"; player = opened options } ∷ [];
  here = codes "default";
  brought = [];
}

-- ---- what comes back

-- each is another one than those before it
abbrev pub AreNew : List (List ℕ) → List KeptPartition → Type 0
AreNew before [] = Unit {0}
AreNew before (p ∷ more) = (is_named p.name before ≡ false) × AreNew (before ++ p.name ∷ []) more

-- a partition that has all that is kept of it, of the songs that there are
abbrev pub back : (List ℕ → Bool) → KeptPartition → Named
back has partition = record { name = partition.name; player = given_back has partition.kept }

-- the outputs of a partition, each with its name
abbrev pub standing : KeptPartition → List (List ℕ × List ℕ)
standing partition = map (λ output. (output, partition.name)) partition.outputs.items

-- The text of a player is that of its steps. One that was just opened and reads them has the partition `default` and each
-- other one, and in these what is kept of them; where some songs are not there, all but these, and nothing else is lost
-- with them. Each output came to the partition in which it stood, and to no other.
pub record PartitionsGiveBack : Type 0 where
  pub text : (partitions : List KeptPartition) → player_text partitions ≡ flat_map text_of_player_step (player_steps partitions)
  pub partitions : (has : List ℕ → Bool) (options : KeptOptions) (before after : List KeptPartition) (first : KeptPartition)
      → is_default first ≡ true → AreNew (codes "default" ∷ []) (before ++ after)
      → (read_players has options (player_steps (before ++ first ∷ after)) (begun options)).all
      ≡ record { name = codes "default"; player = given_back has first.kept } ∷ map (back has) (before ++ after)
  pub outputs : (has : List ℕ → Bool) (options : KeptOptions) (before after : List KeptPartition) (first : KeptPartition)
      → is_default first ≡ true → AreNew (codes "default" ∷ []) (before ++ after)
      → (read_players has options (player_steps (before ++ first ∷ after)) (begun options)).brought
      ≡ flat_map standing (before ++ after)
