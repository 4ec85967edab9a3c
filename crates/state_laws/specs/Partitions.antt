-- A player with all its partitions that is told the lines of a state (MPD protocol reference, Partition commands; which
-- lines there are, and their order, is this profile's).
use Rattle.std.specs.Prelude.{ℕ, ◌≡◌, ◌<◌, ◌≤◌, true, false, not, nat_lt, List, [], ◌∷◌, ◌++◌, length, map, filter, find, Some, codes, slice_index_or, if◌then◌else◌}
use Rattle.std.specs.List.{enumerate_from, position}
use Rattle.std.specs.Str.{bytes_eq}
use Rattle.kept_state.specs.Lines.{state_steps}
use Rattle.kept_state.specs.Partitions.{Pairwise}
use Rattle.kept_state.specs.PlayerReading.{AreNew, PlayerStep, is_named, player_steps}
use Rattle.kept_state.specs.PlayerReading.{PlayerStep as step}
use Rattle.kept_state.specs.Players.{is_default}
use Rattle.kept_state.specs.Reading.{given_back}
use Rattle.kept_state.specs.declared.kept.Kept.{Kept}
use Rattle.kept_state.specs.declared.kept.KeptOutput.{KeptOutput}
use Rattle.kept_state.specs.declared.partitions.KeptPartition.{KeptPartition}
use Rattle.mpd_command.specs.Names.{fewest}
use Rattle.mpd_command.specs.Requests.{request_of}
use Rattle.mpd_text.specs.Lines.Quoted.{quoted_text}
use Rattle.partition.specs.Image.{Image}
use Rattle.partition.specs.Step.{next_image}
use Rattle.partition.specs.declared.state.Setup.{Setup}
use Rattle.partition_commands.specs.Partitions.{is_partition_name}
use Rattle.player_state.specs.Outputs.{OutputsData, has_failed, is_enabled, is_output}
use Rattle.player_state.specs.declared.state.Library.{Library}
use Rattle.player_state.specs.declared.state.Part.{Part}
use Rattle.song_queue.specs.State.{queue_of}
use Rattle.state_laws.specs.Bytes.{bytes_of}
use Rattle.state_laws.specs.Having.{Has}
use Rattle.state_laws.specs.Own.{CanComeBack, IsBack, IsKeptOf}
use Rattle.state_laws.specs.Saying.{EachAsks, HasRoom, LeadsTo, asking, begun, is_refused, is_song, songs_of}

-- it holds of each item
abbrev pub Each : {A : Type 0} → (A → Type 0) → List A → Type 0
Each P [] = Unit {0}
Each P (x ∷ xs) = P x × Each P xs

-- ---- the lines, by their bytes

-- the lines of a step, each without the line feed behind it
abbrev pub bytes_of_step : PlayerStep → List (List ℕ)
bytes_of_step (step.Open name) = (codes "newpartition " ++ quoted_text name) ∷ []
bytes_of_step (step.Go name) = (codes "partition " ++ quoted_text name) ∷ []
bytes_of_step (step.Bring name) = (codes "moveoutput " ++ quoted_text name) ∷ []
bytes_of_step (step.Own lines) = map bytes_of lines

-- a daemon to which a client says lines that are told together: the first that is refused ends them
abbrev pub after_lines : ℕ → ℕ → List (List ℕ) → Image → Image
after_lines seat number [] i = i
after_lines seat number (line ∷ more) i =
    let event = asking number (request_of line fewest) in
    if is_refused i event then next_image seat i event else after_lines seat number more (next_image seat i event)

abbrev pub after_all : ℕ → ℕ → List (List (List ℕ)) → Image → Image
after_all seat number [] i = i
after_all seat number (lines ∷ more) i = after_all seat number more (after_lines seat number lines i)

-- the lines of all partitions
abbrev pub lines_of_player : List KeptPartition → List (List (List ℕ))
lines_of_player partitions = map bytes_of_step (player_steps partitions)

-- a player that was just opened, and is told them by its first client
abbrev pub restored : ℕ → ℕ → Setup → Library → List KeptPartition → Image
restored seat number setup library partitions = after_all seat number (lines_of_player partitions) (begun seat number setup library)

-- ---- what there may be

abbrev pub name_of : OutputsData → ℕ → List ℕ
name_of outputs number = slice_index_or outputs.names number []

-- The outputs of the settings: at most eight, each of another name, so that each is found by its own. All of them are in
-- the first partition, and none has failed.
pub record AreSetUp (outputs : OutputsData) : Type 0 where
  pub few : length outputs.names ≤ 8
  pub found : (number : ℕ) → number < length outputs.names
      → position (λ name. bytes_eq name (name_of outputs number)) outputs.names ≡ Some number
  pub first : (number : ℕ) → is_output outputs number ≡ nat_lt number (length outputs.names)
  pub sound : (number : ℕ) → has_failed outputs number ≡ false
  pub here : length outputs.here ≡ 8
  pub enabled : length outputs.enabled ≡ 8

-- Partitions of one player: at most 16, each of another name, of which one is `default`.
pub record ArePartitions (partitions : List KeptPartition) : Type 0 where
  pub few : length partitions ≤ 16
  pub named : Each (λ (p : KeptPartition). is_partition_name p.name ≡ true) partitions
  pub apart : AreNew [] partitions
  pub first : KeptPartition
  pub default : filter is_default partitions ≡ first ∷ []

abbrev pub others : List KeptPartition → List KeptPartition
others partitions = filter (λ (p : KeptPartition). not (is_default p)) partitions

-- each line of its state asks for a command, and there is room for its songs
abbrev pub CanBeTold : Setup → KeptPartition → Type 0
CanBeTold setup partition = EachAsks (state_steps partition.kept) × HasRoom setup (songs_of (state_steps partition.kept))

-- ---- what comes back of what is kept

-- the partition in which an output stands that stood in the first one: the last of the others that names it
abbrev pub home : List ℕ → List ℕ → List KeptPartition → List ℕ
home output at [] = at
home output at (p ∷ more) = home output (if is_named output p.outputs.items then p.name else at) more

-- A partition has what is kept of it, of the songs that there are. Of the outputs just those stand in it whose home it is;
-- none of them has failed, so that it is on or off as is kept.
pub record HasPartition (library : Library) (outputs : OutputsData) (all : List KeptPartition) (part : Part) (partition : KeptPartition) : Type 0 where
  pub has : Has library.rate part (given_back (is_song library) partition.kept)
  pub stands : (number : ℕ) → number < length outputs.names
      → is_output part.outputs number ≡ bytes_eq (home (name_of outputs number) (codes "default") (others all)) partition.name
  pub no_more : (number : ℕ) → length outputs.names ≤ number → is_output part.outputs number ≡ false
  pub sound : (number : ℕ) → has_failed part.outputs number ≡ false

-- the partition of a name is this one
abbrev pub IsFound : List ℕ → Image → Part → Type 0
IsFound name i part = find (λ (p : Part). bytes_eq p.name name) i.parts ≡ Some part

abbrev pub IsThereWhole : Library → OutputsData → List KeptPartition → Image → KeptPartition → Type 0
IsThereWhole library outputs all i p = (part : Part) × IsFound p.name i part × HasPartition library outputs all part p

-- each partition is there under its name, and there is no other
pub record HasPartitions (library : Library) (outputs : OutputsData) (partitions : List KeptPartition) (i : Image) : Type 0 where
  pub each : Each (IsThereWhole library outputs partitions i) partitions
  pub alone : length i.parts ≡ length partitions

-- A player that was just opened, and is told the lines of all partitions, has each of them, and no other.
abbrev pub PartitionsComeBack : Type 0
PartitionsComeBack =
    (seat number : ℕ) (setup : Setup) (library : Library) (partitions : List KeptPartition) → AreSetUp setup.outputs
    → ArePartitions partitions → Each (CanBeTold setup) partitions
    → HasPartitions library setup.outputs partitions (restored seat number setup library partitions)

-- ---- what comes back of what a player told of itself

-- the outputs that stand in a partition, each with its number and its name
abbrev pub outputs_here : OutputsData → List (ℕ × List ℕ)
outputs_here outputs = filter (λ (row : ℕ × List ℕ). is_output outputs row.0) (enumerate_from 0 outputs.names)

abbrev pub kept_output : OutputsData → ℕ × List ℕ → KeptOutput
kept_output outputs row = record { number = row.0; is_on = is_enabled outputs row.0 }

-- What is kept of a partition is what it tells of itself: its name, the outputs that stand in it, each on or off as it is,
-- and the rest of its state.
pub record IsPartitionOf (rate : ℕ) (part : Part) (partition : KeptPartition) : Type 0 where
  pub name : partition.name ≡ part.name
  pub outputs : partition.outputs.items ≡ map (λ (row : ℕ × List ℕ). row.1) (outputs_here part.outputs)
  pub switched : partition.kept.outputs.items ≡ map (kept_output part.outputs) (outputs_here part.outputs)
  pub kept : IsKeptOf rate part partition.kept

abbrev pub HasNoMore : OutputsData → Part → Type 0
HasNoMore outputs p = (number : ℕ) → length outputs.names ≤ number → is_output p.outputs number ≡ false

-- The partitions of a player with the same outputs, each of which stands in just one of them.
pub record ShareOutputs (outputs : OutputsData) (parts : List Part) : Type 0 where
  pub names : Each (λ (p : Part). p.outputs.names ≡ outputs.names) parts
  pub one : (number : ℕ) → number < length outputs.names
      → (part : Part) × (filter (λ (p : Part). is_output p.outputs number) parts ≡ part ∷ [])
  pub no_more : Each (HasNoMore outputs) parts

-- A partition is as another one was: its queue, modes, volume, current song and the offset in it, and just those outputs
-- stand in it that stood in the other one, each on or off as it was.
pub record IsPartitionBack (rate : ℕ) (part other : Part) (kept : Kept) : Type 0 where
  pub back : IsBack rate part other kept
  pub stands : (number : ℕ) → is_output other.outputs number ≡ is_output part.outputs number
  pub switched : (number : ℕ) → is_output part.outputs number ≡ true
      → is_enabled other.outputs number ≡ is_enabled part.outputs number

abbrev pub IsBackIn : ℕ → Image → Part → KeptPartition → Type 0
IsBackIn rate i part partition = (other : Part) × IsFound part.name i other × IsPartitionBack rate part other partition.kept

-- each partition is back under its name, and there is no other
pub record AreBack (rate : ℕ) (parts : List Part) (partitions : List KeptPartition) (i : Image) : Type 0 where
  pub each : Pairwise (IsBackIn rate i) parts partitions
  pub alone : length i.parts ≡ length parts

-- all partitions of a player as each is, told in some order, and what is kept of them; its songs find room
pub record AreKeptOf (setup : Setup) (library : Library) (parts : List Part) (partitions : List KeptPartition) : Type 0 where
  pub outputs : AreSetUp setup.outputs
  pub fine : ArePartitions partitions
  pub share : ShareOutputs setup.outputs parts
  pub can : Each (CanComeBack library) parts
  pub room : Each (λ (p : Part). HasRoom setup (length (queue_of p.queue))) parts
  pub kept : Pairwise (IsPartitionOf library.rate) parts partitions

-- A player that was just opened, and is told the lines of all partitions of another one, has each of them as it was, and no
-- other.
abbrev pub AllPlayersComeBack : Type 0
AllPlayersComeBack =
    (seat number : ℕ) (setup : Setup) (library : Library) (parts : List Part) (partitions : List KeptPartition)
    → AreKeptOf setup library parts partitions
    → AreBack library.rate parts partitions (restored seat number setup library partitions)

-- the lines of all partitions are events of a history
abbrev pub AllLinesHappen : Type 0
AllLinesHappen = (seat number : ℕ) (steps : List (List (List ℕ))) (i : Image) → LeadsTo i (after_all seat number steps i)
