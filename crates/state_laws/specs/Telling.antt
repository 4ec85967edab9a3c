-- Lines that are told one by one to the player of one thread.
use Rattle.std.specs.Prelude.{ℕ, ◌≡◌, Bool, true, false, List, [], ◌∷◌, length, map, nat_le}
use Rattle.std.specs.List.{list_all}
use Rattle.std.specs.Str.Lines.{lines as lines_in}
use Rattle.kept_state.specs.Lines.{Line, state_steps}
use Rattle.kept_state.specs.Lines.{Line as lines}
use Rattle.kept_state.specs.PlayerReading.{PlayerStep}
use Rattle.kept_state.specs.Players.{player_text}
use Rattle.kept_state.specs.Reading.{given_back}
use Rattle.kept_state.specs.Telling.{TellsSteps, is_of_state, steps_in}
use Rattle.kept_state.specs.Texts.{state_text}
use Rattle.kept_state.specs.declared.kept.Kept.{Kept}
use Rattle.kept_state.specs.declared.partitions.KeptPartition.{KeptPartition}
use Rattle.mpd_command.specs.Names.{fewest}
use Rattle.mpd_command.specs.Requests.{request_of}
use Rattle.partition.specs.Image.{Image}
use Rattle.partition.specs.Step.{next_image}
use Rattle.partition.specs.declared.state.Setup.{Setup}
use Rattle.partition_commands.specs.Partitions.{is_partition_name}
use Rattle.player_state.specs.declared.state.Library.{Library}
use Rattle.player_state.specs.declared.state.Part.{Part}
use Rattle.song_queue.specs.State.{queue_of}
use Rattle.state_laws.specs.Bytes.{bytes_of, read_bytes}
use Rattle.state_laws.specs.Own.{CanComeBack, IsBackFor, IsKeptOf}
use Rattle.state_laws.specs.Partitions.{AreBack, AreKeptOf, ArePartitions, AreSetUp, CanBeTold, Each, HasPartitions, bytes_of_step, lines_of_player}
use Rattle.state_laws.specs.Saying.{EachAsks, HasRoom, PlayerHas, after_steps, asking, begun, is_refused, is_song, songs_of}

-- what a line of a client makes of the player, and whether it is refused
pub record PlayerHears (seat number : ℕ) (before : Image) (line : List ℕ) (refused : Bool) (after : Image) : Type 0 where
  pub refused_as : refused ≡ is_refused before (asking number (request_of line fewest))
  pub after_as : after ≡ next_image seat before (asking number (request_of line fewest))

-- Where the bytes of a state's lines are told one by one, the player is as after these lines.
abbrev pub StepsAreTold : Type 0
StepsAreTold =
    (seat number refused : ℕ) (steps : List (List Line)) (before after : Image)
    → TellsSteps (PlayerHears seat number) (map (map bytes_of) steps) before refused after
    → after ≡ after_steps seat number read_bytes steps before

-- ---- the text of a state

-- no byte is a control, and so none ends a line
abbrev pub HasNoControl : List ℕ → Type 0
HasNoControl text = list_all (λ b. nat_le 32 b) text ≡ true

-- a line has no URI, or one that a scan finds: there is no control in it
abbrev pub HasPlainUri : Line → Type 0
HasPlainUri (lines.Put uri) = HasNoControl uri
HasPlainUri _ = Unit {0}

abbrev pub HavePlainUris : List Line → Type 0
HavePlainUris [] = Unit {0}
HavePlainUris (line ∷ more) = HasPlainUri line × HavePlainUris more

abbrev pub EachHasPlainUris : List (List Line) → Type 0
EachHasPlainUris [] = Unit {0}
EachHasPlainUris (step ∷ steps) = HavePlainUris step × EachHasPlainUris steps

-- Each line of a state begins with a command of a state, so that the daemon says it.
abbrev pub LinesAreOfState : Type 0
LinesAreOfState = (line : Line) → is_of_state (bytes_of line) ≡ true

-- The text of a state that is read line by line is the state's steps, each as the bytes of its lines.
abbrev pub TextIsSteps : Type 0
TextIsSteps =
    (kept : Kept) → EachAsks (state_steps kept) → EachHasPlainUris (state_steps kept)
    → steps_in false (lines_in (state_text kept)) ≡ map (map bytes_of) (state_steps kept)

-- the text of a state is told line by line to a player that was just opened, and leads it there
abbrev pub LeadsThere : ℕ → ℕ → Setup → Library → Kept → Image → Type 0
LeadsThere seat number setup library kept after =
    (refused : ℕ)
    × TellsSteps (PlayerHears seat number) (steps_in false (lines_in (state_text kept))) (begun seat number setup library) refused
    after

-- Then the player has what is kept, of the songs that there are.
abbrev pub TextComesBack : Type 0
TextComesBack =
    (seat number : ℕ) (setup : Setup) (library : Library) (kept : Kept) (after : Image) → EachAsks (state_steps kept)
    → EachHasPlainUris (state_steps kept) → HasRoom setup (songs_of (state_steps kept))
    → LeadsThere seat number setup library kept after → PlayerHas library number 0 after (given_back (is_song library) kept)

-- Where another player told the state of itself, the player is then as that one was, except for ids and versions.
abbrev pub ToldPlayersComeBack : Type 0
ToldPlayersComeBack =
    (seat number : ℕ) (setup : Setup) (library : Library) (part : Part) (kept : Kept) (after : Image) → CanComeBack library part
    → IsKeptOf library.rate part kept → EachHasPlainUris (state_steps kept) → HasRoom setup (length (queue_of part.queue))
    → LeadsThere seat number setup library kept after → IsBackFor library.rate number part kept after

-- ---- the text of all partitions

-- there is no control in the names of its outputs, nor in the URIs of its songs
abbrev pub IsPlainPartition : KeptPartition → Type 0
IsPlainPartition partition = Each HasNoControl partition.outputs.items × EachHasPlainUris (state_steps partition.kept)

-- Each line of all partitions begins with a command of a state, so that the daemon says it.
abbrev pub PlayerLinesAreOfState : Type 0
PlayerLinesAreOfState = (step : PlayerStep) → Each (λ line. is_of_state line ≡ true) (bytes_of_step step)

-- The text of all partitions that is read line by line is their lines.
abbrev pub PlayerTextIsLines : Type 0
PlayerTextIsLines =
    (partitions : List KeptPartition) → Each (λ (p : KeptPartition). is_partition_name p.name ≡ true) partitions
    → Each (λ (p : KeptPartition). EachAsks (state_steps p.kept)) partitions → Each IsPlainPartition partitions
    → steps_in false (lines_in (player_text partitions)) ≡ lines_of_player partitions

-- the text of all partitions is told line by line to a player that was just opened, and leads it there
abbrev pub LeadsAllThere : ℕ → ℕ → Setup → Library → List KeptPartition → Image → Type 0
LeadsAllThere seat number setup library partitions after =
    (refused : ℕ)
    × TellsSteps (PlayerHears seat number) (steps_in false (lines_in (player_text partitions))) (begun seat number setup library) refused
    after

-- Then the player has each partition with what is kept of it, and no other partition.
abbrev pub PlayerTextComesBack : Type 0
PlayerTextComesBack =
    (seat number : ℕ) (setup : Setup) (library : Library) (partitions : List KeptPartition) (after : Image) → AreSetUp setup.outputs
    → ArePartitions partitions → Each (CanBeTold setup) partitions → Each IsPlainPartition partitions
    → LeadsAllThere seat number setup library partitions after → HasPartitions library setup.outputs partitions after

-- Where another player told the state of all its partitions, each of them is then as it was, and there is no other.
abbrev pub ToldPartitionsComeBack : Type 0
ToldPartitionsComeBack =
    (seat number : ℕ) (setup : Setup) (library : Library) (parts : List Part) (partitions : List KeptPartition) (after : Image)
    → AreKeptOf setup library parts partitions → Each IsPlainPartition partitions
    → LeadsAllThere seat number setup library partitions after → AreBack library.rate parts partitions after
