-- The commands that look at partitions, open and close them, and let clients and outputs go from one to another
-- (MPD protocol reference, Partition commands; what a name is, the order of refusals, and that a moved output
-- keeps its flags are this profile's). Each is a function of what all know and of who asks.
use Rattle.std.specs.Prelude.{◌≡◌, ◌⊎◌, ℕ, ◌==◌, nat_le, Bool, not, ◌&&◌, ◌||◌, List, [], ◌∷◌, length, map, position, codes, bytes_eq, Option, Some, None, is_some, if◌then◌else◌, Result, IfOk}
use Rattle.std.specs.declared.alloc.AllocError.{AllocError}
use Rattle.std.specs.List.{flat_map, list_all, list_any}
use Rattle.mpd_text.specs.Answers.Answer.{pair_line}
use Rattle.mpd_text.specs.declared.answers.answer.ErrorNumber.{ErrorNumber}
use Rattle.mpd_text.specs.declared.answers.answer.ErrorNumber.TheVariants.{Argument, Exist, NoExist, System}
use Rattle.mpd_command.specs.declared.partitions.PartitionCommand.{PartitionCommand}
use Rattle.mpd_command.specs.declared.partitions.PartitionCommand.TheVariants.{DelPartition, ListPartitions, MoveOutput, NewPartition, Partition}
use Rattle.mpd_text.specs.Texts.{ascending}
use Rattle.player_state.specs.Outputs.{OutputsData, all_elsewhere, no_outputs}
use Rattle.player_state.specs.declared.effect.Effect.TheVariants.{ByCommand}
use Rattle.player_state.specs.declared.effect.CommandEffect.TheVariants.{Leaves, Rests}
use Rattle.player_state.specs.declared.state.Client.{Client}
use Rattle.partition_table.specs.declared.crossing.Crossing.TheVariants.{Opens, Closes, Brings}
use Rattle.partition_table.specs.Openings.{OpeningsData}
use Rattle.partition_table.specs.Parts.{Known, free_index, holder, holds_any_in, known_at, named, opening_part}
use Rattle.transitions.specs.declared.asked.Asked.{Asked}
use Rattle.transitions.specs.CommandResults.{bad_name, refusal, shows}
use Rattle.transitions.specs.Transitions.{TransitionData, crosses, enters, transition_by}

-- unless there is no memory, the transition is this one
abbrev pub IsPlanned : Result TransitionData AllocError → TransitionData → Type 0
IsPlanned result t = IfOk result (λ transition. transition ≡ t)

-- the most that it does to a partition is that the client that asks leaves it
abbrev pub LeavesAtMost : ℕ → TransitionData → Type 0
LeavesAtMost client t = (t.effect ≡ ByCommand Rests) ⊎ (t.effect ≡ ByCommand (Leaves client))

-- what all know of a client: its number, and the partition that it is in
pub record Seated : Type 0 where
  pub number : ℕ
  pub index : ℕ

abbrev pub seated : Client → Seated
seated k = record { number = k.number; index = k.index }

-- whether a client is in a partition
abbrev pub is_in : ℕ → List Seated → Bool
is_in index ks = list_any (λ (k : Seated). k.index == index) ks

-- a byte of a partition's name: an ASCII letter, a digit, `_` or `-`
abbrev pub is_name_byte : ℕ → Bool
is_name_byte b =
    (nat_le 97 b && nat_le b 122) || ((nat_le 65 b && nat_le b 90) || ((nat_le 48 b && nat_le b 57) || ((b == 95) || (b == 45))))

-- whether a text is the name of a partition: 1 to 64 such bytes
abbrev pub is_partition_name : List ℕ → Bool
is_partition_name name = not (length name == 0) && (nat_le (length name) 64 && list_all is_name_byte name)

abbrev pub refused : Asked → ErrorNumber → List ℕ → TransitionData
refused asked number text = transition_by (refusal asked number text)

-- nothing happens, and no lines are shown
abbrev pub done : Asked → TransitionData
done asked = transition_by (shows asked (codes ""))

-- the name of a partition is looked at first
abbrev pub by_name : Asked → List ℕ → TransitionData → TransitionData
by_name asked name t = if is_partition_name name then t else transition_by (bad_name asked name)

abbrev pub no_partition : Asked → TransitionData
no_partition asked = refused asked NoExist (codes "no such partition")

abbrev pub goes : Asked → ℕ → Option ℕ → TransitionData
goes asked own None = no_partition asked
goes asked own (Some to) = if to == own then done asked else enters asked to

-- the client goes to the partition of a name; where it is there already, nothing happens
abbrev pub partition : List Known → Asked → ℕ → List ℕ → TransitionData
partition fs asked own name = by_name asked name (goes asked own (named name fs))

-- the names of all partitions, in byte order
abbrev pub names_in : List Known → List (List ℕ)
names_in fs = ascending (map (λ (f : Known). f.name) fs)

unfoldable pub lines_of_names : List (List ℕ) → List ℕ
lines_of_names names = flat_map (pair_line (codes "partition")) names

abbrev pub list_partitions : List Known → Asked → TransitionData
list_partitions fs asked = transition_by (shows asked (lines_of_names (names_in fs)))

-- the names of all outputs, none of which is there
abbrev pub outputs_elsewhere : List Known → OutputsData
outputs_elsewhere [] = no_outputs
outputs_elsewhere (f ∷ fs) = all_elsewhere f.outputs

abbrev pub opens : List Known → OpeningsData → Asked → List ℕ → ℕ → TransitionData
opens fs openings asked name index = crosses asked (Opens (opening_part openings index name (outputs_elsewhere fs)))

abbrev pub begins : List Known → OpeningsData → Asked → List ℕ → Option ℕ → TransitionData
begins fs openings asked name None = refused asked System (codes "too many partitions")
begins fs openings asked name (Some index) = opens fs openings asked name index

-- a partition of a new name comes, at the least number that is free, if there are fewer than 16
abbrev pub new_partition : List Known → OpeningsData → Asked → List ℕ → TransitionData
new_partition fs openings asked name =
    by_name asked name
    (if is_some (named name fs) then refused asked Exist (codes "partition exists")
    else begins fs openings asked name (if nat_le 16 (length fs) then None else free_index fs))

-- whether a client or an output is in a partition
abbrev pub is_used : List Known → List Seated → ℕ → Bool
is_used fs ks index = is_in index ks || holds_any_in (known_at index fs)

abbrev pub ends_at : List Known → List Seated → Asked → ℕ → TransitionData
ends_at fs ks asked index =
    if index == 0 then refused asked Argument (codes "partition is the default")
    else (if is_used fs ks index then refused asked System (codes "partition is in use") else crosses asked (Closes index))

abbrev pub ends : List Known → List Seated → Asked → Option ℕ → TransitionData
ends fs ks asked None = no_partition asked
ends fs ks asked (Some index) = ends_at fs ks asked index

-- a partition ends that no client and no output is in; the one of number 0 is always there
abbrev pub delete_partition : List Known → List Seated → Asked → List ℕ → TransitionData
delete_partition fs ks asked name = by_name asked name (ends fs ks asked (named name fs))

-- the least number of an output of a name; all partitions have the names of all outputs
abbrev pub output_named : List ℕ → List Known → Option ℕ
output_named name [] = None
output_named name (f ∷ fs) = position (λ own. bytes_eq own name) f.outputs.names

abbrev pub no_output : Asked → TransitionData
no_output asked = refused asked NoExist (codes "no such output")

abbrev pub brings : Asked → ℕ → ℕ → Option ℕ → TransitionData
brings asked output own None = no_output asked
brings asked output own (Some index) = if index == own then done asked else crosses asked (Brings output own)

abbrev pub moves : List Known → Asked → ℕ → Option ℕ → TransitionData
moves fs asked own None = no_output asked
moves fs asked own (Some output) = brings asked output own (holder output fs)

-- an output comes to the partition of the client that asks; where it is there already, nothing happens
abbrev pub move_output : List Known → Asked → ℕ → List ℕ → TransitionData
move_output fs asked own name = moves fs asked own (output_named name fs)

-- what a command of a client makes: of what all know, and of the number of the partition that the client is in
unfoldable pub planned : List Known → List Seated → OpeningsData → Asked → ℕ → PartitionCommand → TransitionData
planned fs ks openings asked own (DelPartition name) = delete_partition fs ks asked name
planned fs ks openings asked own ListPartitions = list_partitions fs asked
planned fs ks openings asked own (MoveOutput name) = move_output fs asked own name
planned fs ks openings asked own (NewPartition name) = new_partition fs openings asked name
planned fs ks openings asked own (Partition name) = partition fs asked own name
