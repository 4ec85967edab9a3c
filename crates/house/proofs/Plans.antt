-- What the commands of partitions make, case by case.
use Rattle.std.proofs.Common.{ℕ, ◌==◌, nat_le, true, false, List, length, Option, Some, None, if◌then◌else◌}
use Rattle.std.specs.Prelude.{codes, is_some}
use Rattle.mpd_command.specs.declared.partitions.PartitionCommand.{PartitionCommand}
use Rattle.mpd_command.specs.declared.partitions.PartitionCommand.TheVariants.{DelPartition, ListPartitions, MoveOutput, NewPartition, Partition}
use Rattle.mpd_text.specs.declared.answers.answer.ErrorNumber.TheVariants.{Argument, Exist, System}
use Rattle.partition_table.specs.Openings.{OpeningsData}
use Rattle.partition_table.specs.Parts.{Known, free_index, holder, named}
use Rattle.partition_table.specs.declared.crossing.Crossing.{Crossing}
use Rattle.partition_table.specs.declared.crossing.Crossing.TheVariants.{Brings, Closes}
use Rattle.partition_commands.specs.Partitions.{Seated, begins, brings, by_name, done, ends, ends_at, goes, is_partition_name, is_used, moves, new_partition, output_named, planned, refused}
use Rattle.transitions.specs.declared.asked.Asked.{Asked}
use Rattle.transitions.specs.CommandResults.{bad_name}
use Rattle.transitions.specs.Transitions.{CommandResult, TransitionData, crosses, enters, transition_by}

-- what holds where a command is shown something or refused, where something passes between the partitions, and
-- where a client goes to another
module _ (P : TransitionData → Type 0) (shows : (r : CommandResult) → P (transition_by r)) (passes : (asked : Asked) (crossing : Crossing) → P (crosses asked crossing))
    (comes : (asked : Asked) (index : ℕ) → P (enters asked index)) where
  by : (asked : Asked) (name : List ℕ) (t : TransitionData) → P t → P (by_name asked name t)
  by asked name t p = elim (is_partition_name name) as (λ b. P (if b then t else transition_by (bad_name asked name))) [ true ↦ p | false ↦ shows _ ]

  gone_to : (asked : Asked) (own : ℕ) (to : Option ℕ) → P (goes asked own to)
  gone_to asked own None = shows _
  gone_to asked own (Some to) = elim (to == own) as (λ b. P (if b then done asked else enters asked to)) [ true ↦ shows _ | false ↦ comes asked to ]

  begun : (fs : List Known) (openings : OpeningsData) (asked : Asked) (name : List ℕ) (index : Option ℕ) → P (begins fs openings asked name index)
  begun fs openings asked name None = shows _
  begun fs openings asked name (Some index) = passes asked _

  new : (fs : List Known) (openings : OpeningsData) (asked : Asked) (name : List ℕ) → P (new_partition fs openings asked name)
  new fs openings asked name =
      let index : Option ℕ = if nat_le 16 (length fs) then None else free_index fs in
      by asked name _
      (elim (is_some (named name fs)) as (λ b. P (if b then refused asked Exist (codes "partition exists") else begins fs openings asked name index))
      [ true ↦ shows _ | false ↦ begun fs openings asked name index ])

  ended_at : (fs : List Known) (ks : List Seated) (asked : Asked) (index : ℕ) → P (ends_at fs ks asked index)
  ended_at fs ks asked index =
      let used : P (if is_used fs ks index then refused asked System (codes "partition is in use") else crosses asked (Closes index)) =
      elim (is_used fs ks index) as (λ b. P (if b then refused asked System (codes "partition is in use") else crosses asked (Closes index))) [ true ↦ shows _ | false ↦ passes asked _ ] in
      elim (index == 0)
      as (λ b. P (if b then refused asked Argument (codes "partition is the default") else (if is_used fs ks index then refused asked System (codes "partition is in use") else crosses asked (Closes index))))
      [ true ↦ shows _ | false ↦ used ]

  ended : (fs : List Known) (ks : List Seated) (asked : Asked) (index : Option ℕ) → P (ends fs ks asked index)
  ended fs ks asked None = shows _
  ended fs ks asked (Some index) = ended_at fs ks asked index

  brought : (asked : Asked) (output own : ℕ) (index : Option ℕ) → P (brings asked output own index)
  brought asked output own None = shows _
  brought asked output own (Some index) = elim (index == own) as (λ b. P (if b then done asked else crosses asked (Brings output own))) [ true ↦ shows _ | false ↦ passes asked _ ]

  moved : (fs : List Known) (asked : Asked) (own : ℕ) (output : Option ℕ) → P (moves fs asked own output)
  moved fs asked own None = shows _
  moved fs asked own (Some output) = brought asked output own (holder output fs)

  pub planned_is : (fs : List Known) (ks : List Seated) (openings : OpeningsData) (asked : Asked) (own : ℕ) (command : PartitionCommand) → P (planned fs ks openings asked own command)
  unfolding planned
  planned_is fs ks openings asked own (DelPartition name) = by asked name _ (ended fs ks asked (named name fs))
  planned_is fs ks openings asked own ListPartitions = shows _
  planned_is fs ks openings asked own (MoveOutput name) = moved fs asked own (output_named name fs)
  planned_is fs ks openings asked own (NewPartition name) = new fs openings asked name
  planned_is fs ks openings asked own (Partition name) = by asked name _ (gone_to asked own (named name fs))
