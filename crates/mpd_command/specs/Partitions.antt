-- The table of commands of partitions (MPD protocol reference, Partition commands).
use Rattle.std.specs.Prelude.{List, [], ◌∷◌, codes}
use Rattle.command_arguments.specs.Forms.{any_text}
use Rattle.mpd_command.specs.Tables.{Row, none, one}
use Rattle.mpd_command.specs.declared.partitions.PartitionCommand.{PartitionCommand}
use Rattle.mpd_command.specs.declared.partitions.PartitionCommand.TheVariants as partitions

unfoldable pub rows : List (Row PartitionCommand)
rows =
    (codes "delpartition", one any_text partitions.DelPartition)
    ∷ (codes "listpartitions", none partitions.ListPartitions)
    ∷ (codes "moveoutput", one any_text partitions.MoveOutput)
    ∷ (codes "newpartition", one any_text partitions.NewPartition)
    ∷ (codes "partition", one any_text partitions.Partition)
    ∷ []
