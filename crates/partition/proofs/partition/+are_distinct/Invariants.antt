use Rattle.std.proofs.Common.{length}
use Rattle.partition.proofs.partition.+are_distinct.Given as goal

-- the partitions that are left
abbrev pub decreases-are_distinct : goal.decreases-are_distinct
decreases-are_distinct l = length l.parts.now
