-- What a new partition is opened with.
use Rattle.std.specs.Prelude.{ℕ}
use Rattle.partition_table.specs.declared.openings.Greatest.{Greatest}

-- the greatest numbers of each partition, and the seed of the generator that its random orders are drawn from
pub record OpeningsData : Type 0 where
  pub greatest : Greatest
  pub random_start : ℕ
