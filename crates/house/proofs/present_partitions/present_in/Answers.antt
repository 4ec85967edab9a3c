use Rattle.std.proofs.Common.{[], ◌∷◌}
use Rattle.std.specs.Prelude.{is_some}
use Rattle.partition_table.specs.Parts.{part_at}
use Rattle.house.proofs.Sixteen.{at_indices}
use Rattle.house.proofs.present_partitions.present_in.Goals as goal

pub returns : goal.returns
returns c = λ index low.
    at_indices (λ n. is_some (part_at n c.args.partition.now.present.parts))
    (c.has.result ∷ c.has-2.result ∷ c.has-3.result ∷ c.has-4.result ∷ c.has-5.result ∷ c.has-6.result ∷ c.has-7.result ∷ c.has-8.result ∷ c.has-9.result ∷ c.has-10.result ∷ c.has-11.result ∷ c.has-12.result ∷ c.has-13.result ∷ c.has-14.result ∷ c.has-15.result ∷ c.has-16.result ∷ [])
    (c.has.ensures, (c.has-2.ensures, (c.has-3.ensures, (c.has-4.ensures, (c.has-5.ensures, (c.has-6.ensures, (c.has-7.ensures, (c.has-8.ensures, (c.has-9.ensures, (c.has-10.ensures, (c.has-11.ensures, (c.has-12.ensures, (c.has-13.ensures, (c.has-14.ensures, (c.has-15.ensures, (c.has-16.ensures, tt))))))))))))))))
    index low
