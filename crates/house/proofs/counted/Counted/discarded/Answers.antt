use Rattle.house.proofs.Booked.{has_eight}
use Rattle.house.proofs.counted.Counted.discarded.Goals as goal

pub discarded_in-requires : goal.discarded_in-requires
discarded_in-requires g c = rw c.books.ensures (has_eight c.self.inside.partition c.history-past.ensures.legal).discarded
