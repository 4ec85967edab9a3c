use Rattle.house.proofs.Booked.{has_eight}
use Rattle.house.proofs.counted.Counted.written.Goals as goal

pub written_in-requires : goal.written_in-requires
written_in-requires g c = rw c.books.ensures (has_eight c.self.inside.partition c.history-past.ensures.legal).written
