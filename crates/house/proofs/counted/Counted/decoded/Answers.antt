use Rattle.house.proofs.Booked.{has_eight}
use Rattle.house.proofs.counted.Counted.decoded.Goals as goal

pub decoded_in-requires : goal.decoded_in-requires
decoded_in-requires g c = rw c.books.ensures (has_eight c.self.inside.partition c.history-past.ensures.legal).decoded
