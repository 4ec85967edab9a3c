-- A player whose events are counted may go to another thread.
use denote.RattleType.{RattleType}
use denote.Param.Send.{IsSend, sendable, view_send}
use denote.Param.SendFields.{declared_send}
use Rattle.std.proofs.Crossing.{crosses}
use Rattle.house.specs.declared.ledgers.Ledgers.{Ghosts}
use Rattle.partition.proofs.Crosses.{partition_send, ◌⨟◌}
use Rattle.house.proofs.seat.SeatBooks.TheSendSync as seat_books
use Rattle.house.specs.contracts.counted.Counted as Counted
use Rattle.house.specs.contracts.counted.Counted.TheInside as CountedInside

ruleset parts = (crosses, sendable)

module _ (L : RattleType) (l : Ghosts L.Denot) where
  pub counted_send : IsSend (Counted.the_row L l)
  counted_send = view_send _ _ _ _ _ (declared_send (CountedInside.the_type L l) (
      partition_send ⨟ search (seat_books.the_send, parts) depth 60 fits 20000 ⨟ tt))
