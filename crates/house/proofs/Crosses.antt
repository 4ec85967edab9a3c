-- What lies under the house's lock may go to another thread, so the house may be shared by threads.
use denote.RattleType.{RattleType}
use denote.Param.Send.{IsSend, IsSync, sendable, view_send}
use denote.Param.SendFields.{declared_send}
use Rattle.std.proofs.Crossing.{crosses}
use Rattle.house.specs.declared.ledgers.Ledgers.{Ghosts}
use Rattle.partition.proofs.Crosses.{◌⨟◌}
use Rattle.frame_ledger.proofs.books.Books.TheSendSync as books
use Rattle.house.proofs.seat.Seat.TheSendSync as seat
use Rattle.house.proofs.wake_fingerprint.WakeFingerprint.TheSendSync as wake_fingerprint
use Rattle.house.proofs.all_shares.AllShares.TheSendSync as all_shares
use Rattle.house.specs.contracts.held.Held as Held
use Rattle.house.specs.contracts.held.Held.TheInside as HeldInside
use Rattle.house.specs.contracts.player.Core as Core
use Rattle.house.specs.contracts.house.House as House
use Rattle.house.proofs.CountedCrosses.{counted_send}

ruleset parts = (crosses, sendable)

module _ (L : RattleType) (l : Ghosts L.Denot) where
  core_send : IsSend (Core.the_row L l)
  core_send = declared_send (Core.the_type L l) (counted_send L l ⨟ search parts depth 60 fits 20000 ⨟
      search (wake_fingerprint.the_send, parts) depth 60 fits 20000 ⨟ search parts depth 60 fits 20000 ⨟ tt)

  pub held_send : IsSend (Held.the_row L l)
  held_send = view_send _ _ _ _ _ (declared_send (HeldInside.the_type L l) (
      search parts depth 60 fits 20000 ⨟
      core_send ⨟
      search (books.the_send, parts) depth 60 fits 20000 ⨟
      search (seat.the_send, parts) depth 60 fits 20000 ⨟
      search (all_shares.the_send, parts) depth 60 fits 20000 ⨟
      tt))

  pub house_send : IsSend (House.the_row L l)
  house_send = search (held_send, parts) depth 60 fits 20000

  pub house_sync : IsSync (House.the_row L l)
  house_sync = search (held_send, parts) depth 60 fits 20000
