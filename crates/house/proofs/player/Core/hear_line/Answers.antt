use Rattle.std.proofs.Common.{◌+◌, ◌≤◌, ◌∙◌, List, ap, arith, length, vec_capacity, vec_len}
use Rattle.std.specs.Prelude.{Ok}
use Rattle.connected_clients.specs.declared.notices.Notice.{Notice}
use Rattle.partition.specs.History.{Chronicle, with_room}
use Rattle.house.proofs.Booked.{has_eight}
use Rattle.house.proofs.Few.{has_room}
use Rattle.house.proofs.StoreReply.{books_stay, lines_frameless}
use Rattle.house.proofs.player.Core.hear_line.Goals as goal

pub put_all-requires : goal.put_all-requires
put_all-requires g c =
    let p : Chronicle = c.begin.new.self.counted in
    let room : vec_len c.begin.new.self.waiting + length c.in_ok-outcome.outcome.notices ≤ vec_capacity c.begin.new.self.waiting =
    has_room g.S.Shelf.standing g.S.Shelf.failed p.present c.apply.new.self.present (with_room p).window c.apply.new.self.window c.args.shelf.now c.apply.new.shelf
    c.begin.new.seat.number _ (Ok c.in_ok-outcome.outcome) (vec_len c.begin.new.self.waiting) (vec_capacity c.begin.new.self.waiting) c.in_ok-begin.ensures.room c.in_ok-outcome.ensures.ok in
    let notices = ap (λ (ns : List Notice). length ns) c.notices.ensures in
    let capacity = c.take_first-front.ensures.room.0 in
    let shorter = c.take_first-front.ensures.room.1 in
    omega (arith, room, notices, capacity, shorter)

pub returns-clause-books : goal.returns-clause-books
returns-clause-books g c =
    let p : Chronicle = c.begin.new.self.counted in
    books_stay g.S.Shelf.standing g.S.Shelf.failed p c.apply.new.self c.args.shelf.now c.apply.new.shelf c.begin.new.seat.number _
    (has_eight p c.apply.ensures.legal) (Ok c.in_ok-outcome.outcome) (λ heard. lines_frameless p.present c.args.client c.args.request heard) c.in_ok-outcome.ensures.ok tt
    ∙ ap (λ (c : Chronicle). c.present.shared.books) c.begin.ensures.same.0
