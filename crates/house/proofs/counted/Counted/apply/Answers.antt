use Rattle.std.proofs.Common.{◌≡◌, ◌+◌, ◌<◌, ◌^◌, ◌∙◌, ap, sym, subst}
use Rattle.std.specs.Prelude.{slice_index_or}
use Rattle.partition.specs.History.{Chronicle}
use Rattle.partition.specs.Image.{Image}
use Rattle.partition.specs.Legal.{IsPast}
use Rattle.player_events.specs.Events.{with_store_reply}
use Rattle.house.specs.Seats.{SeatCount}
use Rattle.house.proofs.Booked.{own_below}
use Rattle.house.proofs.Found.{answers}
use Rattle.house.proofs.Owns.{Grows, count_fits, counts_on, found_at, many_counts, next_grows}
use Rattle.house.proofs.Same.{records_at}
use Rattle.house.proofs.counted.Counted.apply.Goals as goal

pub count-requires : goal.count-requires
count-requires g c =
    let p : Chronicle = c.self.inside.partition in
    let did = c.in_ok-outcome.ensures.ok in
    let number : c.number.result ≡ c.audit.new.seat.number = c.number.ensures.number in
    count_fits p.present.shared.made c.audit.new.self c.audit.new.seat.number c.audit.new.seat.made 1 (c.audit.ensures.books ∙ c.self.invariant)
    (rw (c.audit.ensures.seat, c.audit.ensures.books) c.audit.ensures.found)
    (subst (λ n. slice_index_or p.present.shared.made n 0 + 1 < 2 ^ 63) number (own_below c.number.result p.present (with_store_reply c.args.event did.heard) did.within))

pub invariant_of-self-2 : goal.invariant_of-self-2
invariant_of-self-2 g c =
    let p : Chronicle = c.self.inside.partition in
    let did = c.in_ok-outcome.ensures.ok in
    counts_on p.present.shared.made c.apply.new.self.present.shared.made c.audit.new.self c.count.new.self c.audit.new.seat.number c.audit.new.seat.made 1
    (c.audit.ensures.books ∙ c.self.invariant) c.count.ensures.found c.count.ensures.books
    (subst (λ n. Grows n 1 p.present.shared.made c.apply.new.self.present.shared.made) c.number.ensures.number
    (subst (λ (i : Image). Grows c.number.result 1 p.present.shared.made i.shared.made) (sym did.present)
    (next_grows c.number.result p.present (with_store_reply c.args.event did.heard) c.number.ensures.seat (many_counts p c.history-past.ensures.legal))))

pub returns-clause-ok : goal.returns-clause-ok
returns-clause-ok g c =
    records_at g.S.Shelf.standing g.S.Shelf.failed c.self.inside.partition c.args.self.now c.args.shelf.now c.apply.new.shelf c.number.result c.args.seat.now.number c.self.view_is
    (c.number.ensures.number ∙ ap (λ (s : SeatCount). s.number) c.audit.ensures.seat) c.apply.new.self.present c.apply.new.self.window c.args.event c.in_ok-outcome.outcome c.in_ok-outcome.ensures.ok

pub returns-clause-somewhere : goal.returns-clause-somewhere
returns-clause-somewhere g c =
    answers g.S.Shelf.standing g.S.Shelf.failed c.args.self.now c.apply.new.self.present c.apply.new.self.window c.args.shelf.now c.apply.new.shelf
    c.args.seat.now c.args.event c.in_ok-outcome.outcome (
      subst IsPast c.self.view_is c.history-past.ensures.legal,
      λ low.
          found_at c.self.inside.partition c.args.self.now c.self.inside.seats c.args.seat.now.number c.args.seat.now.made c.self.view_is c.self.invariant c.audit.ensures.found low,
    )
    (records_at g.S.Shelf.standing g.S.Shelf.failed c.self.inside.partition c.args.self.now c.args.shelf.now c.apply.new.shelf c.number.result c.args.seat.now.number c.self.view_is
    (c.number.ensures.number ∙ ap (λ (s : SeatCount). s.number) c.audit.ensures.seat) c.apply.new.self.present c.apply.new.self.window c.args.event c.in_ok-outcome.outcome c.in_ok-outcome.ensures.ok)
