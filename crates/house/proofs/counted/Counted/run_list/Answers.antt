use Rattle.std.proofs.Common.{◌≡◌, ◌+◌, ◌<◌, ◌^◌, ◌∙◌, ℕ, ap, sym, subst}
use Rattle.std.specs.Prelude.{slice_index, slice_index_or}
use Rattle.partition.specs.History.{Chronicle}
use Rattle.house.specs.Counts.{done_in}
use Rattle.house.specs.Seats.{SeatCount}
use Rattle.house.proofs.Booked.{has_eight}
use Rattle.house.proofs.ListEntries.{leaves_any}
use Rattle.house.proofs.Owns.{Grows, count_fits, counts_on, many_counts, own_few}
use Rattle.house.proofs.Same.{all_runs_at, all_stops_at}
use Rattle.house.proofs.counted.Counted.run_list.Goals as goal

pub count-requires : goal.count-requires
count-requires g c = λ low.
    let p : Chronicle = c.self.inside.partition in
    let legal = c.history-past.ensures.legal in
    let books = c.audit.ensures.books ∙ c.self.invariant in
    let found : c.audit.new.seat.number < 4 → slice_index c.audit.new.self c.audit.new.seat.number ≡ c.audit.new.seat.made = rw (c.audit.ensures.seat, c.audit.ensures.books) c.audit.ensures.found in
    let few : c.audit.new.seat.made < 2 ^ 63 = rw c.audit.ensures.seat c.audit.ensures.few in
    let left = leaves_any g.S.Shelf.standing g.S.Shelf.failed p c.run_list-end.new.self c.args.shelf.now c.run_list-end.new.shelf c.number.result c.args.client c.args.form c.args.list.items
    c.number.ensures.seat (many_counts p legal) (has_eight p legal) c.run_list-end.result c.run_list-end.ensures.ok c.run_list-end.ensures.err in
    let here : slice_index_or p.present.shared.made c.audit.new.seat.number 0 < 2 ^ 63 = own_few p.present.shared.made c.audit.new.self c.audit.new.seat.number c.audit.new.seat.made books found few low in
    let fits : slice_index_or p.present.shared.made c.audit.new.seat.number 0 + done_in c.run_list-end.result < 2 ^ 63 =
    subst (λ (n : ℕ). slice_index_or p.present.shared.made n 0 + done_in c.run_list-end.result < 2 ^ 63) c.number.ensures.number
    (left.below (subst (λ (n : ℕ). slice_index_or p.present.shared.made n 0 < 2 ^ 63) (sym c.number.ensures.number) here)) in
    rw c.done_of.ensures (count_fits p.present.shared.made c.audit.new.self c.audit.new.seat.number c.audit.new.seat.made (done_in c.run_list-end.result) books found fits low)

pub invariant_of-self : goal.invariant_of-self
invariant_of-self g c =
    let p : Chronicle = c.self.inside.partition in
    let legal = c.history-past.ensures.legal in
    let left = leaves_any g.S.Shelf.standing g.S.Shelf.failed p c.run_list-end.new.self c.args.shelf.now c.run_list-end.new.shelf c.number.result c.args.client c.args.form c.args.list.items
    c.number.ensures.seat (many_counts p legal) (has_eight p legal) c.run_list-end.result c.run_list-end.ensures.ok c.run_list-end.ensures.err in
    counts_on p.present.shared.made c.run_list-end.new.self.present.shared.made c.audit.new.self c.count.new.self c.audit.new.seat.number c.audit.new.seat.made c.done_of.result
    (c.audit.ensures.books ∙ c.self.invariant) c.count.ensures.found c.count.ensures.books
    (subst (λ (k : ℕ). Grows c.audit.new.seat.number k p.present.shared.made c.run_list-end.new.self.present.shared.made) (sym c.done_of.ensures)
    (subst (λ (n : ℕ). Grows n (done_in c.run_list-end.result) p.present.shared.made c.run_list-end.new.self.present.shared.made) c.number.ensures.number left.grows))

pub returns-clause-books : goal.returns-clause-books
returns-clause-books g c =
    let p : Chronicle = c.self.inside.partition in
    let legal = c.history-past.ensures.legal in
    (leaves_any g.S.Shelf.standing g.S.Shelf.failed p c.run_list-end.new.self c.args.shelf.now c.run_list-end.new.shelf c.number.result c.args.client c.args.form c.args.list.items
    c.number.ensures.seat (many_counts p legal) (has_eight p legal) c.run_list-end.result c.run_list-end.ensures.ok c.run_list-end.ensures.err).books
    ∙ ap (λ (h : Chronicle). h.present.shared.books) c.self.view_is

pub returns-clause-ok : goal.returns-clause-ok
returns-clause-ok g c =
    all_runs_at g.S.Shelf.standing g.S.Shelf.failed c.self.inside.partition c.args.self.now c.args.shelf.now c.run_list-end.new.shelf c.number.result c.args.seat.now.number c.self.view_is
    (c.number.ensures.number ∙ ap (λ (s : SeatCount). s.number) c.audit.ensures.seat) c.run_list-end.new.self c.args.client c.args.form c.args.list.items c.run_list-end.result c.run_list-end.ensures.ok

pub returns-clause-err : goal.returns-clause-err
returns-clause-err g c =
    all_stops_at g.S.Shelf.standing g.S.Shelf.failed c.self.inside.partition c.args.self.now c.args.shelf.now c.run_list-end.new.shelf c.number.result c.args.seat.now.number c.self.view_is
    (c.number.ensures.number ∙ ap (λ (s : SeatCount). s.number) c.audit.ensures.seat) c.run_list-end.new.self c.args.client c.args.form c.args.list.items c.run_list-end.result c.run_list-end.ensures.err
