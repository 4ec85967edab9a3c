use Rattle.std.proofs.Common.{◌+◌, ◌<◌, ◌^◌, ◌∙◌, sym, subst}
use Rattle.std.specs.Prelude.{slice_index_or}
use Rattle.partition.specs.History.{Chronicle}
use Rattle.house.proofs.Booked.{own_below}
use Rattle.house.proofs.Owns.{Grows, count_fits, counts_on, many_counts, next_grows}
use Rattle.house.proofs.counted.Counted.step.Goals as goal

pub count-requires : goal.count-requires
count-requires g c =
    let p : Chronicle = c.self.inside.partition in
    count_fits p.present.shared.made c.audit.new.self c.audit.new.seat.number c.audit.new.seat.made 1 (c.audit.ensures.books ∙ c.self.invariant)
    (rw (c.audit.ensures.seat, c.audit.ensures.books) c.audit.ensures.found)
    (subst (λ n. slice_index_or p.present.shared.made n 0 + 1 < 2 ^ 63) c.number.ensures.number (own_below c.number.result p.present c.args.event c.in_ok-outcome.ensures.within))

pub invariant_of-self-2 : goal.invariant_of-self-2
invariant_of-self-2 g c =
    let p : Chronicle = c.self.inside.partition in
    counts_on p.present.shared.made c.step.new.self.present.shared.made c.audit.new.self c.count.new.self c.audit.new.seat.number c.audit.new.seat.made 1
    (c.audit.ensures.books ∙ c.self.invariant) c.count.ensures.found c.count.ensures.books
    (subst (λ n. Grows n 1 p.present.shared.made c.step.new.self.present.shared.made) c.number.ensures.number
    (subst (λ (ch : Chronicle). Grows c.number.result 1 p.present.shared.made ch.present.shared.made) (sym c.in_ok-outcome.ensures.player)
    (next_grows c.number.result p.present c.args.event c.number.ensures.seat (many_counts p c.history-past.ensures.legal))))
