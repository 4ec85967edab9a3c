use Rattle.std.proofs.Common.{◌≡◌, ◌∙◌, ap, length, sym}
use Rattle.partition.specs.History.{Chronicle}
use Rattle.player_state.specs.Outputs.{FrameBooks, empty_books}
use Rattle.house.proofs.held.Held.open.Goals as goal

pub invariant_of-held : goal.invariant_of-held
invariant_of-held g c =
    let books = c.in-Ok.ensures.books in
    let empty : c.new-counted.result.present.shared.books ≡ empty_books = ap (λ (h : Chronicle). h.present.shared.books) c.new-counted.ensures ∙ c.requires.fresh.1 in (
      books.0 ∙ sym (ap (λ (b : FrameBooks). b.decoded) empty),
      (λ e. books.1 ∙ sym (ap (λ (b : FrameBooks). b.written) empty)),
      (λ e. books.2 ∙ sym (ap (λ (b : FrameBooks). b.discarded) empty)),
      (ap length books.0, ap length books.1, ap length books.2),
      c.in-Ok.ensures.free.0,
    )
