use Rattle.std.proofs.Common.{ap, sym, ◌∙◌}
use Rattle.player_state.specs.Outputs.{FrameBooks}
use Rattle.house.proofs.held.Held.list.Goals.{in-Ok, in-Err}
use Rattle.house.proofs.held.Held.list.Goals as goal

pub invariant_of-self : goal.invariant_of-self
invariant_of-self g c =
    let was = c.self.invariant in
    let books = c.run_list-end.ensures.books in
    let decoded = was.0 ∙ sym (ap (λ (b : FrameBooks). b.decoded) books) in
    elim c.match-end.branch [
      | in-Ok w ↦ rw w.self-inside-is (decoded, (λ e. was.1 e ∙ sym (ap (λ (b : FrameBooks). b.written) books)), (λ e. was.2 e ∙ sym (ap (λ (b : FrameBooks). b.discarded) books)), was.3, was.4)
      | in-Err w ↦ rw w.self-inside-is (decoded, (λ e. was.1 e ∙ sym (ap (λ (b : FrameBooks). b.written) books)), (λ e. was.2 e ∙ sym (ap (λ (b : FrameBooks). b.discarded) books)), was.3, was.4)
    ]
