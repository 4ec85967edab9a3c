use Rattle.std.proofs.Common.{ℕ, ◌+◌, ◌++◌, ap, sym, ◌∙◌}
use Rattle.std.specs.Prelude.{slice_index_or}
use Rattle.partition.specs.History.{Chronicle, own}
use Rattle.partition.specs.Image.{Image}
use Rattle.partition.specs.Legal.{IsPast}
use Rattle.partition.proofs.Counts.{made_of-at, own-behind}
use Rattle.partition.proofs.partition.Partition.own.Goals as goal

pub returns-clause-own : goal.returns-clause-own
returns-clause-own c =
    let past : IsPast c.args.self.now = c.legal.ensures.legal in
    let made : Image → ℕ = λ i. slice_index_or i.shared.made c.args.seat 0 in
    ap (λ (k : ℕ). slice_index_or c.self.inside.state.made k 0) c.from.ensures
    ∙ ap (λ (ch : Chronicle). made ch.present) c.self.view_is
    ∙ ap made past.present.world
    ∙ made_of-at (past.earlier ++ c.args.self.now.window) c.args.seat c.requires
    ∙ own-behind c.args.seat past.earlier c.args.self.now.window
    ∙ ap (λ (n : ℕ). n + own c.args.seat c.args.self.now.window) (sym (ap made past.base.world ∙ made_of-at past.earlier c.args.seat c.requires))
