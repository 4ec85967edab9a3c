use Rattle.std.proofs.Common.{ap, arith, refl, sym, ◌∙◌, ◌≡◌, suc, slice_index_or, false, ℕ, Bool, List, ◌+◌, ◌-◌, ◌<◌}
use Rattle.std.specs.Prelude.{find}
use Rattle.std.specs.List.{range_with_len}
use Rattle.crew_steps.specs.Rounds.{first_from}
use Rattle.crew_steps.proofs.rounds.first_from.Goals as goal

one_more : (index : ℕ) → index < 16 → 16 - index ≡ suc (16 - (index + 1))
one_more index less = omega (arith, less)

behind : (present_partitions : List Bool) (index : ℕ) → index < 16 → slice_index_or present_partitions index false ≡ false → first_from present_partitions index ≡ first_from present_partitions (index + 1)
behind present_partitions index less none =
    ap (λ (n : ℕ). find (λ p. slice_index_or present_partitions p false) (range_with_len index n)) (one_more index less) ∙ (rw none refl)

pub loop-index-preserved : goal.loop-index-preserved
loop-index-preserved c = c.loop-index.invariant ∙ behind c.args.present_partitions c.loop-index.index c.loop-index-test.true (sym c.is_there.ensures ∙ c.if-is_there.false)
