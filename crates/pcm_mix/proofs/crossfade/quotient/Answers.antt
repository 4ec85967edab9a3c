use Rattle.std.proofs.Common.{arith, ◌≡◌, pos, to_z, of_z, w64, ◌-ℤ◌, neg_ℤ, ap, ◌∙◌, unsigned_abs}
use Rattle.std.proofs.lemmas.Int.{ints}
use Rattle.pcm_mix.proofs.Quotients.{IsEstimate, estimate_above, estimate_below}
use Rattle.pcm_mix.proofs.crossfade.quotient.Goals as goal

pub returns-then-sum-lt0 : goal.returns-then-sum-lt0
returns-then-sum-lt0 c =
    let size = c.unsigned_abs-size.result in
    let sum : to_z w64 (of_z w64 c.args.sum) ≡ c.args.sum = omega (arith, ints) in
    let estimate = c.upper_half-estimate.result in
    let e : to_z w64 (of_z w64 (pos 0 -ℤ to_z w64 (of_z w64 c.from-then-sum-lt0.result))) ≡ neg_ℤ (pos estimate) = omega (arith, ints) in
    let is : IsEstimate size estimate c.args.len c.from.result c.from-2.result
    = record { same = c.from.ensures; divisor = c.from-2.ensures; fits = c.if-product-size.false; rest = omega (arith, c.if-size-product.false) } in
    e ∙ estimate_below c.args.sum size estimate c.args.len c.from.result c.from-2.result (omega (arith, ints)) (c.unsigned_abs-size.ensures.value ∙ ap unsigned_abs sum) is

pub returns-else-sum-lt0 : goal.returns-else-sum-lt0
returns-else-sum-lt0 c =
    let size = c.unsigned_abs-size.result in
    let sum : to_z w64 (of_z w64 c.args.sum) ≡ c.args.sum = omega (arith, ints) in
    let estimate = c.upper_half-estimate.result in
    let e : to_z w64 (of_z w64 c.from-else-sum-lt0.result) ≡ pos estimate = omega (arith, ints) in
    let is : IsEstimate size estimate c.args.len c.from.result c.from-2.result
    = record { same = c.from.ensures; divisor = c.from-2.ensures; fits = c.if-product-size.false; rest = omega (arith, c.if-size-product.false) } in
    e ∙ estimate_above c.args.sum size estimate c.args.len c.from.result c.from-2.result (omega (arith, ints)) (c.unsigned_abs-size.ensures.value ∙ ap unsigned_abs sum) is
