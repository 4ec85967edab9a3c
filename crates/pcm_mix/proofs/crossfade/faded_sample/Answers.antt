use Rattle.std.proofs.Common.{arith, to_z-of_z, ◌≡◌, ◌∙◌, ◌-◌, pos, ◌+ℤ◌, FitsSigned, int_div, ap, refl}
use Rattle.std.specs.Int.{w16}
use Rattle.pcm_mix.proofs.Quotients.{back_narrow, code_sum, quotient_of_sum, wider}
use Rattle.pcm_mix.proofs.crossfade.faded_sample.Goals as goal

fits : (c : goal.After-quotient) → FitsSigned w16 (int_div (c.weighted.result +ℤ c.weighted-2.result) (pos c.args.len))
fits c = quotient_of_sum c.weighted.result c.weighted-2.result _ (c.args.len - c.args.offset) c.args.offset c.args.len (omega arith) (omega arith) refl c.weighted.ensures.least c.weighted.ensures.most c.weighted-2.ensures.least c.weighted-2.ensures.most

quotient : (c : goal.After-quotient) → c.quotient.result ≡ int_div (c.weighted.result +ℤ c.weighted-2.result) (pos c.args.len)
quotient c = c.quotient.ensures ∙ ap (λ sum. int_div sum (pos c.args.len))
    (code_sum c.weighted.result c.weighted-2.result (c.args.len - c.args.offset) c.args.offset c.args.len (omega arith) (omega arith) c.weighted.ensures.least c.weighted.ensures.most c.weighted-2.ensures.least c.weighted-2.ensures.most)

pub overflow_cast-result : goal.overflow_cast-result
overflow_cast-result c = rw (quotient c) (let f = fits c in let w = wider _ f in simp to_z-of_z f)

pub returns : goal.returns
returns c = rw (quotient c) (let f = fits c in let g = c.ranges.from in let h = c.ranges.to in rw (back_narrow _ f) (let a = c.weighted.ensures.value in let b = c.weighted-2.ensures.value in rw (a, b) (simp to_z-of_z)))
