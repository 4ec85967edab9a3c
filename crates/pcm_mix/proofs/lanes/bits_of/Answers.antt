use Rattle.std.proofs.Common.{◌≡◌, ℕ, ℤ, List, pos, [], ◌∷◌, ◌++◌, ◌+◌, get_or, FitsSigned, ◌∙◌, sym, rules, arith}
use Rattle.std.specs.Int.{w16}
use Rattle.pcm_mix.specs.Layouts.{signed}
use Rattle.pcm_mix.proofs.Eights.{two_are}
use Rattle.pcm_mix.proofs.Gains.{back}
use Rattle.pcm_mix.proofs.lanes.bits_of.Goals as goal

pub returns-clause-is : goal.returns-clause-is
returns-clause-is c =
    let at : ℕ → List ℤ = λ k. get_or c.args.frames.now k [] in
    let offset = c.args.i in
    let first : offset + 0 ≡ offset = omega arith in
    let fa0 : FitsSigned w16 (get_or (get_or c.args.frames.now offset []) 0 (pos 0)) = search rules in
    let fa1 : FitsSigned w16 (get_or (get_or c.args.frames.now offset []) 1 (pos 0)) = search rules in
    let fb0 : FitsSigned w16 (get_or (get_or c.args.frames.now (offset + 1) []) 0 (pos 0)) = search rules in
    let fb1 : FitsSigned w16 (get_or (get_or c.args.frames.now (offset + 1) []) 1 (pos 0)) = search rules in
    let fm0 : FitsSigned w16 (get_or (get_or c.args.frames.now (offset + 2) []) 0 (pos 0)) = search rules in
    let fm1 : FitsSigned w16 (get_or (get_or c.args.frames.now (offset + 2) []) 1 (pos 0)) = search rules in
    let fd0 : FitsSigned w16 (get_or (get_or c.args.frames.now (offset + 3) []) 0 (pos 0)) = search rules in
    let fd1 : FitsSigned w16 (get_or (get_or c.args.frames.now (offset + 3) []) 1 (pos 0)) = search rules in
    let ta = two_are (at offset) (pos 0) (omega arith) in
    let tb = two_are (at (offset + 1)) (pos 0) (omega arith) in
    let tm = two_are (at (offset + 2)) (pos 0) (omega arith) in
    let td = two_are (at (offset + 3)) (pos 0) (omega arith) in
    let a0 = (λ t. signed 32768 (c.cast_unsigned.ensures t)) ∙ back _ fa0 in
    let a1 = (λ t. signed 32768 (c.cast_unsigned-2.ensures t)) ∙ back _ fa1 in
    let b0 = (λ t. signed 32768 (c.cast_unsigned-3.ensures t)) ∙ back _ fb0 in
    let b1 = (λ t. signed 32768 (c.cast_unsigned-4.ensures t)) ∙ back _ fb1 in
    let m0 = (λ t. signed 32768 (c.cast_unsigned-5.ensures t)) ∙ back _ fm0 in
    let m1 = (λ t. signed 32768 (c.cast_unsigned-6.ensures t)) ∙ back _ fm1 in
    let d0 = (λ t. signed 32768 (c.cast_unsigned-7.ensures t)) ∙ back _ fd0 in
    let d1 = (λ t. signed 32768 (c.cast_unsigned-8.ensures t)) ∙ back _ fd1 in
    (λ t. a0 t ∷ a1 t ∷ b0 t ∷ b1 t ∷ m0 t ∷ m1 t ∷ d0 t ∷ d1 t ∷ [])
    ∙ sym ((λ t. at (first t) ++ (at (offset + 1) ++ (at (offset + 2) ++ (at (offset + 3) ++ [])))) ∙ (λ t. ta t ++ (tb t ++ (tm t ++ (td t ++ [])))))
