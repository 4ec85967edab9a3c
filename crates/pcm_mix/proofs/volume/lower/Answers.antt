use Rattle.std.proofs.Common.{◌≡◌, ℕ, [], ◌+◌, ◌*◌, ◌<◌, length, map, get_or, ap, sym, ◌∙◌, arith}
use Rattle.std.proofs.lemmas.List.FromFn.{fill_by_all}
use Rattle.pcm_mix.specs.Samples.{gained}
use Rattle.pcm_mix.proofs.Blocks.{gained_alone}
use Rattle.pcm_mix.proofs.Eights.{eight_filled, eight_kept, one_filled, one_kept, ranged}
use Rattle.pcm_mix.proofs.volume.lower.Goals as goal

pub loop-step-preserved : goal.loop-step-preserved
loop-step-preserved c =
    let old = c.args.frames.now in
    let v = c.args.volume in
    let i : ℕ = 8 * c.loop-step.step in
    let xs = c.loop-step.frames in
    let kept = c.loop-step.invariant.1 in
    let long : length c.eight_gained-eight.result ≡ 8 = ap length c.eight_gained-eight.ensures in
    let is = λ (j : ℕ) (less : j < 8). ranged (λ j. map (gained v) (get_or xs (i + j) [])) c.eight_gained-eight.result 8 j less c.eight_gained-eight.ensures ∙ ap (map (gained v)) (kept (i + j) (omega arith)) in
    rw c.put_eight.ensures (
      eight_filled (λ k. map (gained v) (get_or old k [])) xs c.eight_gained-eight.result i _ (omega arith) (omega arith) long is c.loop-step.invariant.0,
      eight_kept old xs c.eight_gained-eight.result i _ (omega arith) long kept,
    )

pub loop-i-preserved : goal.loop-i-preserved
loop-i-preserved c =
    let old = c.args.frames.now in
    let v = c.args.volume in
    let i = c.loop-i.i in
    let xs = c.loop-i.frames in
    let kept = c.loop-i.invariant.1 in
    let is = c.gained_frame.ensures ∙ ap (map (gained v)) (kept i (omega arith)) in (
      one_filled (λ k. map (gained v) (get_or old k [])) xs c.gained_frame.result i _ (omega arith) (omega arith) is c.loop-i.invariant.0,
      one_kept old xs c.gained_frame.result i _ (omega arith) kept,
    )

pub returns : goal.returns
returns c =
    let old = c.args.frames.now in
    let v = c.args.volume in
    fill_by_all (λ k. map (gained v) (get_or old k [])) c.loop-i.frames (length old) [] (omega arith) (λ k h. c.loop-i.invariant.0 k (omega arith)) ∙ sym (gained_alone v old)
