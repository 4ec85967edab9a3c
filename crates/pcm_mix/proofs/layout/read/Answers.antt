use Rattle.std.proofs.Common.{arith, ℕ, ℤ, List, ◌≡◌, ◌+◌, ◌*◌, ◌<◌, length, ap, []}
use Rattle.std.proofs.lemmas.List.Edits.{fill_by_more}
use Rattle.std.proofs.lemmas.List.FromFn.{fill_by_all}
use Rattle.pcm_mix.proofs.Eights.{eight_filled, ranged}
use Rattle.pcm_mix.specs.Layouts.{frame_at}
use Rattle.pcm_mix.proofs.layout.read.Goals as goal

pub loop-step-preserved : goal.loop-step-preserved
loop-step-preserved c =
    let f : ℕ → List ℤ = frame_at c.args.depth c.args.channels c.args.bytes.now in
    let i : ℕ = 8 * c.loop-step.step in
    let eight = c.eight_frames-eight.result in
    let long : length eight ≡ 8 = ap length c.eight_frames-eight.ensures in
    let is = λ (j : ℕ) (less : j < 8). ranged (λ j. f (i + j)) eight 8 j less c.eight_frames-eight.ensures in
    rw c.put_eight.ensures (eight_filled f c.loop-step.frames eight i _ (omega arith) (omega arith) long is c.loop-step.invariant)

pub loop-i-preserved : goal.loop-i-preserved
loop-i-preserved c =
    let within : c.loop-i.i < length c.loop-i.frames = omega arith in
    rw c.frame_at.ensures (fill_by_more (frame_at c.args.depth c.args.channels c.args.bytes.now) c.loop-i.frames c.loop-i.i [] within c.loop-i.invariant)

pub returns : goal.returns
returns c = fill_by_all (frame_at c.args.depth c.args.channels c.args.bytes.now) c.loop-i.frames _ [] (omega arith) (λ k h. c.loop-i.invariant k (omega arith))
