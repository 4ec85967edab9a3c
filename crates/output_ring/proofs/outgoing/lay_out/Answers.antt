use Rattle.std.proofs.Common.{◌≡◌, ◌∙◌, ◌+◌, ◌++◌, [], ◌∷◌, length, take, get_or, ap, sym, arith}
use Rattle.std.proofs.lemmas.List.{take_more, length-replicate}
use Rattle.std.proofs.lemmas.List.Folds.{length-flat_map-take}
use Rattle.output_ring.specs.Runs.{run_cuts}
use Rattle.output_ring.proofs.Heard.{bytes-more, hand-more, length-more}
use Rattle.output_ring.proofs.Pairs.{length-push}
use Rattle.output_ring.proofs.outgoing.lay_out.Goals as goal

pub part-own-requires : goal.part-own-requires
part-own-requires c =
    let runs = c.args.runs.now in
    let i = c.loop-run.run-index in
    let run = c.run-item.result in
    let many : length (run_cuts (get_or runs i run)) ≡ run.count = ap (λ r. length (run_cuts r)) (sym c.run-item.is) ∙ length-replicate run.count run.cut in
    let few = length-flat_map-take run_cuts runs i run c.loop-run-test.true in
    omega (arith, many, few, c.loop-run.invariant.passed, c.requires.whole)

pub loop-run-preserved : goal.loop-run-preserved
loop-run-preserved c =
    let runs = c.args.runs.now in
    let i = c.loop-run.run-index in
    let run = c.run-item.result in
    let frames = c.args.frames.now in
    let taken : take (i + 1) runs ≡ take i runs ++ run ∷ [] = take_more runs i run c.loop-run-test.true ∙ ap (λ r. take i runs ++ r ∷ []) (sym c.run-item.is) in
    let more = hand-more c.args.live (take i runs) (take (i + 1) runs) run frames c.part-own.result.now c.loop-run.passed taken c.loop-run.invariant.passed c.part-own.ensures.count.1 c.part-own.ensures.value in
    record {
      passed = sym (length-push (take i runs) (take (i + 1) runs) run c.loop-run.passed taken (sym c.loop-run.invariant.passed));
      few = omega (arith, c.lay_run-count.ensures.count.1, c.part-own.ensures.count.0, c.loop-run.invariant.few);
      count = length-more c.loop-run.count _ _ _ _ c.lay_run-count.ensures.count.0 c.loop-run.invariant.count more;
      bytes = bytes-more _ _ _ _ _ c.lay_run-count.ensures.bytes c.loop-run.invariant.bytes more;
      length = c.lay_run-count.ensures.length ∙ c.loop-run.invariant.length;
    }
