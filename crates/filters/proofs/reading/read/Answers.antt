use Rattle.std.proofs.Common.{◌≡◌, ℕ, ◌+◌, length, get_or, drop, true, subst, arith}
use Rattle.std.proofs.lemmas.List.{drop_more, drop_all}
use Rattle.filters.specs.Machine.{Reads, run, parsed, IsCut}
use Rattle.filters.proofs.Runs.{next_byte, stopped, ended}
use Rattle.filters.proofs.Cuts.{cut_on, can_take, can_end}
use Rattle.filters.proofs.reading.read.Goals as goal

pub step-requires : goal.step-requires
step-requires c = can_take c.loop-i.state (get_or c.args.text.now c.loop-i.i 0) (drop (c.loop-i.i + 1) c.args.text.now) (subst (IsCut c.loop-i.state) (drop_more c.args.text.now c.loop-i.i 0 (omega arith)) c.loop-i.invariant.cut)

pub returns-in-Err : goal.returns-in-Err
returns-in-Err c =
    rw c.fault.ensures (stopped c.args.vocabulary c.args.text.now c.loop-i.i c.loop-i.state c.loop-i.purposes c.step.new.purposes c.in-Err.stop (parsed c.args.vocabulary c.args.text.now) (omega arith) c.in-Err.ensures c.loop-i.invariant.run)

pub loop-i-preserved : goal.loop-i-preserved
loop-i-preserved c = record {
  run = next_byte c.args.vocabulary c.args.text.now c.loop-i.i c.loop-i.state c.loop-i.purposes c.in-Ok.next c.step.new.purposes (parsed c.args.vocabulary c.args.text.now) (omega arith) c.in-Ok.ensures c.loop-i.invariant.run;
  cut = cut_on c.args.vocabulary c.loop-i.state c.loop-i.purposes (get_or c.args.text.now c.loop-i.i 0) (drop (c.loop-i.i + 1) c.args.text.now) c.in-Ok.next c.step.new.purposes
      (subst (IsCut c.loop-i.state) (drop_more c.args.text.now c.loop-i.i 0 (omega arith)) c.loop-i.invariant.cut) c.in-Ok.ensures;
}

pub end-requires : goal.end-requires
end-requires c = can_end c.loop-i.state (subst (IsCut c.loop-i.state) (drop_all c.loop-i.i c.args.text.now (omega arith)) c.loop-i.invariant.cut)

pub returns : goal.returns
returns c =
    let whole : c.loop-i.i ≡ length c.args.text.now = omega arith in
    let inv : run c.args.vocabulary true (length c.args.text.now) c.loop-i.state c.loop-i.purposes (drop (length c.args.text.now) c.args.text.now) ≡ parsed c.args.vocabulary c.args.text.now =
    subst (λ (n : ℕ). run c.args.vocabulary true n c.loop-i.state c.loop-i.purposes (drop n c.args.text.now) ≡ parsed c.args.vocabulary c.args.text.now) whole c.loop-i.invariant.run in
    subst (Reads c.end.result) (ended c.args.vocabulary c.args.text.now c.loop-i.state c.loop-i.purposes (parsed c.args.vocabulary c.args.text.now) inv) c.end.ensures
