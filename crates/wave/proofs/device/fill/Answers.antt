use Rattle.std.proofs.Common.{arith, rules, ◌∙◌}
use Rattle.wave.proofs.Filling.{reads_more}
use Rattle.wave.proofs.device.fill.Goals as goal

pub loop-got-preserved : goal.loop-got-preserved
loop-got-preserved g c = record {
  within = search rules;
  bytes = reads_more _ _ _ c.loop-got.got _ c.in-Ok.n c.loop-got.buf c.read_here.new.buf (omega arith) (omega (arith, c.in-Ok.ensures.bound)) c.loop-got.invariant.bytes c.in-Ok.ensures.bytes.0;
  stays = c.in-Ok.ensures.stays ∙ c.loop-got.invariant.stays;
  keeps = λ h. omega (arith, c.in-Ok.ensures.calls, c.loop-got.invariant.keeps h);
  calm = (omega (arith, c.in-Ok.ensures.calm), omega (arith, c.in-Ok.ensures.calm), omega (arith, c.in-Ok.ensures.calm));
}
