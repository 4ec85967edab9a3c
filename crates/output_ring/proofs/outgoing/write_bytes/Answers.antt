use Rattle.std.proofs.Common.{rules}
use Rattle.std.proofs.lemmas.List.{take_rest}
use Rattle.output_ring.proofs.Sends.{takes_more}
use Rattle.output_ring.proofs.outgoing.write_bytes.Goals as goal

pub loop-done-preserved : goal.loop-done-preserved
loop-done-preserved g c = record {
  most = search rules;
  bytes = takes_more _ _ _ c.args.bytes.now _ c.loop-done.done c.in-Ok.more (take_rest c.args.bytes.now c.loop-done.done) c.loop-done.invariant.bytes c.in-Ok.ensures.bytes;
  calm = search rules;
}
