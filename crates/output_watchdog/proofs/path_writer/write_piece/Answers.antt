use Rattle.std.proofs.Common.{rules}
use Rattle.std.proofs.lemmas.List.{take_rest}
use Rattle.output_watchdog.proofs.PathWrites.{takes_more}
use Rattle.output_watchdog.proofs.path_writer.write_piece.Goals as goal

pub loop-preserved-in-Ok : goal.loop-preserved-in-Ok
loop-preserved-in-Ok g c = record {
  most = search rules;
  bytes = takes_more _ _ _ c.args.piece.now _ c.loop.done c.in-Ok.count (take_rest c.args.piece.now c.loop.done) c.loop.invariant.bytes c.in-Ok.ensures.bytes;
}
