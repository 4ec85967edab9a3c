use Rattle.rtrb.specs.Ring.{received}
use Rattle.output_watchdog.specs.PathWriting.{WritesAll}
use Rattle.output_watchdog.proofs.path_writer.copy_to_path.Given as goal

abbrev pub invariant-loop : goal.invariant-loop
invariant-loop g l =
    WritesAll (received l.fn.arguments.consumer) (received l.consumer) (g.W.Write.contents l.fn.path) (g.W.Write.contents l.path)
