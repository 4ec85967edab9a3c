use Rattle.std.proofs.Common.{length}
use Rattle.daemon_script.proofs.Writes.{Written}
use Rattle.daemon_script.proofs.run.write_whole.Given as goal

abbrev pub invariant-loop-rest : goal.invariant-loop-rest
invariant-loop-rest g l =
    Written (g.W.Write.contents l.initial.writer) (g.W.Write.contents l.writer) l.bytes l.rest (g.W.Failing.call_counts l.initial.writer) (g.W.Failing.call_counts l.writer)

abbrev pub decreases-loop-rest : goal.decreases-loop-rest
decreases-loop-rest g l = length l.rest
