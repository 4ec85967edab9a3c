use Rattle.daemon_script.proofs.Ran.{Ran}
use Rattle.daemon_script.proofs.run.run_pieces.Given as goal

abbrev pub invariant-loop : goal.invariant-loop
invariant-loop g l =
    Ran (g.R.Read.remaining l.initial.reader) (g.R.Read.remaining l.reader) (g.W.Write.contents l.initial.writer) (g.W.Write.contents l.writer) l.splitter l.script l.counter
    (g.R.Failing.call_counts l.initial.reader) (g.R.Failing.call_counts l.reader) (g.W.Failing.call_counts l.initial.writer) (g.W.Failing.call_counts l.writer)
