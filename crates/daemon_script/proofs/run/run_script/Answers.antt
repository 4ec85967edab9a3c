use Rattle.daemon_script.proofs.Outputs.{ok_traced, all_traced, err_traced}
use Rattle.daemon_script.proofs.run.run_script.Goals as goal

pub returns-clause-ok : goal.returns-clause-ok
returns-clause-ok g c = ok_traced c.runs_are_traced.ensures _ _ _ _ c.run_pieces.ensures.ok

pub returns-clause-read : goal.returns-clause-read
returns-clause-read g c = λ failed. all_traced c.runs_are_traced.ensures _ _ _ _ (c.run_pieces.ensures.read failed)

pub returns-clause-front : goal.returns-clause-front
returns-clause-front g c = err_traced c.runs_are_traced.ensures _ _ _ _ _ c.run_pieces.ensures.front
