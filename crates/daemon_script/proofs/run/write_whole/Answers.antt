use Rattle.std.proofs.lemmas.List.{take_rest}
use Rattle.daemon_script.proofs.Writes.{more_written, calm_both}
use Rattle.daemon_script.proofs.run.write_whole.Goals as goal

pub loop-rest-preserved : goal.loop-rest-preserved
loop-rest-preserved g c =
    more_written _ _ _ _ c.loop-rest.rest.now _ c.in-Ok.n _ _ _ c.loop-rest.invariant c.in-Ok.ensures.bytes (take_rest c.loop-rest.rest.now c.in-Ok.n) c.write_some.ensures.calm

pub returns-in-Ok-eq0-clause-calm : goal.returns-in-Ok-eq0-clause-calm
returns-in-Ok-eq0-clause-calm g c = calm_both _ _ _ c.loop-rest.invariant.calm c.write_some.ensures.calm

pub returns-in-Err-clause-calm : goal.returns-in-Err-clause-calm
returns-in-Err-clause-calm g c = calm_both _ _ _ c.loop-rest.invariant.calm c.write_some.ensures.calm
