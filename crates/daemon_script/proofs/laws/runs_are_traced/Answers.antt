use Rattle.daemon_script.proofs.Traces.{runs_are_traced}
use Rattle.daemon_script.proofs.laws.runs_are_traced.Goals as goal

pub returns : goal.returns
returns c = runs_are_traced c.replays_worlds.ensures
