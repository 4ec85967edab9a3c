use Rattle.std.proofs.Common.{rules}
use Rattle.daemon_script.proofs.Ranges.{limit_at_least_one}
use Rattle.daemon_script.proofs.script.Script.run_step.Goals as goal

pub lower-requires : goal.lower-requires
lower-requires c = limit_at_least_one c.args.self.now.commands.everyday c.args.rest.now c.in-Ok-Some-Limit.name c.in-Ok-Some-Limit.n (search rules)
