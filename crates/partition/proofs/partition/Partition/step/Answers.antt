use Rattle.partition.proofs.Stepped.{step_joins, step_refused, step_told, step_within}
use Rattle.partition.proofs.partition.Partition.step.Goals as goal

pub returns-clause-told : goal.returns-clause-told
returns-clause-told c =
    step_told _ _ c.args.self.now c.apply.new.self c.new-unasked.result c.apply.new.shelf c.args.seat c.args.event c.requires.step c.apply.result c.apply.ensures.ok

pub returns-clause-player : goal.returns-clause-player
returns-clause-player c =
    step_joins _ _ c.args.self.now c.apply.new.self c.new-unasked.result c.apply.new.shelf c.args.seat c.args.event c.requires.step c.apply.result
    c.apply.ensures.base c.apply.ensures.limit c.apply.ensures.ok

pub returns-clause-within : goal.returns-clause-within
returns-clause-within c =
    step_within _ _ c.args.self.now c.apply.new.self c.new-unasked.result c.apply.new.shelf c.args.seat c.args.event c.requires.step c.apply.result c.apply.ensures.ok

pub returns-clause-refused : goal.returns-clause-refused
returns-clause-refused c =
    step_refused _ _ c.args.self.now c.apply.new.self c.new-unasked.result c.apply.new.shelf c.args.seat c.args.event c.requires.step c.apply.result c.apply.ensures.refused
