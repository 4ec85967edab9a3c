use Rattle.std.proofs.Common.{rules, ◌==◌, not}
use Rattle.std.proofs.lemmas.Fn.{filter_same}
use Rattle.partition_table.proofs.crossing.close.Goals as goal

pub returns-clause-items : goal.returns-clause-items
returns-clause-items c = filter_same _ (λ part. not (part.index == c.args.index)) _ (λ x b f h. search rules) _ _ c.retain.ensures.filtered
