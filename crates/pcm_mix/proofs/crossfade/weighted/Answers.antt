use Rattle.std.proofs.Common.{arith}
use Rattle.std.proofs.lemmas.Grind.{common_steps}
use Rattle.pcm_mix.proofs.Quotients.{least_product, most_product}
use Rattle.pcm_mix.proofs.crossfade.weighted.Goals as goal

pub returns-clause-value : goal.returns-clause-value
returns-clause-value c = grind (arith, common_steps)

pub returns-clause-least : goal.returns-clause-least
returns-clause-least c = rw (returns-clause-value c) (least_product c.args.sample c.args.weight c.ranges.sample)

pub returns-clause-most : goal.returns-clause-most
returns-clause-most c = rw (returns-clause-value c) (most_product c.args.sample c.args.weight c.ranges.sample)
