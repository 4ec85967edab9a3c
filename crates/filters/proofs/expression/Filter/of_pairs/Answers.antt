use Rattle.filters.proofs.PairLaws.{pairs_mean}
use Rattle.filters.proofs.expression.Filter.of_pairs.Goals as goal

pub returns : goal.returns
returns c = pairs_mean c.args.vocabulary c.args.test c.args.pairs.now c.read_pairs.result c.read_pairs.ensures
