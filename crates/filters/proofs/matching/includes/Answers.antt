use Rattle.std.proofs.lemmas.Str.Pattern.{contains_text}
use Rattle.filters.proofs.matching.includes.Goals as goal

pub returns : goal.returns
returns c = contains_text c.contains.result c.args.value.now c.args.text.now c.contains.ensures.cases
