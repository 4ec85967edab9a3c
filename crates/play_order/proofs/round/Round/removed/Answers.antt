use Rattle.std.proofs.Common.{◌∙◌, sym}
use Rattle.play_order.proofs.Going.{without-empty}
use Rattle.play_order.proofs.round.Round.removed.Goals as goal

pub returns-then-is_empty : goal.returns-then-is_empty
returns-then-is_empty c = without-empty c.args.self.now c.args.ids.now (sym c.is_empty.ensures ∙ c.if-is_empty.true)
