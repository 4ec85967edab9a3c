use Rattle.std.proofs.Common.{◌<◌, ℕ, sym, take, arith}
use Rattle.std.proofs.lemmas.List.Elements.{All-more, All-same}
use Rattle.play_order.proofs.Lists.{take-all}
use Rattle.play_order.proofs.ranks.are_new.Goals as goal

pub loop-id-preserved : goal.loop-id-preserved
loop-id-preserved c = All-more (λ (id : ℕ). c.args.greatest < id) c.args.ids.now c.loop-id.id-index 0 (omega arith) c.loop-id.invariant c.if-id-greatest.false

pub returns : goal.returns
returns c = λ t.
    All-same (λ (id : ℕ). c.args.greatest < id) c.args.ids.now (take c.loop-id.id-index c.args.ids.now) (sym (take-all c.args.ids.now c.loop-id.id-index (omega arith))) c.loop-id.invariant
