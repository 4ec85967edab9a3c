use Rattle.std.proofs.Common.{rules}
use Rattle.std.proofs.lemmas.Fn.{always_returns_same}
use Rattle.std.proofs.lemmas.Result.{on_ok_weaker}
use Rattle.song_groups.specs.Order.{number_key}
use Rattle.song_groups.proofs.Orders.{before, weak, stable_from}
use Rattle.song_groups.proofs.sorting.order_by_number.Goals as goal

pub returns-clause-order : goal.returns-clause-order
returns-clause-order c =
    on_ok_weaker c.sort_by.result (λ sorted. stable_from (number_key c.args.by) c.args.falling _ _ c.sort_by.ensures.permutation
    (sorted (before (number_key c.args.by) c.args.falling) (weak (number_key c.args.by) c.args.falling) (always_returns_same _ _ _ (λ a r f called. search rules)))
    (c.sort_by.ensures.stable (before (number_key c.args.by) c.args.falling) (weak (number_key c.args.by) c.args.falling) (always_returns_same _ _ _ (λ a r f called. search rules))))
    c.sort_by.ensures.sorted
