use Rattle.std.proofs.Common.{rules}
use Rattle.std.proofs.lemmas.Result.{on_ok_weaker}
use Rattle.song_groups.proofs.Orders.{by_numbers, by_texts, one_order}
use Rattle.song_groups.proofs.sorting.order.Goals as goal

pub returns-then-goes_by_number-clause-order : goal.returns-then-goes_by_number-clause-order
returns-then-goes_by_number-clause-order c = on_ok_weaker c.order_by_number.result (by_numbers c.args.by c.args.falling _ _ (search rules)) c.order_by_number.ensures.order

pub returns-then-goes_by_number-clause-ok : goal.returns-then-goes_by_number-clause-ok
returns-then-goes_by_number-clause-ok c = on_ok_weaker c.order_by_number.result (λ r. one_order c.args.by c.args.falling _ _ r) (returns-then-goes_by_number-clause-order c)

pub returns-else-goes_by_number-clause-order : goal.returns-else-goes_by_number-clause-order
returns-else-goes_by_number-clause-order c = on_ok_weaker c.order_by_text.result (by_texts c.args.by c.args.falling _ _ (search rules)) c.order_by_text.ensures.order

pub returns-else-goes_by_number-clause-ok : goal.returns-else-goes_by_number-clause-ok
returns-else-goes_by_number-clause-ok c = on_ok_weaker c.order_by_text.result (λ r. one_order c.args.by c.args.falling _ _ r) (returns-else-goes_by_number-clause-order c)
