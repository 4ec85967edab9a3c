use Rattle.std.proofs.Common.{◌≡◌, cond, rules}
use Rattle.std.specs.List.{dedup}
use Rattle.std.proofs.lemmas.Fn.{always_returns_same, dedup_same}
use Rattle.std.proofs.lemmas.List.MinMax.{ranks_by}
use Rattle.std.proofs.lemmas.Cmp.{nat_list_cmp_total}
use Rattle.std.specs.Ordering.{is_lt}
use Rattle.library_scan.specs.Contents.{is_read_fault}
use Rattle.library_scan.specs.declared.scanned.Refused.{Refused}
use Rattle.library_scan.proofs.Once.{by_text, one_text, order, among, each}
use Rattle.library_scan.proofs.Unread.{fewer_left}
use Rattle.library_scan.proofs.order.sort_refused.Goals as goal

left : (c : goal.After-dedup_by) → c.dedup_by.new.self.items ≡ dedup (one_text (λ (x : Refused). x.uri)) c.sort_unstable_by.new.self.items
left c = dedup_same _ (one_text (λ (x : Refused). x.uri)) _ (λ x y b f a d k. search rules) _ _ c.dedup_by.ensures.filtered

pub returns-clause-order : goal.returns-clause-order
returns-clause-order c =
    order (λ (x : Refused). x.uri) _ _ _ c.sort_unstable_by.ensures.permutation (left c)
    (c.sort_unstable_by.ensures.sorted (λ a b. is_lt (by_text (λ (x : Refused). x.uri) a b)) (ranks_by nat_list_cmp_total (λ (x : Refused). x.uri)) (always_returns_same _ _ _ (λ a r f called. search rules)))

pub returns-clause-among : goal.returns-clause-among
returns-clause-among c = among (λ (x : Refused). x.uri) _ _ _ c.sort_unstable_by.ensures.permutation (left c)

pub returns-clause-each : goal.returns-clause-each
returns-clause-each c = each (λ (x : Refused). x.uri) _ _ _ c.sort_unstable_by.ensures.permutation (left c)

pub returns-clause-unread : goal.returns-clause-unread
returns-clause-unread c = fewer_left (λ (x : Refused). cond (is_read_fault x.refusal) 1 0) (one_text (λ (x : Refused). x.uri)) _ _ _ c.sort_unstable_by.ensures.permutation (left c)
