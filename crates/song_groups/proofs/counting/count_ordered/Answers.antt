use Rattle.std.proofs.Common.{rules, ◌≡◌, true, false, refl, take}
use Rattle.std.specs.List.Sorted.{IsPartitionPoint}
use Rattle.std.proofs.lemmas.Fn.{always_returns_same}
use Rattle.std.proofs.lemmas.List.{take_rest}
use Rattle.song_groups.specs.Columns.{text_in}
use Rattle.song_groups.proofs.GroupLists.{at_text, apart_here, not_none, one_more, grown, still_sorted, less_left, none_left}
use Rattle.song_groups.proofs.counting.count_ordered.Goals as goal

parted : (c : goal.After-rest-1) → IsPartitionPoint (λ r. at_text c.args.column (text_in c.args.column c.in-Some.first.now.now) r ≡ true) (λ r. at_text c.args.column (text_in c.args.column c.in-Some.first.now.now) r ≡ false) c.loop-first.rest.now c.partition_point-end.result
parted c =
    c.partition_point-end.ensures.partitioned (at_text c.args.column (text_in c.args.column c.in-Some.first.now.now)) (always_returns_same _ _ _ (λ a r f called. search rules))
    (apart_here _ _ _ _ c.in-Some.ensures.cases.0 c.loop-first.invariant.order)

pub loop-first-smaller : goal.loop-first-smaller
loop-first-smaller c =
    less_left c.loop-first.rest.now _ c.partition_point-end.result c.partition_point-end.ensures.bound (not_none _ _ _ _ _ c.in-Some.ensures.cases.0 (parted c)) (take_rest c.loop-first.rest.now c.partition_point-end.result)

pub loop-first-preserved : goal.loop-first-preserved
loop-first-preserved c = record {
  order = still_sorted _ c.loop-first.rest.now _ c.partition_point-end.result c.partition_point-end.ensures.bound c.loop-first.invariant.order (take_rest c.loop-first.rest.now c.partition_point-end.result);
  all =
      one_more _ _ c.loop-first.rest.now _ _ c.partition_point-end.result c.in-Some.ensures.cases.0 c.loop-first.invariant.order (parted c)
      (take c.partition_point-end.result c.loop-first.rest.now) _ refl (take_rest c.loop-first.rest.now c.partition_point-end.result) _ _ _ c.loop-first.invariant.all
      (grown c.loop-first.found.items c.push.new.self.items (record { text = c.text_in-text.result; count = c.count_of-count.result }) _ _ (search rules) (search rules) (search rules));
}

pub returns : goal.returns
returns c = none_left _ _ _ _ _ (search rules) c.loop-first.invariant.all
