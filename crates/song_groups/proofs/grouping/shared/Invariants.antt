use Rattle.std.proofs.Common.{◌≡◌, ◌+◌, drop, length}
use Rattle.std.specs.Prelude.{map, nat_eq}
use Rattle.std.specs.List.{common_prefix_len}
use lib.Pointwise.{pointwise}
use Rattle.song_groups.proofs.grouping.shared.Given as goal

abbrev pub invariant-loop-a : goal.invariant-loop-a
invariant-loop-a l = record {
  counted : l.shared ≡ length l.yielded;
  same : common_prefix_len (pointwise nat_eq) (map (λ t. t.now) l.before) (map (λ t. t.now) l.tuple) ≡ l.shared + common_prefix_len (pointwise nat_eq) (map (λ t. t.now) (drop l.shared l.before)) (map (λ t. t.now) (drop l.shared l.tuple));
}
