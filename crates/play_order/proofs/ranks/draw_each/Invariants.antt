use Rattle.std.proofs.Common.{◌≡◌, ◌+◌, ◌≤◌, ◌++◌, length, take, vec_len, vec_capacity}
use Rattle.std.specs.HashMap.{spare}
use Rattle.play_order.specs.Draws.{generator_after, ranks_drawn}
use Rattle.play_order.specs.Scans.{FindsRanks, KeepsNoGone, LeavesMore, ranks_left}
use Rattle.play_order.proofs.ranks.draw_each.Given as goal

abbrev pub invariant-loop-id : goal.invariant-loop-id
invariant-loop-id l = record {
  items : l.drawn.items ≡ l.initial.drawn.items ++ ranks_drawn l.initial.generator (take l.id-index l.ids);
  ranks : LeavesMore l.initial.by_id l.initial.drawn.items l.by_id l.drawn.items (ranks_drawn l.initial.generator (take l.id-index l.ids));
  generator : l.generator ≡ generator_after l.initial.generator (take l.id-index l.ids);
  finds : FindsRanks l.by_id (ranks_left l.by_id l.drawn.items);
  none_gone : KeepsNoGone l.by_id l.drawn.items l.ids;
  room : vec_len l.drawn + length l.ids ≤ vec_capacity l.drawn + l.id-index;
  spare : length l.ids ≤ spare l.by_id + l.id-index;
}
