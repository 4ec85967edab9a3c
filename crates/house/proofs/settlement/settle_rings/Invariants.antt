use Rattle.std.proofs.Common.{◌≡◌, ◌+◌, length, vec_len, vec_capacity}
use Rattle.std.specs.Vec.Iter.{into_iter_items, into_iter_len}
use Rattle.frame_ledger.specs.Shares.{KeepsParts}
use Rattle.house.specs.Settling.{HaveAllOutputs, numbers_in, settled_books}
use Rattle.house.proofs.InTurn.{GoesOn}
use Rattle.house.proofs.settlement.settle_rings.Given as goal

abbrev pub invariant-loop-ring : goal.invariant-loop-ring
invariant-loop-ring g l = record {
  capacity : vec_capacity l.results ≡ vec_capacity l.initial.results;
  count : vec_len l.results + into_iter_len l.ring-iterator ≡ into_iter_len l.initial.ring-iterator;
  left : length (into_iter_items l.ring-iterator) ≡ into_iter_len l.ring-iterator;
  outputs : HaveAllOutputs (numbers_in l.books);
  decoded : l.books.decoded ≡ l.initial.books.decoded;
  parts : KeepsParts l.initial.shares l.shares;
  books : settled_books (vec_len l.results) (into_iter_items l.ring-iterator) (numbers_in l.books) ≡ settled_books 0 (into_iter_items l.initial.ring-iterator) (numbers_in l.initial.books);
  settles : GoesOn (numbers_in l.initial.books) (into_iter_items l.initial.ring-iterator) (vec_len l.results) (numbers_in l.books) (into_iter_items l.ring-iterator) l.results.items;
}
