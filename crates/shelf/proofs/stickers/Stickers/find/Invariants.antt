use Rattle.std.proofs.Common.{◌≡◌, map, flat_map}
use Rattle.std.specs.Map.Iter.{deref_pair}
use Rattle.shelf.specs.Entries.{entry_texts}
use Rattle.shelf.proofs.StickerLemmas.{found_at}
use Rattle.shelf.proofs.stickers.Stickers.find.Given as goal

abbrev pub invariant-loop-target : goal.invariant-loop-target
invariant-loop-target l = map entry_texts l.found.items ≡ flat_map (λ e. found_at l.fn.name (deref_pair e)) l.yielded
