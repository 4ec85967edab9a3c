use Rattle.std.proofs.Common.{◌≡◌, map}
use Rattle.std.specs.Map.Iter.{deref_pair}
use Rattle.shelf.specs.Entries.{entry_texts}
use Rattle.shelf.proofs.StickerLemmas.{pair_texts}
use Rattle.shelf.proofs.stickers.all_entries.Given as goal

abbrev pub invariant-loop-name : goal.invariant-loop-name
invariant-loop-name l = map entry_texts l.entries.items ≡ map (λ e. pair_texts (deref_pair e)) l.yielded
