use Rattle.std.proofs.Common.{◌≡◌, take}
use Rattle.std.specs.BTreeSet.{contains}
use Rattle.play_order.specs.Waits.{Key, has_key, key_cmp, unplayed_keys}
use Rattle.play_order.proofs.waiting.unplayed_of.Given as goal

abbrev pub invariant-loop-key : goal.invariant-loop-key
invariant-loop-key l = (k : Key) → contains key_cmp l.keys k ≡ has_key (unplayed_keys l.played (take l.key-index l.known)) k
