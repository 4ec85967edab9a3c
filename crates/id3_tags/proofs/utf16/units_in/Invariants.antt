-- The units so far and those that are left are those of all bytes.
use Rattle.std.proofs.Common.{◌≡◌, length}
use Rattle.id3_tags.specs.Encodings.{units_in}
use Rattle.id3_tags.proofs.Spelling.{after_items}
use Rattle.id3_tags.proofs.utf16.units_in.Given as goal

abbrev pub invariant-loop-rest : goal.invariant-loop-rest
invariant-loop-rest l = after_items l.units.items (units_in l.order l.rest) ≡ units_in l.order l.bytes

abbrev pub decreases-loop-rest : goal.decreases-loop-rest
decreases-loop-rest l = length l.rest
