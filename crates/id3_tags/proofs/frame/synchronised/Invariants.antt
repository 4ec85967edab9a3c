-- What is kept so far, and what is left of the rest, is what is left of all bytes.
use Rattle.std.proofs.Common.{◌≡◌, ◌++◌, drop}
use Rattle.id3_tags.specs.Frames.{synchronised, synchronised_after}
use Rattle.id3_tags.proofs.frame.synchronised.Given as goal

abbrev pub invariant-loop-byte : goal.invariant-loop-byte
invariant-loop-byte l = l.kept.items ++ synchronised_after l.last (drop l.byte-index l.bytes) ≡ synchronised l.bytes
