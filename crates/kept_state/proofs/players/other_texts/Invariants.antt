use Rattle.std.proofs.Common.{◌≡◌, string_bytes, take}
use Rattle.std.specs.List.{flat_map}
use Rattle.kept_state.specs.Players.{other_text}
use Rattle.kept_state.proofs.players.other_texts.Given as goal

abbrev pub invariant-loop-partition : goal.invariant-loop-partition
invariant-loop-partition l = string_bytes l.text ≡ flat_map other_text (take l.partition-index l.partitions)
