use Rattle.std.proofs.Common.{◌≡◌, string_bytes, take}
use Rattle.std.specs.List.{flat_map}
use Rattle.kept_state.specs.Players.{default_text}
use Rattle.kept_state.proofs.players.default_texts.Given as goal

abbrev pub invariant-loop-partition : goal.invariant-loop-partition
invariant-loop-partition l = string_bytes l.text ≡ flat_map default_text (take l.partition-index l.partitions)
