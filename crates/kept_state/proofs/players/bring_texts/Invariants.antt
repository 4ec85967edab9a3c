use Rattle.std.proofs.Common.{◌≡◌, string_bytes, take}
use Rattle.std.specs.List.{flat_map}
use Rattle.kept_state.specs.Players.{bring_text}
use Rattle.kept_state.proofs.players.bring_texts.Given as goal

abbrev pub invariant-loop-output : goal.invariant-loop-output
invariant-loop-output l = string_bytes l.text ≡ flat_map bring_text (take l.output-index l.outputs)
