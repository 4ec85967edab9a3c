use Rattle.std.proofs.Common.{◌≡◌, string_bytes, take}
use Rattle.kept_state.specs.Texts.{output_text}
use Rattle.kept_state.proofs.text.output_text.Given as goal

abbrev pub invariant-loop-output : goal.invariant-loop-output
invariant-loop-output l = string_bytes l.text ≡ output_text (take l.output-index l.outputs)
