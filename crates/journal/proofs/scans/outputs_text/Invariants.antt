use Rattle.std.specs.Prelude.{◌≡◌, string_bytes, take}
use Rattle.std.specs.List.{flat_map}
use Rattle.journal.specs.Scans as scans
use Rattle.journal.proofs.scans.outputs_text.Given as goal

abbrev pub invariant-outputs : goal.invariant-outputs
invariant-outputs l = string_bytes l.text ≡ flat_map scans.output_text (take l.output-index l.outputs)
