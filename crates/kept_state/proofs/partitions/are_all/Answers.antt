use Rattle.std.proofs.Common.{◌∙◌, map, sym}
use Rattle.std.proofs.lemmas.List.{length-map}
use Rattle.kept_state.specs.declared.partitions.HeardPartition.{HeardPartition}
use Rattle.kept_state.proofs.Sections.{other_length}
use Rattle.kept_state.proofs.partitions.are_all.Goals as goal

pub returns-then-listed-partitions : goal.returns-then-listed-partitions
returns-then-listed-partitions c =
    let name = λ (p : HeardPartition). p.name in
    sym (other_length c.args.listed.now (map name c.args.partitions.now) (λ is. c.if-listed-partitions.true (is ∙ length-map c.args.partitions.now name)))
