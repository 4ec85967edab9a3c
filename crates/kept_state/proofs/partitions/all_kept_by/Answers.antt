use Rattle.std.proofs.Common.{◌≡◌, true, map, refl, sym, subst, Some}
use Rattle.kept_state.specs.HeardPartitions.{KeepsAllIf}
use Rattle.kept_state.specs.Partitions.{same_texts}
use Rattle.kept_state.specs.declared.partitions.HeardPartition.{HeardPartition}
use Rattle.kept_state.proofs.partitions.all_kept_by.Goals as goal

pub returns-then-are_all : goal.returns-then-are_all
returns-then-are_all c =
    let all = c.in_ok-each_kept_by.field-0 in
    let is : same_texts c.args.heard.listed.items (map (λ (p : HeardPartition). p.name) c.args.heard.partitions.items) ≡ true = cc in
    subst (λ b. KeepsAllIf b c.args.heard (Some all)) (sym is) (all, refl, c.in_ok-each_kept_by.ensures)
