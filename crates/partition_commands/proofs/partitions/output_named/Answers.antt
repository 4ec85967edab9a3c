use Rattle.std.proofs.Common.{◌≡◌, ◌∙◌, ℕ, ◌≤◌, ap, List, [], ◌∷◌, length, get_or, map, position, arith}
use Rattle.std.specs.Str.{bytes_eq}
use Rattle.player_state.specs.declared.state.Part.{Part}
use Rattle.partition_table.specs.Parts.{known}
use Rattle.partition_commands.specs.Partitions.{output_named}
use Rattle.partition_commands.proofs.partitions.output_named.Goals as goal

-- the first partition names the outputs
first-names : (name : List ℕ) (ps : List Part) (p : Part) → 1 ≤ length ps → p ≡ get_or ps 0 p → position (λ own. bytes_eq own name) p.outputs.names ≡ output_named name (map known ps)
first-names name [] p some is = absurd (omega arith)
first-names name (q ∷ ps) p some is = ap (λ (x : Part). position (λ own. bytes_eq own name) x.outputs.names) is

pub returns-in-len1-up : goal.returns-in-len1-up
returns-in-len1-up c =
    let name = c.args.name.now in
    c.index_among.ensures ∙ ap (λ (names : List (List ℕ)). position (λ own. bytes_eq own name) names) c.names.ensures
    ∙ first-names name c.items.result.now c.part-item.result c.in-len1-up.len_at_least c.part-item.is
    ∙ ap (λ (ps : List Part). output_named name (map known ps)) c.items.ensures
