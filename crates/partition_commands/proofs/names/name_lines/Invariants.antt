use Rattle.std.proofs.Common.{◌≡◌, ◌++◌, drop, codes}
use Rattle.std.specs.Prelude.{map}
use Rattle.std.specs.List.{flat_map}
use Rattle.mpd_text.specs.Answers.Answer.{pair_line}
use Rattle.partition_commands.proofs.names.name_lines.Given as goal

abbrev pub invariant-loop-name : goal.invariant-loop-name
invariant-loop-name l =
    l.lines ++ flat_map (pair_line (codes "partition")) (map (λ t. t.now) (drop l.name-index l.names))
    ≡ flat_map (pair_line (codes "partition")) (map (λ t. t.now) l.names)
