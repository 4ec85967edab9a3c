use Rattle.std.proofs.Common.{◌≡◌, ◌++◌, drop, codes}
use Rattle.std.specs.Prelude.{map}
use Rattle.std.specs.List.{flat_map}
use Rattle.mpd_text.specs.Answers.Answer.{pair_line}
use Rattle.library_commands.proofs.database.folder_lines.Given as goal

abbrev pub invariant-loop-folder : goal.invariant-loop-folder
invariant-loop-folder l =
    l.lines ++ flat_map (pair_line (codes "directory")) (map (λ t. t.now) (drop l.folder-index l.folders))
    ≡ flat_map (pair_line (codes "directory")) (map (λ t. t.now) l.folders)
