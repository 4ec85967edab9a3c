-- The lines of names that stand behind references.
use Rattle.std.proofs.Common.{◌≡◌, ℕ, Bool, List, ap, map, sym, ◌∙◌, Bor}
use Rattle.std.specs.List.{flat_map}
use Rattle.std.proofs.lemmas.List.Folds.{flat_map-map}
use Rattle.mpd_command.specs.declared.command_set.CommandSet.{CommandSet}
use Rattle.status_commands.specs.Connection.{command_line}

pub lines_of_names : (set : CommandSet) (forbidden : Bool) (texts : List (Bor (List ℕ))) (names : List (List ℕ)) → map (λ text. text.now) texts ≡ names
    → flat_map (λ text. command_line set forbidden text.now) texts ≡ flat_map (command_line set forbidden) names
lines_of_names set forbidden texts names same =
    sym (flat_map-map (command_line set forbidden) (λ text. text.now) texts) ∙ ap (flat_map (command_line set forbidden)) same
