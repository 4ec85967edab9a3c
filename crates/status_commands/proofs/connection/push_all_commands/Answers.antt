use Rattle.std.proofs.Common.{ℕ, List, ◌++◌, Result, Ok, Err, ap, ◌∙◌}
use Rattle.std.specs.Prelude.{OnOk}
use Rattle.mpd_command.specs.Names.{all_names}
use Rattle.status_commands.specs.Connection.{command_lines}
use Rattle.status_commands.proofs.Names.{lines_of_names}
use Rattle.status_commands.proofs.connection.push_all_commands.Goals as goal

on_ok : {X E P Q : Type 0} (r : Result X E) → (P → Q) → OnOk r P → OnOk r Q
on_ok (Ok x) more p = more p
on_ok (Err e) more p = tt

pub returns : goal.returns
unfolding command_lines
returns c =
    on_ok c.push_commands.result
    (λ same. same ∙ ap (λ (lines : List ℕ). c.args.answer.now ++ lines) (lines_of_names c.args.set c.args.forbidden c.names.result.now all_names c.names.ensures))
    c.push_commands.ensures
