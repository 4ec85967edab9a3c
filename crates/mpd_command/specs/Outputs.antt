-- The table of commands of the outputs (MPD protocol reference, Audio output devices).
use Rattle.std.specs.Prelude.{List, [], ◌∷◌, codes}
use Rattle.mpd_text.specs.Answers.Number.{number_of}
use Rattle.mpd_command.specs.Tables.{Row, none, one}
use Rattle.mpd_command.specs.declared.outputs.OutputCommand.{OutputCommand}
use Rattle.mpd_command.specs.declared.outputs.OutputCommand.TheVariants as outputs

unfoldable pub rows : List (Row OutputCommand)
rows =
    (codes "disableoutput", one number_of outputs.DisableOutput)
    ∷ (codes "enableoutput", one number_of outputs.EnableOutput)
    ∷ (codes "outputs", none outputs.Outputs)
    ∷ (codes "toggleoutput", one number_of outputs.ToggleOutput)
    ∷ []
