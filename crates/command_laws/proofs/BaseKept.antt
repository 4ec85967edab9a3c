-- In the base profile no client chooses tags.
use Rattle.std.proofs.Common.{◌≡◌, ◌∙◌, false, refl}
use Rattle.mpd_command.specs.declared.command.Command.{Command}
use Rattle.mpd_command.specs.declared.command.Command.TheVariants as command
use Rattle.mpd_command.specs.declared.connection.ConnectionCommand.TheVariants as connection
use Rattle.command_laws.specs.ChosenTags.{chooses}
use Rattle.command_laws.proofs.ChosenTags.{tags_kept}
use Rattle.command_laws.specs.Base.{IsBase}
use Rattle.command_laws.specs.BaseTags.{BaseKeepsAllTags}

none-chooses : (it : Command) → IsBase it → chooses it ≡ false
none-chooses (command.Connection connection.AllTags) base = absurd base
none-chooses (command.Connection connection.NoTags) base = absurd base
none-chooses (command.Connection (connection.WithoutTags named)) base = absurd base
none-chooses (command.Connection (connection.WithTags named)) base = absurd base
none-chooses _ base = refl

pub base_keeps_all_tags : BaseKeepsAllTags
base_keeps_all_tags asked client it base all = tags_kept asked client it (none-chooses it base) ∙ all
