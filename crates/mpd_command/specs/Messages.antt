-- The table of commands by which clients send each other messages (MPD protocol reference, Client to client).
use Rattle.std.specs.Prelude.{List, [], ◌∷◌, codes}
use Rattle.command_arguments.specs.Forms.{any_text}
use Rattle.mpd_command.specs.Tables.{Row, none, one, two}
use Rattle.mpd_command.specs.declared.messages.MessageCommand.{MessageCommand}
use Rattle.mpd_command.specs.declared.messages.MessageCommand.TheVariants as messages

unfoldable pub rows : List (Row MessageCommand)
rows =
    (codes "channels", none messages.Channels)
    ∷ (codes "readmessages", none messages.ReadMessages)
    ∷ (codes "sendmessage", two any_text any_text messages.SendMessage)
    ∷ (codes "subscribe", one any_text messages.Subscribe)
    ∷ (codes "unsubscribe", one any_text messages.Unsubscribe)
    ∷ []
