-- The tags that a client is shown after a command of its own (MPD protocol reference, Connection settings:
-- `tagtypes`, which a client sends for itself).
use Rattle.std.specs.Prelude.{◌≡◌, Bool, true, false, List, Option, Some, None, option_map}
use Rattle.mpd_text.specs.Songs.Tags.{tag_names}
use Rattle.mpd_text.specs.declared.songs.song.TagName.{TagName}
use Rattle.player_state.specs.declared.state.Client.{Client}
use Rattle.transitions.specs.Answers.{ResponseData}
use Rattle.transitions.specs.declared.asked.Asked.{Asked}
use Rattle.transitions.specs.declared.reply.Move.{Move}
use Rattle.transitions.specs.declared.reply.Move.TheVariants.{Show}
use Rattle.mpd_command.specs.declared.command.Command.{Command}
use Rattle.mpd_command.specs.declared.command.Command.TheVariants.{Connection}
use Rattle.mpd_command.specs.declared.connection.ConnectionCommand.TheVariants as connection
use Rattle.status_commands.specs.Status.{wish_of, wished}
use Rattle.command_laws.specs.HiddenTags.{IsTagSet}

-- the tags that a client is shown once it has made this move
abbrev pub tags_moved : List TagName → Move → List TagName
tags_moved before (Show tags) = tags
tags_moved before _ = before

-- once what it asks for was answered; by a command that is no wish it makes no move, or goes to another partition,
-- and its tags go with it
abbrev pub tags_answered : List TagName → Option ResponseData → List TagName
tags_answered before None = before
tags_answered before (Some response) = tags_moved before response.move

-- after a command of its own
abbrev pub tags_next : Asked → Client → Command → List TagName
tags_next asked client it = tags_answered asked.tags (option_map (wished asked client) (wish_of it))

-- the four commands by which a client chooses its tags
abbrev pub chooses : Command → Bool
chooses (Connection connection.AllTags) = true
chooses (Connection connection.NoTags) = true
chooses (Connection (connection.WithoutTags named)) = true
chooses (Connection (connection.WithTags named)) = true
chooses _ = false

-- all tags, which a client is shown when it connects, are a set of tags, and what it is shown stays one,
-- whatever it asks for; only where it chooses its tags are they others
pub record TagsStaySets : Type 0 where
  pub first : IsTagSet tag_names
  pub next : (asked : Asked) (client : Client) (it : Command) → IsTagSet asked.tags → IsTagSet (tags_next asked client it)
  pub kept : (asked : Asked) (client : Client) (it : Command) → chooses it ≡ false → tags_next asked client it ≡ asked.tags
