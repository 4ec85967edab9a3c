-- What commands ask the lent shelf.
use Rattle.mpd_command.specs.declared.command.Command.{Command}
use Rattle.mpd_command.specs.declared.command.Command.TheVariants as command
use Rattle.transitions.specs.Shelves.{Question, NoQuestion}
use Rattle.player_state.specs.declared.state.Library.{Library}
use Rattle.library_commands.specs.Database.{question_of as database_question}
use Rattle.library_commands.specs.Playlists.{question_of as playlists_question}
use Rattle.library_commands.specs.Stickers.{question_of as stickers_question}

-- what a command asks the shelf: those of the library, of stored playlists and of stickers alone ask
abbrev pub question_by : Library → Command → Question
question_by library (command.Database command) = database_question command
question_by library (command.Playlists command) = playlists_question command
question_by library (command.Stickers command) = stickers_question library command
question_by library _ = NoQuestion
