-- A shelf of stored playlists and stickers that works, as commands find it and leave it (MPD protocol
-- reference, Stored playlists; Stickers).
use Rattle.std.specs.Prelude.{◌≡◌, ℕ, false, List, Ok}
use Rattle.mpd_text.specs.declared.answers.answer.ErrorNumber.TheVariants.{NoExist}
use Rattle.shelf.specs.Calls.{Call}
use Rattle.shelf.specs.Maps.{Maps}
use Rattle.transitions.specs.CommandResults.{refusal, shows}
use Rattle.transitions.specs.Shelves.{Question, IsAnswered, IsRead, maps_after}
use Rattle.transitions.specs.Transitions.{CommandResult}
use Rattle.transitions.specs.declared.asked.Asked.{Asked}
use Rattle.transitions.specs.declared.shelf_calls.Read.{Read}

-- what a command asks the shelf, and what it makes of the answer
pub record ShelfCommand : Type 0 where
  pub question : Question
  pub result : Read → CommandResult

-- no call fails
abbrev pub never : Call → Type 0
never call = ⊥

-- on a shelf with these maps the command comes to such a result
abbrev pub Gives : Maps → ShelfCommand → (CommandResult → Type 0) → Type 0
Gives maps command IsSo = (read : Read) → IsRead never maps command.question read → IsSo (command.result read)

-- a result shows these lines
abbrev pub Shows : Asked → List ℕ → CommandResult → Type 0
Shows asked lines result = result ≡ shows asked lines

-- it is the refusal, with this text, that something is not there
abbrev pub IsMissing : Asked → List ℕ → CommandResult → Type 0
IsMissing asked text result = result ≡ refusal asked NoExist text

-- a result is no refusal, and what it writes to a shelf with these maps is done and leaves such maps
pub record IsDone (maps : Maps) (AreSo : Maps → Type 0) (result : CommandResult) : Type 0 where
  pub granted : result.answer.refused ≡ false
  pub answered : IsAnswered never maps result.written (Ok tt)
  pub left : AreSo (maps_after result.written maps)

-- on a shelf with these maps the command is done, and leaves such maps
abbrev pub Leaves : Maps → ShelfCommand → (Maps → Type 0) → Type 0
Leaves maps command AreSo = Gives maps command (IsDone maps AreSo)
