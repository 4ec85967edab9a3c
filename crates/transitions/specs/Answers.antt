-- What clients hear (MPD protocol reference, Responses and Command lists; notices: Querying MPD's status,
-- `idle`).
use Rattle.std.specs.Prelude.{◌≡◌, ℕ, Bool, false, true, List, ◌++◌, codes, Option, Some, Result, IfOk}
use Rattle.std.specs.declared.alloc.AllocError.{AllocError}
use Rattle.command_lists.specs.declared.word.ListForm.TheVariants.{Plain, ListOk}
use Rattle.mpd_text.specs.Answers.Answer.{ack_line, number_of}
use Rattle.mpd_text.specs.declared.answers.answer.ErrorNumber.{ErrorNumber}
use Rattle.mpd_text.specs.declared.answers.answer.ErrorNumber.TheVariants.{Exist, NoExist, System}
use Rattle.mpd_command.specs.declared.name.Name.{Name}
use Rattle.mpd_command.specs.Requests.{text_of_name}
use Rattle.transitions.specs.declared.reply.Move.{Move}
use Rattle.transitions.specs.declared.reply.Move.TheVariants.{Stay}
use Rattle.transitions.specs.declared.reply.Next.{Next}
use Rattle.transitions.specs.declared.reply.Next.TheVariants.{Goes, Waits, Closes, Kills}
use Rattle.transitions.specs.declared.asked.Asked.{Asked}
use Rattle.transitions.specs.declared.asked.ListPlace.{ListPlace}
use Rattle.transitions.specs.declared.asked.ListPlace.TheVariants.{Alone, InList}
use Rattle.shelf.specs.declared.faults.ShelfFault.{ShelfFault}
use Rattle.shelf.specs.declared.faults.ShelfFault.TheVariants.{NoSuchList, Exists, BadName, NoSticker, StoreFault, NoMemory}

-- what one client is told, what becomes of it, and whether it was a refusal
pub record Answer : Type 0 where
  pub text : List ℕ
  pub next : Next
  pub refused : Bool

-- an answer, and what the client that it is for does
pub record ResponseData : Type 0 where
  pub answer : Answer
  pub move : Move

-- a text, what becomes of the client, whether it was a refusal, and what the client does
abbrev pub response_of : List ℕ → Next → Bool → Move → ResponseData
response_of text next refused client_move = record { answer = record { text = text; next = next; refused = refused }; move = client_move }

-- unless there is no memory, the response is this one
abbrev pub Responds : Result ResponseData AllocError → ResponseData → Type 0
Responds result response = IfOk result (λ given. given ≡ response)

-- what follows the lines of a success: `OK`; in a list nothing, or `list_OK` where its form wants it
abbrev pub ending : ListPlace → List ℕ
ending Alone = codes "OK\n"
ending (InList Plain place) = codes ""
ending (InList ListOk place) = codes "list_OK\n"

-- the place in its list that a refusal names
abbrev pub place_of : ListPlace → ℕ
place_of Alone = 0
place_of (InList form place) = place

-- the client is told this, and its next line may come
abbrev pub tells : List ℕ → Answer
tells text = record { text = text; next = Goes; refused = false }

-- a success with these lines
abbrev pub succeeds : ListPlace → List ℕ → Answer
succeeds list_place lines = tells (lines ++ ending list_place)

-- a refusal of a command, or of a line that names none
abbrev pub refuses : ListPlace → Option Name → ErrorNumber → List ℕ → Answer
refuses list_place name number text = record { text = ack_line (number_of number) (place_of list_place) (text_of_name name) text; next = Goes; refused = true }

-- a refusal of the command that a client asks for
abbrev pub refuses_command : Asked → ErrorNumber → List ℕ → Answer
refuses_command asked number text = refuses asked.list_place (Some asked.name) number text

-- what a client is told where the shelf refuses what its command asks for. A command looks at names before it
-- asks, so that a shelf which refuses a name is not a shelf as it should be
abbrev pub refused_by_shelf : ListPlace → Option Name → ShelfFault → Answer
refused_by_shelf list_place name NoSuchList = refuses list_place name NoExist (codes "no such playlist")
refused_by_shelf list_place name Exists = refuses list_place name Exist (codes "playlist exists")
refused_by_shelf list_place name BadName = refuses list_place name System (codes "store fault")
refused_by_shelf list_place name NoSticker = refuses list_place name NoExist (codes "no such sticker")
refused_by_shelf list_place name StoreFault = refuses list_place name System (codes "store fault")
refused_by_shelf list_place name NoMemory = refuses list_place name System (codes "store fault")

-- whether an answer closes its client
abbrev pub closes : Next → Bool
closes Goes = false
closes Waits = false
closes Closes = true
closes Kills = true

-- no bytes
abbrev pub silence : Next → Answer
silence next = record { text = codes ""; next = next; refused = false }

-- closed, without bytes
abbrev pub disconnects : Answer
disconnects = silence Closes

-- the same where the daemon ends as well
abbrev pub shut_down : Answer
shut_down = silence Kills

-- an answer to a client that makes no move
abbrev pub stays : Answer → ResponseData
stays answer = record { answer = answer; move = Stay }
