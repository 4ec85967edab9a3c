-- What a line asks for (MPD protocol reference, Requests and Failure responses; the texts and their order are
-- this profile's).
use Rattle.std.specs.Prelude.{◌≡◌, ℕ, List, [], ◌∷◌, ◌++◌, codes, Option, Some, None, Result, Ok, Err, IfOk, if◌then◌else◌}
use Rattle.std.specs.declared.alloc.AllocError.{AllocError}
use Rattle.mpd_text.specs.Lines.Scan.{words_of}
use Rattle.mpd_text.specs.declared.answers.answer.ErrorNumber.TheVariants.{Argument, Permission, Unknown}
use Rattle.mpd_text.specs.declared.lines.quoting.WordsFault.{WordsFault}
use Rattle.mpd_text.specs.declared.lines.quoting.WordsFault.TheVariants.{BadUnquoted, NoClosingQuote, NoSpaceAfterQuote, TooMany, NoMemory as NoMemoryForWords}
use Rattle.mpd_command.specs.Commands.{command_of}
use Rattle.mpd_command.specs.Names.{name_of, is_forbidden, is_there, text_of}
use Rattle.command_arguments.specs.declared.readers.Misread.{Misread}
use Rattle.command_arguments.specs.declared.readers.Misread.TheVariants.{WrongNumber, Bad, NoMemory as NoMemoryToRead}
use Rattle.mpd_command.specs.declared.command_set.CommandSet.{CommandSet}
use Rattle.mpd_command.specs.declared.name.Name.{Name}
use Rattle.mpd_command.specs.declared.command.Command.{Command}
use Rattle.mpd_command.specs.declared.request.Ack.{Ack}
use Rattle.mpd_command.specs.declared.request.CommandFault.{CommandFault}
use Rattle.mpd_command.specs.declared.request.CommandFault.TheVariants.{Refused as RefusedFor, NoMemory}
use Rattle.mpd_command.specs.declared.request.Request.{Request}
use Rattle.mpd_command.specs.declared.request.Request.TheVariants.{Run, Refused}

abbrev pub quoted : List ℕ → List ℕ → List ℕ
quoted text word = text ++ (word ++ codes "\"")

abbrev pub unknown : List ℕ → Ack
unknown word = record { number = Unknown; command = None; text = quoted (codes "unknown command \"") word }

-- what is said of words that are not the command's arguments
abbrev pub ack_of : Name → Misread → Ack
ack_of name WrongNumber = record { number = Argument; command = Some name; text = quoted (codes "wrong number of arguments for \"") (text_of name) }
ack_of name (Bad argument) = record { number = Argument; command = Some name; text = quoted (codes "bad argument \"") argument }
ack_of name NoMemoryToRead = record { number = Argument; command = Some name; text = [] }

abbrev pub read_as : Name → List ℕ → Result (Option Command) Misread → Result (Name × Command) Ack
read_as name word (Ok (Some command)) = Ok (name, command)
read_as name word (Ok None) = Err (unknown word)
read_as name word (Err misread) = Err (ack_of name misread)

-- a command, by its name, the word that the name is, and the words after it
abbrev pub with_arguments : CommandSet → Name → List ℕ → List (List ℕ) → Result (Name × Command) Ack
with_arguments set name word words = read_as name word (command_of set word words)

-- the name that a word is, where there is such a command
abbrev pub name_in_set : List ℕ → CommandSet → Option Name
name_in_set word set = if is_there word set then name_of word else None

abbrev pub of_name : Option Name → List ℕ → List (List ℕ) → CommandSet → Result (Name × Command) Ack
of_name None word words set = Err (unknown word)
of_name (Some name) word words set =
    if is_forbidden word set then Err (record { number = Permission; command = Some name; text = codes "no permission for \"kill\"" })
    else with_arguments set name word words

-- the command of words, under its name, or the first refusal: unknown, not allowed, wrong number, first
-- argument of a wrong form
abbrev pub named_of : List (List ℕ) → CommandSet → Result (Name × Command) Ack
named_of [] set = Err (record { number = Unknown; command = None; text = codes "no command given" })
named_of (word ∷ words) set = of_name (name_in_set word set) word words set

abbrev pub command_in : Result (Name × Command) Ack → Result Command Ack
command_in (Ok named) = Ok named.1
command_in (Err ack) = Err ack

abbrev pub answer_of : List (List ℕ) → CommandSet → Result Command Ack
answer_of words set = command_in (named_of words set)

-- what is answered is this, unless memory ran out
abbrev pub AnswersAs : {A : Type 0} → Result A CommandFault → Result A Ack → Type 0
AnswersAs (Ok a) exact = exact ≡ Ok a
AnswersAs (Err NoMemory) exact = Unit {0}
AnswersAs (Err (RefusedFor ack)) exact = exact ≡ Err ack

-- unless there is no memory, the fault is this refusal
abbrev pub IsRefusal : Result CommandFault AllocError → Ack → Type 0
IsRefusal result ack = IfOk result (λ fault. fault ≡ RefusedFor ack)

abbrev pub fault_text : WordsFault → List ℕ
fault_text BadUnquoted = codes "bad unquoted argument"
fault_text NoClosingQuote = codes "missing closing quote"
fault_text NoSpaceAfterQuote = codes "missing space after quote"
fault_text TooMany = codes "too many arguments"
fault_text NoMemoryForWords = []

abbrev pub request_from : Result (Name × Command) Ack → Request
request_from (Ok named) = Run named.0 named.1
request_from (Err ack) = Refused ack

abbrev pub request_with : Result (List (List ℕ)) WordsFault → CommandSet → Request
request_with (Ok words) set = request_from (named_of words set)
request_with (Err fault) set = Refused (record { number = Argument; command = None; text = fault_text fault })

-- what a line asks for, or the first refusal before effects
unfoldable pub request_of : List ℕ → CommandSet → Request
request_of line set = request_with (words_of line) set

abbrev pub text_of_name : Option Name → List ℕ
text_of_name None = []
text_of_name (Some name) = text_of name

-- the name of the command that is asked for, or nothing where none is known
abbrev pub name_in : Request → List ℕ
name_in (Run name command) = text_of name
name_in (Refused ack) = text_of_name ack.command
