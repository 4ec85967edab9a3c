-- Which program the words ask for (this profile's).
use Rattle.std.specs.Prelude.{◌≡◌, ⊤, ℕ, Bool, true, false, List, Option, None, Some, codes, option_map}
use Rattle.std.specs.Str.Parse.{digits_value, without_leading_plus}
use Rattle.clap.specs.Words.{IsAmong, Kinds, Row, Text, fault_of, first_of, kind_of, one_of, subcommand_of}
use Rattle.clap.specs.declared.error.kind.ErrorKind.{ErrorKind}
use Rattle.clap.specs.declared.error.kind.ErrorKind.TheVariants.{DisplayHelp, DisplayVersion}
use Rattle.command_line.specs.Arguments.{daemon}
use Rattle.command_line.specs.declared.program.LineFault.{LineFault}
use Rattle.command_line.specs.declared.program.LineFault.TheVariants.{Refused, NoMemory}
use Rattle.command_line.specs.declared.program.Program.{Program}
use Rattle.command_line.specs.declared.program.Program.TheVariants.{Serve, Scan, Script}

-- the number that a text of decimal digits says; a plus may stand before them
abbrev pub number_of : Text → ℕ
number_of text = digits_value 10 (without_leading_plus text)

-- a command's name, and what was read of its arguments, are those of a daemon with this file of settings
abbrev pub IsServe : Text × List Row → Text → Type 0
IsServe p file = (p.0 ≡ codes "serve") × (first_of (codes "config") p.1 ≡ Some file)

-- a flag is what its text says: `true` or `false`, and false where there is none
pub record IsFlag (text : Option Text) (flag : Bool) : Type 0 where
  pub none : text ≡ None → flag ≡ false
  pub set : text ≡ Some (codes "true") → flag ≡ true
  pub left_out : text ≡ Some (codes "false") → flag ≡ false

-- they are those of a scan at this rate of this folder
abbrev pub IsScan : Text × List Row → ℕ → Text → Type 0
IsScan p rate folder = (p.0 ≡ codes "scan") × (option_map number_of (one_of (codes "rate") p.1) ≡ Some rate) × (first_of (codes "folder") p.1 ≡ Some folder)

-- they are those of this program
abbrev pub Says : Text × List Row → Program → Type 0
Says p (Serve file check) = IsServe p file.now × IsFlag (one_of (codes "check") p.1) check
Says p (Scan rate folder everyday) = IsScan p rate folder.now × IsFlag (one_of (codes "everyday") p.1) everyday
Says p Script = p.0 ≡ codes "script"

-- clap's definition reads this program in the words, of which the first is the program's name
abbrev pub Asks : List Text → Program → Type 0
Asks words program = (p : Text × List Row) × (subcommand_of daemon words ≡ Some p) × Says p program

-- the kinds by which clap's definition refuses the words; none where it takes them
abbrev pub refusals_of : List Text → Kinds
refusals_of words = fault_of daemon words

-- words that are refused are refused by one of these kinds
abbrev pub IsRefusedBy : Kinds → LineFault → Type 0
IsRefusedBy kinds (Refused error) = IsAmong (kind_of error) kinds
IsRefusedBy kinds NoMemory = ⊤

-- help and the version are shown with success, and other refusals end with 2
abbrev pub status_of_kind : ErrorKind → ℕ
status_of_kind DisplayHelp = 0
status_of_kind DisplayVersion = 0
status_of_kind kind = 2

-- the exit status of words that name no program
abbrev pub status_of : LineFault → ℕ
status_of (Refused error) = status_of_kind (kind_of error)
status_of NoMemory = 1
