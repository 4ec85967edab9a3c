-- What some command lines mean, word by word (this profile's). The program's name may be any.
use Rattle.std.specs.Prelude.{◌≡◌, ℕ, List, [], ◌∷◌, None, Some, codes}
use Rattle.clap.specs.Lexer.{strip_byte}
use Rattle.clap.specs.Words.{Kinds, Row, Text, fault_of, one_of, subcommand_of}
use Rattle.clap.specs.declared.error.kind.ErrorKind.TheVariants.{DisplayHelp, DisplayVersion, InvalidSubcommand, InvalidValue, MissingRequiredArgument, MissingSubcommand, UnknownArgument, ValueValidation}
use Rattle.command_line.specs.Arguments.{daemon}
use Rattle.command_line.specs.Programs.{IsScan, IsServe}

-- a word that does not begin with a hyphen
abbrev pub IsPlain : Text → Type 0
IsPlain word = strip_byte 45 word ≡ None

-- the words are taken, and ask for a daemon with this file of settings
pub record AsksServe (words : List Text) (file : Text) : Type 0 where
  pub taken : fault_of daemon words ≡ []
  pub read : (p : Text × List Row) × (subcommand_of daemon words ≡ Some p) × IsServe p file

-- the same, and only a check of it
pub record AsksCheck (words : List Text) (file : Text) : Type 0 where
  pub taken : fault_of daemon words ≡ []
  pub read : (p : Text × List Row) × (subcommand_of daemon words ≡ Some p) × IsServe p file × (one_of (codes "check") p.1 ≡ Some (codes "true"))

-- the words are taken, and ask for a scan at this rate of this folder, in the base profile
pub record AsksScan (words : List Text) (rate : ℕ) (folder : Text) : Type 0 where
  pub taken : fault_of daemon words ≡ []
  pub read : (p : Text × List Row) × (subcommand_of daemon words ≡ Some p) × IsScan p rate folder × (one_of (codes "everyday") p.1 ≡ Some (codes "false"))

-- the same, in the everyday profile
pub record AsksEveryday (words : List Text) (rate : ℕ) (folder : Text) : Type 0 where
  pub taken : fault_of daemon words ≡ []
  pub read : (p : Text × List Row) × (subcommand_of daemon words ≡ Some p) × IsScan p rate folder × (one_of (codes "everyday") p.1 ≡ Some (codes "true"))

-- the words are taken, and ask for a script
pub record AsksScript (words : List Text) : Type 0 where
  pub taken : fault_of daemon words ≡ []
  pub read : (p : Text × List Row) × (subcommand_of daemon words ≡ Some p) × (p.0 ≡ codes "script")

-- the words are refused, by one of these kinds
abbrev pub Refuses : List Text → Kinds → Type 0
Refuses words kinds = fault_of daemon words ≡ kinds

pub record Readings : Type 0 where
  -- `serve --config FILE`, which may not be left out
  pub serve : (name file : Text) → IsPlain file → AsksServe (name ∷ codes "serve" ∷ codes "--config" ∷ file ∷ []) file
  pub check : (name file : Text) → IsPlain file → AsksCheck (name ∷ codes "serve" ∷ codes "--config" ∷ file ∷ codes "--check" ∷ []) file
  pub no_config : (name : Text) → Refuses (name ∷ codes "serve" ∷ []) (MissingRequiredArgument ∷ [])
  pub no_file : (name : Text) → Refuses (name ∷ codes "serve" ∷ codes "--config" ∷ []) (InvalidValue ∷ [])
  pub plain_file : (name file : Text) → IsPlain file → Refuses (name ∷ codes "serve" ∷ file ∷ []) (UnknownArgument ∷ [])
  -- `scan DIR`, at 44,100 a second
  pub scan : (name folder : Text) → IsPlain folder → AsksScan (name ∷ codes "scan" ∷ folder ∷ []) 44100 folder
  -- `scan --rate N DIR`, from 8,000 to 192,000
  pub least : (name folder : Text) → IsPlain folder → AsksScan (name ∷ codes "scan" ∷ codes "--rate" ∷ codes "8000" ∷ folder ∷ []) 8000 folder
  pub most : (name folder : Text) → IsPlain folder → AsksScan (name ∷ codes "scan" ∷ codes "--rate" ∷ codes "192000" ∷ folder ∷ []) 192000 folder
  pub too_low : (name folder : Text) → IsPlain folder → Refuses (name ∷ codes "scan" ∷ codes "--rate" ∷ codes "7999" ∷ folder ∷ []) (ValueValidation ∷ [])
  pub too_high : (name folder : Text) → IsPlain folder → Refuses (name ∷ codes "scan" ∷ codes "--rate" ∷ codes "192001" ∷ folder ∷ []) (ValueValidation ∷ [])
  -- `--everyday`, with or without `--rate N`
  pub everyday : (name folder : Text) → IsPlain folder → AsksEveryday (name ∷ codes "scan" ∷ codes "--everyday" ∷ folder ∷ []) 44100 folder
  pub everyday_at : (name folder : Text) → IsPlain folder → AsksEveryday (name ∷ codes "scan" ∷ codes "--rate" ∷ codes "8000" ∷ codes "--everyday" ∷ folder ∷ []) 8000 folder
  -- no folder
  pub no_folder : (name : Text) → Refuses (name ∷ codes "scan" ∷ []) (MissingRequiredArgument ∷ [])
  -- `script`, and nothing more
  pub script : (name : Text) → AsksScript (name ∷ codes "script" ∷ [])
  pub one_more : (name word : Text) → IsPlain word → Refuses (name ∷ codes "script" ∷ word ∷ []) (UnknownArgument ∷ [])
  -- no word, and one that names no command
  pub no_word : (name : Text) → Refuses (name ∷ []) (MissingSubcommand ∷ [])
  pub no_command : (name : Text) → Refuses (name ∷ codes "play" ∷ []) (UnknownArgument ∷ InvalidSubcommand ∷ [])
  -- help and the version
  pub help : (name : Text) → Refuses (name ∷ codes "--help" ∷ []) (DisplayHelp ∷ [])
  pub version : (name : Text) → Refuses (name ∷ codes "--version" ∷ []) (DisplayVersion ∷ [])
