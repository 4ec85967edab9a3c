-- What is known of words that were taken.
use Rattle.std.specs.Prelude.{◌≡◌, ◌⊎◌, List, Option, Some, codes, pos}
use Rattle.clap.specs.Words.{IsSignedIn, Row, Text, first_of, one_of, without_minus}

-- a file of settings
pub record HasServe (rows : List Row) : Type 0 where
  pub file : Text
  pub is : first_of (codes "config") rows ≡ Some file

-- a rate in its range, and a folder
pub record HasScan (rows : List Row) : Type 0 where
  pub text : Text
  pub rate : one_of (codes "rate") rows ≡ Some (without_minus text)
  pub range : IsSignedIn (pos 8000) (pos 192000) text
  pub folder : Text
  pub is : first_of (codes "folder") rows ≡ Some folder

-- a command that is there, with its arguments
abbrev pub HasProgram : Option (Text × List Row) → Type 0
HasProgram met = (p : Text × List Row) × (met ≡ Some p)
    × (((p.0 ≡ codes "serve") × HasServe p.1) ⊎ (((p.0 ≡ codes "scan") × HasScan p.1) ⊎ (p.0 ≡ codes "script")))
