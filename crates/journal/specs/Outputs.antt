-- What the daemon tells of an output (this profile's).
use Rattle.std.specs.Prelude.{ℕ, Bool, true, false, List, ◌++◌, Option, Some, None, codes, decimal}

-- what is told of the output of a number
abbrev pub output_line : ℕ → List ℕ → List ℕ
output_line output text = codes "output " ++ (decimal output ++ (codes ": " ++ text))

-- an output is off, since its path takes nothing
abbrev pub off_text : List ℕ → List ℕ
off_text path = codes "switched off, since " ++ (path ++ codes " takes nothing")

-- an output is on again
abbrev pub on_text : List ℕ → List ℕ
on_text path = codes "switched on again (" ++ (path ++ codes ")")

-- what is told of an output that was off for its path or not, and now is or is not
abbrev pub silence_text : ℕ → List ℕ → Bool → Bool → Option (List ℕ)
silence_text output path false true = Some (output_line output (off_text path))
silence_text output path true false = Some (output_line output (on_text path))
silence_text output path was_silent is_silent = None

-- an output failed, and why
abbrev pub failure_text : ℕ → List ℕ → List ℕ → List ℕ
failure_text output path why =
    output_line output (codes "cannot write "
    ++ (path ++ (codes ": " ++ (why ++ codes "; off until the next start"))))
