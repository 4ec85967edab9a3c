-- The lines of a script: a client's, a step's, or neither (this profile's script).
use Rattle.std.specs.Prelude.{ℕ, ◌-◌, List, [], ◌∷◌, ◌==◌, ◌&&◌, nat_le, if◌then◌else◌}
use Rattle.script_lines.specs.Cuts.{before, after}
use Rattle.script_lines.specs.declared.line.ScriptLine.{ScriptLine}
use Rattle.script_lines.specs.declared.line.ScriptLine.TheVariants.{Client, Step, Bad}

-- what a line says, in whole texts
pub data LineData : Type 0 where
  ClientLine : ℕ → List ℕ → LineData
  StepLine : List ℕ → LineData
  BadLine : LineData

-- a line as it is given, in whole texts
abbrev pub shown : ScriptLine → LineData
shown (Client number rest) = ClientLine number rest.now
shown (Step rest) = StepLine rest.now
shown Bad = BadLine

-- the head is one digit from 1 to 9, or an exclamation mark
abbrev pub by_head : List ℕ → List ℕ → LineData
by_head (c ∷ []) rest = if c == 33 then StepLine rest else (if nat_le 49 c && nat_le c 57 then ClientLine (c - 48) rest else BadLine)
by_head _ rest = BadLine

-- the head is before the first space, the rest after it
unfoldable pub script_line_of : List ℕ → LineData
script_line_of line = by_head (before 32 line) (after 32 line)
