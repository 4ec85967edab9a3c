-- A stored playlist's text: each URI followed by one newline byte (this profile's tables, `uris`).
use Rattle.std.specs.Prelude.{ℕ, Bool, not, List, [], ◌∷◌, ◌++◌, ◌==◌, ◌≡◌, Contains, flat_map, cond}
use Rattle.std.specs.List.{list_any}

abbrev pub newline : ℕ
newline = 10

abbrev pub HasNoNewline : List ℕ → Type 0
HasNoNewline uri = ¬ Contains uri 10

abbrev pub has_newline : List ℕ → Bool
has_newline uri = list_any (λ b. b == newline) uri

-- no URI holds a newline
abbrev pub are_single_lines : List (List ℕ) → Bool
are_single_lines uris = not (list_any has_newline uris)

abbrev pub ended : List ℕ → List ℕ
ended uri = uri ++ newline ∷ []

-- the text of a list of URIs
abbrev pub text_of : List (List ℕ) → List ℕ
text_of uris = flat_map ended uris

-- a byte before the first line; what no newline ends is no line
abbrev pub before : ℕ → List (List ℕ) → List (List ℕ)
before b [] = []
before b (line ∷ lines) = (b ∷ line) ∷ lines

-- the lines of a text
unfoldable pub lines_of : List ℕ → List (List ℕ)
lines_of [] = []
lines_of (b ∷ text) = cond (b == newline) ([] ∷ lines_of text) (before b (lines_of text))

-- the text has this line first, and the lines of the rest after it
abbrev pub BeginsWith : List ℕ → List ℕ → List ℕ → Type 0
BeginsWith text line rest = lines_of text ≡ line ∷ lines_of rest
