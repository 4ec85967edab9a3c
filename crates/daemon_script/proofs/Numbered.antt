-- Lines that begin with a client's number, read byte by byte.
use Rattle.std.proofs.Common.{◌≡◌, ℕ, ◌+◌, ◌<◌, ◌==◌, Bool, true, false, List, [], ◌∷◌, ◌++◌, refl, ap, sym, ◌∙◌, append_assoc, append-nil, if◌then◌else◌}
use Rattle.std.specs.List.{flat_map, onto_first}
use Rattle.std.proofs.lemmas.Fmt.{decimal_digit}
use Rattle.daemon_script.specs.Script.{label, lines_in_text, lines_for, numbered}

pub one_digit : (number : ℕ) → number < 10 → label number ≡ (48 + number) ∷ 32 ∷ []
one_digit number less = ap (λ (d : List ℕ). d ++ 32 ∷ []) (decimal_digit number less)

-- the number, where a line begins
abbrev pub label_if : ℕ → Bool → List ℕ
label_if number true = label number
label_if number false = []

-- byte by byte
abbrev pub by_bytes : ℕ → Bool → List ℕ → List ℕ
by_bytes number begins [] = []
by_bytes number begins (b ∷ bs) = label_if number begins ++ (b ∷ by_bytes number (b == 10) bs)

-- the rest of a line that has begun, and the lines after it
abbrev pub begun : ℕ → List (List ℕ) → List ℕ
begun number [] = []
begun number (line ∷ lines) = line ++ flat_map (numbered number) lines

abbrev pub from_lines : ℕ → Bool → List (List ℕ) → List ℕ
from_lines number true lines = flat_map (numbered number) lines
from_lines number false lines = begun number lines

-- one byte more at the start of the first line
one_byte : (number b : ℕ) (begins : Bool) (lines : List (List ℕ)) → label_if number begins ++ (b ∷ begun number lines) ≡ from_lines number begins (onto_first b lines)
one_byte number b true [] = sym (append-nil (label number ++ b ∷ []))
one_byte number b false [] = refl
one_byte number b true (line ∷ lines) = sym (append_assoc (label number) (b ∷ line) (flat_map (numbered number) lines))
one_byte number b false (line ∷ lines) = refl

newline : (number b : ℕ) (begins : Bool) (lines : List (List ℕ)) → label_if number begins ++ (b ∷ flat_map (numbered number) lines) ≡ from_lines number begins ((b ∷ []) ∷ lines)
newline number b true lines = sym (append_assoc (label number) (b ∷ []) (flat_map (numbered number) lines))
newline number b false lines = refl

are_lines : (number : ℕ) (begins : Bool) (text : List ℕ) → by_bytes number begins text ≡ from_lines number begins (lines_in_text text)
are_lines number true [] = refl
are_lines number false [] = refl
are_lines number begins (b ∷ bs) =
    elim (b == 10) as (λ e. label_if number begins ++ (b ∷ by_bytes number e bs) ≡ from_lines number begins (if e then (b ∷ []) ∷ lines_in_text bs else onto_first b (lines_in_text bs))) [
      | true ↦ ap (λ (t : List ℕ). label_if number begins ++ (b ∷ t)) (are_lines number true bs) ∙ newline number b begins (lines_in_text bs)
      | false ↦ ap (λ (t : List ℕ). label_if number begins ++ (b ∷ t)) (are_lines number false bs) ∙ one_byte number b begins (lines_in_text bs)
    ]

-- the lines of a whole text
pub whole_text : (number : ℕ) (text : List ℕ) → by_bytes number true text ≡ lines_for number text
unfolding lines_for
whole_text number text = are_lines number true text
