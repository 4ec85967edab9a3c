-- Texts in one line.
use Rattle.std.specs.Prelude.{◌≡◌, ℕ, false, List, [], ◌∷◌, All, IsUtf8, chars, encode_utf8_all, flat_map, if◌then◌else◌}
use Rattle.std.specs.Char.{is_control}
use Rattle.std.specs.Char.Escape.{escape_default}

-- the characters that are told for one: the escape of a control character, and else itself
abbrev pub shown : ℕ → List ℕ
shown character = if is_control character then escape_default character else character ∷ []

-- the characters that are told for a text
abbrev pub shown_text : List ℕ → List ℕ
shown_text text = flat_map shown (chars text)

-- a text in one line
abbrev pub one_line : List ℕ → List ℕ
one_line text = encode_utf8_all (shown_text text)

-- none of the characters is a control character, and so none is a line break
abbrev pub HasNoControls : List ℕ → Type 0
HasNoControls = All (λ character. is_control character ≡ false)

-- what is told has no control character, and a text without one is told as it is
pub record OneLines : Type 0 where
  pub none : (text : List ℕ) → HasNoControls (shown_text text)
  pub same : (text : List ℕ) → IsUtf8 text → HasNoControls (chars text) → one_line text ≡ text
