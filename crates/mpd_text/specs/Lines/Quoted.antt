-- Texts in double quotes (MPD protocol reference, Requests).
use Rattle.std.specs.Prelude.{ℕ, List, [], ◌∷◌, ◌++◌, map, ◌==◌, ◌||◌, encode_utf8, if◌then◌else◌}
use Rattle.std.specs.List.{flat_map, join_with_byte}

-- a quotation mark and a backslash come after a backslash
abbrev pub escaped : ℕ → List ℕ
escaped b = if (b == 34) || (b == 92) then 92 ∷ b ∷ [] else b ∷ []

-- the bytes of a character between quotes
abbrev pub escaped_character : ℕ → List ℕ
escaped_character c = flat_map escaped (encode_utf8 c)

-- a text in quotes
abbrev pub quoted_text : List ℕ → List ℕ
quoted_text text = 34 ∷ (flat_map escaped text ++ 34 ∷ [])

-- texts in quotes, and a space between each two
abbrev pub quoted_line : List (List ℕ) → List ℕ
quoted_line texts = join_with_byte 32 (map quoted_text texts)
