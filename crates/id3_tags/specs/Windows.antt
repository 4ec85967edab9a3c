-- Windows-1252 (Unicode's mapping table CP1252.TXT).
use Rattle.std.specs.Prelude.{ℕ, ◌-◌, List, [], ◌∷◌, ◌&&◌, ◌==◌, nat_le, nat_lt, if◌then◌else◌, Option, Some, None, slice_index}
use Rattle.std.specs.Option.{option_map, option_and_then}
use Rattle.std.specs.Str.{encode_utf8_all}

-- the characters of the bytes 0x80 to 0x9F, and 0 where a byte has none
abbrev pub high_characters : List ℕ
high_characters = 0x20AC ∷ 0 ∷ 0x201A ∷ 0x0192 ∷ 0x201E ∷ 0x2026 ∷ 0x2020 ∷ 0x2021 ∷ 0x02C6 ∷ 0x2030 ∷ 0x0160 ∷ 0x2039 ∷ 0x0152 ∷ 0 ∷ 0x017D ∷ 0
    ∷ 0 ∷ 0x2018 ∷ 0x2019 ∷ 0x201C ∷ 0x201D ∷ 0x2022 ∷ 0x2013 ∷ 0x2014 ∷ 0x02DC ∷ 0x2122 ∷ 0x0161 ∷ 0x203A ∷ 0x0153 ∷ 0 ∷ 0x017E ∷ 0x0178 ∷ []

-- the character that an entry of that table gives
abbrev pub listed : ℕ → Option ℕ
listed code = if code == 0 then None else Some code

-- the character of a byte: outside the table it is the one with the same code
abbrev pub windows_1252_char : ℕ → Option ℕ
windows_1252_char byte = if nat_le 128 byte && nat_lt byte 160 then listed (slice_index high_characters (byte - 128)) else Some byte

-- the characters of all bytes, where each byte has one
abbrev pub windows_1252_chars : List ℕ → Option (List ℕ)
windows_1252_chars [] = Some []
windows_1252_chars (byte ∷ bytes) =
    option_and_then (λ code. option_map (λ codes. code ∷ codes) (windows_1252_chars bytes)) (windows_1252_char byte)

-- the text in UTF-8 that the bytes spell in Windows-1252, where each byte has a character
unfoldable pub windows_1252 : List ℕ → Option (List ℕ)
windows_1252 bytes = option_map encode_utf8_all (windows_1252_chars bytes)
