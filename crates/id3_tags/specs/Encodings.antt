-- How the characters of a text are spelled (ID3 tag version 2, version 2.3.0 and version 2.4.0, Text encoding;
-- The Unicode Standard, UTF-16 and UTF-8).
use Rattle.std.specs.Prelude.{ℕ, ◌+◌, ◌*◌, List, [], ◌∷◌, length, drop, Bool, ◌&&◌, ◌==◌, nat_eq, nat_le, if◌then◌else◌, Option, Some, None}
use Rattle.std.specs.List.{list_all, before_first, starts_with}
use Rattle.std.specs.Option.{option_map, option_and_then}
use Rattle.std.specs.Char.Utf16.{has_unpaired_surrogate, utf16_lossy_chars}
use Rattle.std.specs.Str.{chars, is_utf8, encode_utf8_all}
use Rattle.id3_tags.specs.declared.encoding.Encoding.{Encoding}
use Rattle.id3_tags.specs.declared.encoding.Encoding.TheVariants.{Latin1, Utf16, Utf16Be, Utf8}
use Rattle.id3_tags.specs.declared.utf16.ByteOrder.{ByteOrder}
use Rattle.id3_tags.specs.declared.utf16.ByteOrder.TheVariants.{Big, Little}

-- the encoding with this number
abbrev pub encoding_of : ℕ → Option Encoding
encoding_of number = if number == 0 then Some Latin1 else (if number == 1 then Some Utf16 else (if number == 2 then Some Utf16Be else (if number == 3 then Some Utf8 else None)))

-- the unit of two bytes
abbrev pub unit_of : ByteOrder → ℕ → ℕ → ℕ
unit_of Big first second = first * 256 + second
unit_of Little first second = second * 256 + first

-- a unit before those that follow it
abbrev pub before_units : ℕ → Option (List ℕ) → Option (List ℕ)
before_units unit more = option_map (λ units. unit ∷ units) more

-- the units up to the first zero unit; none where the bytes end within a unit before that
abbrev pub units_in : ByteOrder → List ℕ → Option (List ℕ)
units_in order [] = Some []
units_in order (first ∷ []) = None
units_in order (first ∷ second ∷ bytes) =
    if unit_of order first second == 0 then Some [] else before_units (unit_of order first second) (units_in order bytes)

-- the characters of units in which each surrogate has its partner
abbrev pub paired : List ℕ → Option (List ℕ)
paired units = if has_unpaired_surrogate units then None else Some (utf16_lossy_chars units)

-- the characters of UTF-16 in a byte order
abbrev pub utf16_in : ByteOrder → List ℕ → Option (List ℕ)
utf16_in order bytes = option_and_then paired (units_in order bytes)

-- whether a text begins with the byte order mark of the low byte first, and with either mark
abbrev pub is_little : List ℕ → Bool
is_little bytes = starts_with nat_eq bytes (255 ∷ 254 ∷ [])

abbrev pub is_big : List ℕ → Bool
is_big bytes = starts_with nat_eq bytes (254 ∷ 255 ∷ [])

-- the byte order that a mark at the start says; the high byte is first where there is none
abbrev pub order_in : List ℕ → ByteOrder
order_in bytes = if is_little bytes then Little else Big

-- the bytes after the mark at the start
abbrev pub after_mark : List ℕ → List ℕ
after_mark bytes = if is_little bytes then drop 2 bytes else (if is_big bytes then drop 2 bytes else bytes)

-- the bytes up to the first zero byte
abbrev pub up_to_zero : List ℕ → List ℕ
up_to_zero bytes = before_first (λ byte. byte == 0) bytes

-- the characters of UTF-8
abbrev pub utf8_in : List ℕ → Option (List ℕ)
utf8_in bytes = if is_utf8 bytes then Some (chars bytes) else None

-- the characters of a text up to its first zero character, if they are well formed
unfoldable pub characters : Encoding → List ℕ → Option (List ℕ)
characters Latin1 bytes = Some (up_to_zero bytes)
characters Utf16 bytes = utf16_in (order_in bytes) (after_mark bytes)
characters Utf16Be bytes = utf16_in Big bytes
characters Utf8 bytes = utf8_in (up_to_zero bytes)

-- the bytes after a zero at the start
abbrev pub after_zero_byte : List ℕ → Option (List ℕ)
after_zero_byte bytes = if starts_with nat_eq bytes (0 ∷ []) then Some (drop 1 bytes) else None

abbrev pub after_zero_unit : List ℕ → Option (List ℕ)
after_zero_unit bytes = if starts_with nat_eq bytes (0 ∷ 0 ∷ []) then Some (drop 2 bytes) else None

-- the bytes after a description that is empty: the zero character comes at once, or directly after the mark
unfoldable pub after_empty : Encoding → List ℕ → Option (List ℕ)
after_empty Latin1 bytes = after_zero_byte bytes
after_empty Utf16 bytes = after_zero_unit (after_mark bytes)
after_empty Utf16Be bytes = after_zero_unit bytes
after_empty Utf8 bytes = after_zero_byte bytes

-- a text that is not skipped
abbrev pub counts : List ℕ → Bool
counts text = nat_le 1 (length text) && nat_le (length text) 1024 && list_all (λ byte. nat_le 32 byte) text

abbrev pub counted : List ℕ → Option (List ℕ)
counted text = if counts text then Some text else None

-- the text in UTF-8, if it is well formed and not skipped
unfoldable pub text_in : Encoding → List ℕ → Option (List ℕ)
text_in encoding bytes = option_and_then (λ codes. counted (encode_utf8_all codes)) (characters encoding bytes)
