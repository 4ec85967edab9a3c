-- The text so far, and the characters that are left, are those of all bytes.
use Rattle.std.proofs.Common.{◌≡◌, ◌++◌, drop, string_bytes}
use Rattle.std.specs.Option.{option_map}
use Rattle.std.specs.Str.{encode_utf8_all}
use Rattle.id3_tags.specs.Windows.{windows_1252, windows_1252_chars}
use Rattle.id3_tags.proofs.windows.windows_1252.Given as goal

abbrev pub invariant-loop-byte : goal.invariant-loop-byte
invariant-loop-byte l =
    option_map (λ codes. string_bytes l.text ++ encode_utf8_all codes) (windows_1252_chars (drop l.byte-index l.bytes)) ≡ windows_1252 l.bytes
