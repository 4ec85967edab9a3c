-- How long a text in Windows-1252 becomes in UTF-8.
use Rattle.std.proofs.Common.{ℕ, suc, ◌≤◌, ◌≡◌, List, [], ◌∷◌, length, arith, Option, Some, None, IfSome}
use Rattle.std.specs.Option.{option_map, option_and_then}
use Rattle.std.specs.Str.{encode_utf8_all}
use Rattle.std.proofs.lemmas.Str.{length-le-encodes}
use Rattle.id3_tags.specs.Windows.{windows_1252, windows_1252_char, windows_1252_chars}

one_more : (n code : ℕ) (codes : Option (List ℕ)) → IfSome codes (λ more. n ≤ length more) → IfSome (option_map (λ more. code ∷ more) codes) (λ more. suc n ≤ length more)
one_more n code None h = tt
one_more n code (Some more) h = omega arith

if_one : (n : ℕ) (code : Option ℕ) (codes : Option (List ℕ)) → IfSome codes (λ more. n ≤ length more)
    → IfSome (option_and_then (λ code. option_map (λ more. code ∷ more) codes) code) (λ more. suc n ≤ length more)
if_one n None codes h = tt
if_one n (Some code) codes h = one_more n code codes h

-- a character for each byte
chars_of_all : (bytes : List ℕ) → IfSome (windows_1252_chars bytes) (λ codes. length bytes ≤ length codes)
chars_of_all [] = omega arith
chars_of_all (byte ∷ bytes) = if_one (length bytes) (windows_1252_char byte) (windows_1252_chars bytes) (chars_of_all bytes)

spelled : (n : ℕ) (codes : Option (List ℕ)) → IfSome codes (λ more. n ≤ length more) → IfSome (option_map encode_utf8_all codes) (λ text. n ≤ length text)
spelled n None h = tt
spelled n (Some codes) h = omega (arith, length-le-encodes codes)

-- at least a byte for each character
pub no_shorter : (bytes : List ℕ) → IfSome (windows_1252 bytes) (λ text. length bytes ≤ length text)
unfolding windows_1252
no_shorter bytes = spelled (length bytes) (windows_1252_chars bytes) (chars_of_all bytes)
