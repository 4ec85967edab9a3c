-- Texts of the everyday profile, of which no more than the first 1,025 bytes of a content count.
use Rattle.std.proofs.Common.{ℕ, ◌<◌, ◌≤◌, ◌≡◌, ◌==◌, List, length, take, Bool, true, false, cond, sym, ap, ◌∙◌, arith, Option, Some, None, IfSome, refl}
use Rattle.std.proofs.lemmas.List.Sums.{prefix_len-le-length}
use Rattle.std.specs.List.{position_or_len}
use Rattle.std.specs.Option.{option_and_then}
use Rattle.std.specs.Str.{is_utf8, IsUtf8}
use Rattle.std.proofs.lemmas.Str.{is_utf8-from_IsUtf8, IsUtf8-from_is_utf8}
use Rattle.id3_tags.specs.Windows.{windows_1252}
use Rattle.id3_tags.proofs.WindowsLaws.{no_shorter}
use Rattle.wave.specs.Texts.{text_of}
use Rattle.wave.specs.Everyday.{spelled, counted, everyday_text}
use Rattle.wave.specs.Found.{text_in}
use Rattle.wave.proofs.Filling.{by_lt}
use Rattle.wave.proofs.Found.{too_long, length_of_text, start_of_text, short_start, long_start, base_of_start}

-- bytes in UTF-8, and others
pub utf8_spelled : (bytes : List ℕ) → IsUtf8 bytes → spelled bytes ≡ Some bytes
utf8_spelled bytes h = ap (λ b. cond b (Some bytes) (windows_1252 bytes)) (is_utf8-from_IsUtf8 bytes h)

not_utf8 : (bytes : List ℕ) (b : Bool) → is_utf8 bytes ≡ b → (IsUtf8 bytes → ⊥) → b ≡ false
not_utf8 bytes true e f = absurd (f (IsUtf8-from_is_utf8 bytes e))
not_utf8 bytes false e f = refl

pub other_spelled : (bytes : List ℕ) → (IsUtf8 bytes → ⊥) → spelled bytes ≡ windows_1252 bytes
other_spelled bytes f = ap (λ b. cond b (Some bytes) (windows_1252 bytes)) (not_utf8 bytes (is_utf8 bytes) refl f)

-- texts of more than 1,024 bytes
counted_long : (text : List ℕ) → 1024 < length text → counted text ≡ None
counted_long text h = ap (λ b. cond b (Some text) None) (too_long text h)

of_windows : (text : List ℕ) (found : Option (List ℕ)) → IfSome found (λ spelled. length text ≤ length spelled) → 1024 < length text → option_and_then counted found ≡ None
of_windows text None h long = refl
of_windows text (Some spelled) h long = counted_long spelled (omega arith)

of_either : (text : List ℕ) (b : Bool) → 1024 < length text → option_and_then counted (cond b (Some text) (windows_1252 text)) ≡ None
of_either text true long = counted_long text long
of_either text false long = of_windows text (windows_1252 text) (no_shorter text) long

long_skipped : (text : List ℕ) → 1024 < length text → option_and_then counted (spelled text) ≡ None
long_skipped text long = of_either text (is_utf8 text) long

everyday_of_start : (content : List ℕ) → everyday_text (take 1025 content) ≡ everyday_text content
unfolding everyday_text
everyday_of_start content =
    let n = position_or_len (λ byte. byte == 0) content in
    by_lt n 1025
    (λ short. ap (λ text. option_and_then counted (spelled text)) (start_of_text content 1025 ∙ short_start 1025 n content short))
    (λ long.
    let within : n ≤ length content = prefix_len-le-length _ content in
    let first : 1024 < length (text_of content) = rw (length_of_text content) (omega arith) in
    let start : 1024 < length (text_of (take 1025 content)) = rw (start_of_text content 1025) (long_start 1025 n content long within (omega arith)) in
    long_skipped (text_of (take 1025 content)) start ∙ sym (long_skipped (text_of content) first))

pub text_of_start : (everyday : Bool) (content : List ℕ) → text_in everyday (take 1025 content) ≡ text_in everyday content
text_of_start true content = everyday_of_start content
text_of_start false content = base_of_start content
