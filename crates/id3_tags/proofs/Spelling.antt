-- Characters one after another.
use Rattle.std.proofs.Common.{ℕ, Bool, true, false, ◌+◌, ◌<◌, ◌≡◌, List, [], ◌∷◌, ◌++◌, length, take, get_or, refl, sym, ap, ◌∙◌, append_assoc, append-nil, Option, Some, None}
use Rattle.std.specs.Option.{option_map}
use Rattle.std.specs.Str.{encode_utf8_all, is_utf8, IsUtf8}
use Rattle.std.specs.Char.{encode_utf8}
use Rattle.std.proofs.lemmas.Str.{encodes-append, encodes-chars, is_utf8-from_IsUtf8, IsUtf8-from_is_utf8}
use Rattle.std.proofs.lemmas.List.{take_more}
use Rattle.id3_tags.specs.Encodings.{utf8_in, before_units}

-- one more character
pub one_more_char : (codes : List ℕ) (i code : ℕ) → i < length codes → code ≡ get_or codes i 0 → encode_utf8_all (take (i + 1) codes) ≡ encode_utf8_all (take i codes) ++ encode_utf8 code
one_more_char codes i code h e =
    ap encode_utf8_all (take_more codes i 0 h) ∙ encodes-append (take i codes) (get_or codes i 0 ∷ [])
    ∙ ap (λ xs. encode_utf8_all (take i codes) ++ xs) (append-nil (encode_utf8 (get_or codes i 0)) ∙ ap encode_utf8 (sym e))

-- bytes that are UTF-8, and those that are not
pub text_of_utf8 : (bytes : List ℕ) → IsUtf8 bytes → Some bytes ≡ option_map encode_utf8_all (utf8_in bytes)
text_of_utf8 bytes h = rw (is_utf8-from_IsUtf8 bytes h) (ap (λ xs. Some xs) (sym (encodes-chars bytes h)))

not_utf8 : (bytes : List ℕ) (b : Bool) → is_utf8 bytes ≡ b → (IsUtf8 bytes → ⊥) → b ≡ false
not_utf8 bytes true e f = absurd (f (IsUtf8-from_is_utf8 bytes e))
not_utf8 bytes false e f = refl

pub no_text_of_utf8 : (bytes : List ℕ) → (IsUtf8 bytes → ⊥) → None ≡ option_map encode_utf8_all (utf8_in bytes)
no_text_of_utf8 bytes f = rw (not_utf8 bytes (is_utf8 bytes) refl f) refl

-- items so far before those of what is left
abbrev pub after_items : List ℕ → Option (List ℕ) → Option (List ℕ)
after_items front more = option_map (λ items. front ++ items) more

pub one_more_item : (front : List ℕ) (item : ℕ) (more : Option (List ℕ)) → after_items (front ++ item ∷ []) more ≡ after_items front (before_units item more)
one_more_item front item None = refl
one_more_item front item (Some items) = ap (λ xs. Some xs) (append_assoc front (item ∷ []) items)
