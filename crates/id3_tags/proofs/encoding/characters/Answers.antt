use Rattle.std.proofs.Common.{◌≡◌, List, ℕ, Option, Result, IfOk, sym, subst}
use Rattle.std.specs.Option.{option_map}
use Rattle.std.specs.Str.{encode_utf8_all}
use Rattle.id3_tags.specs.declared.encoding.Encoding.{Encoding}
use Rattle.id3_tags.specs.declared.encoding.Encoding.TheVariants.{Utf16}
use Rattle.id3_tags.specs.declared.utf16.ByteOrder.{ByteOrder}
use Rattle.id3_tags.specs.Encodings.{characters, order_in, after_mark, utf16_in}
use Rattle.id3_tags.proofs.encoding.characters.Goals as goal

-- the text of the bytes after the mark, in the order that it says
marked : {E : Type 0} (encoding : Encoding) (bytes rest : List ℕ) (order : ByteOrder) (read : Result (Option (List ℕ)) E) → encoding ≡ Utf16 → order ≡ order_in bytes → rest ≡ after_mark bytes
    → IfOk read (λ text. text ≡ option_map encode_utf8_all (utf16_in order rest)) → IfOk read (λ text. text ≡ option_map encode_utf8_all (characters encoding bytes))
unfolding characters
marked encoding bytes rest order read is e f h =
    subst (λ (x : Encoding). IfOk read (λ text. text ≡ option_map encode_utf8_all (characters x bytes))) (sym is)
    (subst (λ (xs : List ℕ). IfOk read (λ text. text ≡ option_map encode_utf8_all (utf16_in (order_in bytes) xs))) f
    (subst (λ (o : ByteOrder). IfOk read (λ text. text ≡ option_map encode_utf8_all (utf16_in o rest))) e h))

pub returns-in-Utf16 : goal.returns-in-Utf16
returns-in-Utf16 c =
    marked c.args.encoding c.args.bytes.now c.after_mark.result.now c.order_in.result c.utf16_in.result c.in-Utf16.is c.order_in.ensures c.after_mark.ensures c.utf16_in.ensures
