use Rattle.std.proofs.Common.{◌≡◌, ◌++◌, List, [], ℕ, Some, None, Option, refl, ap, string_bytes}
use Rattle.std.specs.Option.{option_map}
use Rattle.std.specs.Str.{encode_utf8_all}
use Rattle.id3_tags.specs.Windows.{windows_1252, windows_1252_chars}
use Rattle.id3_tags.proofs.windows.windows_1252.Goals as goal

-- nothing before a text
nothing_before : (front : List ℕ) (codes : Option (List ℕ)) → front ≡ [] → option_map (λ more. front ++ encode_utf8_all more) codes ≡ option_map encode_utf8_all codes
nothing_before front None e = refl
nothing_before front (Some more) e = ap (λ xs. Some (xs ++ encode_utf8_all more)) e

pub loop-byte-init : goal.loop-byte-init
unfolding windows_1252
loop-byte-init c = nothing_before (string_bytes c.new-text.result) (windows_1252_chars c.args.bytes.now) c.new-text.ensures.bytes
