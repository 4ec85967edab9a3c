use Rattle.std.proofs.Common.{◌≡◌, ◌++◌, ◌∷◌, [], string_bytes}
use Rattle.std.specs.List.{flat_map}
use Rattle.std.specs.Str.Iter.{chars_rest}
use Rattle.mpd_text.specs.Lines.Quoted.{escaped, quoted_text}
use Rattle.mpd_text.proofs.lines.quoted.quote.Given as goal

abbrev pub invariant-loop-character : goal.invariant-loop-character
invariant-loop-character l = string_bytes l.quoted ++ (flat_map escaped (chars_rest l.character-iterator) ++ 34 ∷ []) ≡ quoted_text l.text
