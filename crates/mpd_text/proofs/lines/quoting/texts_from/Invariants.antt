use Rattle.std.proofs.Common.{◌≡◌, map, string_bytes, ◌++◌}
use Rattle.std.specs.Str.{IsUtf8}
use Rattle.std.specs.List.{AllByRecursion}
use Rattle.std.specs.Vec.Iter.{into_iter_items}
use Rattle.mpd_text.proofs.lines.quoting.texts_from.Given as goal

abbrev pub invariant-loop-word : goal.invariant-loop-word
invariant-loop-word l = goal.iterator-loop-word.can_next l.word-iterator
    × goal.iterator-loop-word.is_finite l.word-iterator
    × (map string_bytes l.texts.items ++ map (λ word. word.items) (into_iter_items l.word-iterator) ≡ map (λ word. word.items) l.fn.words.items)
    × AllByRecursion (λ word. IsUtf8 word.items) (into_iter_items l.word-iterator)
