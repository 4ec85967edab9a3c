use Rattle.std.specs.Cmp.Lexicographic.{on_texts, texts_ties}
use Rattle.std.proofs.lemmas.List.Filters.{dedup_is}
use Rattle.std.proofs.lemmas.List.Kept.{IsStrictlySortedBy-dedup}
use Rattle.mpd_text.proofs.Ascending.{sorts}
use Rattle.mpd_text.proofs.texts.sort_once.Goals as goal

pub returns : goal.returns
returns c =
    rw (dedup_is _ _ _ c.dedup.ensures.filtered) (sorts _ _ c.sort_unstable.ensures.permutation (IsStrictlySortedBy-dedup (on_texts (λ x. x.now)) (λ x y. texts_ties x.now y.now) _ c.sort_unstable.ensures.sorted))
