use Rattle.std.proofs.Common.{◌≡◌, Some, map, rules, subst, sym, ap, ◌∙◌}
use Rattle.std.specs.Map.Iter.{deref_pair}
use Rattle.std.proofs.lemmas.Map.Iter.{iter_end}
use Rattle.std.proofs.lemmas.Simd.{map-map}
use Rattle.shelf.specs.Entries.{entry_texts}
use Rattle.shelf.specs.Maps.{AreEntries}
use Rattle.shelf.specs.Memory.{text_in}
use Rattle.shelf.proofs.StickerLemmas.{pair_texts, entries_listed}
use Rattle.shelf.proofs.stickers.all_entries.Goals as goal

pub returns-clause-entries : goal.returns-clause-entries
returns-clause-entries c =
    let names = c.args.names.now in
    let walked : map deref_pair c.loop-name.yielded ≡ names.entries = search (rules, iter_end) in
    let is : map entry_texts c.loop-name.entries.items ≡ map pair_texts names.entries =
    c.loop-name.invariant ∙ sym (map-map pair_texts deref_pair c.loop-name.yielded) ∙ ap (map pair_texts) walked in
    subst (AreEntries (text_in (Some names))) (sym is) (entries_listed names c.iter-name-items.ensures.ordered)
