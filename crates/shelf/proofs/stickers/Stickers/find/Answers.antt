use Rattle.std.proofs.Common.{◌≡◌, map, rules, subst, sym, ap, ◌∙◌}
use Rattle.std.specs.Map.Iter.{deref_pair}
use Rattle.std.proofs.lemmas.Map.Iter.{iter_end}
use Rattle.std.proofs.lemmas.List.Folds.{flat_map-map}
use Rattle.shelf.specs.Entries.{entry_texts}
use Rattle.shelf.specs.Maps.{AreEntries}
use Rattle.shelf.specs.Memory.{stickers_in}
use Rattle.shelf.proofs.StickerLemmas.{found_at, found_in, found_listed}
use Rattle.shelf.proofs.stickers.Stickers.find.Goals as goal

pub returns-clause-entries : goal.returns-clause-entries
returns-clause-entries c =
    let targets = c.args.self.now.targets in
    let name = c.args.name.now in
    let walked : map deref_pair c.loop-target.yielded ≡ targets.entries = search (rules, iter_end) in
    let is : map entry_texts c.loop-target.found.items ≡ found_in name targets.entries =
    c.loop-target.invariant ∙ sym (flat_map-map (found_at name) deref_pair c.loop-target.yielded) ∙ ap (found_in name) walked in
    subst (AreEntries (λ target. stickers_in targets target name)) (sym is) (found_listed name targets c.iter-target-items.ensures.ordered)
