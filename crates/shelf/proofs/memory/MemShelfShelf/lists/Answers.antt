use Rattle.std.proofs.Common.{◌≡◌, map, string_bytes, rules, subst, sym, ap, ◌∙◌}
use Rattle.std.specs.Map.{keys_of}
use Rattle.std.specs.Map.Iter.{deref}
use Rattle.std.proofs.lemmas.Map.Iter.{iter_end}
use Rattle.std.proofs.lemmas.Simd.{map-map}
use Rattle.shelf.specs.Maps.{AreKeys}
use Rattle.std.specs.BTreeMap.{get_by_text}
use Rattle.shelf.proofs.MemoryLemmas.{keys_listed}
use Rattle.shelf.proofs.memory.MemShelfShelf.lists.Goals as goal

pub returns-clause-names : goal.returns-clause-names
returns-clause-names c = λ h.
    let lists = c.args.self.now.lists in
    let walked : map deref c.loop-name.yielded ≡ keys_of lists.entries = search (rules, iter_end) in
    let is : map string_bytes c.loop-name.names.items ≡ map string_bytes (keys_of lists.entries) =
    c.loop-name.invariant ∙ sym (map-map string_bytes deref c.loop-name.yielded) ∙ ap (map string_bytes) walked in
    subst (AreKeys (get_by_text lists)) (sym is) (keys_listed lists c.keys-name-items.ensures.ordered)
