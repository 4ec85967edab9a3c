use Rattle.std.proofs.Common.{◌≡◌, None, [], rules, subst, sym}
use Rattle.std.specs.BTreeMap.{get_by_text}
use Rattle.shelf.specs.Maps.{AreEntries}
use Rattle.shelf.specs.Memory.{text_in}
use Rattle.shelf.proofs.StickerLemmas.{none_listed}
use Rattle.shelf.proofs.stickers.Stickers.of_target.Goals as goal

pub returns-in-None-clause-entries : goal.returns-in-None-clause-entries
returns-in-None-clause-entries c =
    let known : get_by_text c.args.self.now.targets c.args.target.now ≡ None = search rules in
    rw c.new.ensures.items (subst (λ names. AreEntries (text_in names) []) (sym known) none_listed)
