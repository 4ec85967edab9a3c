use Rattle.std.proofs.Common.{◌≡◌, Some, None, rules}
use Rattle.std.specs.BTreeMap.{get_by_text, IsUnchanged}
use Rattle.shelf.proofs.StickerLemmas.{set_within, kept_entries}
use Rattle.shelf.proofs.stickers.Stickers.delete.Goals as goal

pub returns-clause-changes : goal.returns-clause-changes
returns-clause-changes c =
    let old = c.args.self.now.targets in
    let known : get_by_text old c.args.target.now ≡ Some c.in-Some.names.now = search rules in
    set_within c.args.target.now old (c.get_mut.follows.lender c.remove.new.self) c.args.name.now c.in-Some.names.now c.remove.new.self None known
    ((c.get_mut.follows.holds c.remove.new.self).3 (search rules)) c.remove.ensures.updates

pub returns-then-is_none-clause-changes : goal.returns-then-is_none-clause-changes
returns-then-is_none-clause-changes c =
    let old = c.args.self.now.targets in
    let known : get_by_text old c.args.target.now ≡ Some c.in-Some.names.now = search rules in
    let same : IsUnchanged c.in-Some.names.now c.remove.new.self = search rules in
    kept_entries c.args.target.now old (c.get_mut.follows.lender c.remove.new.self) c.in-Some.names.now c.remove.new.self known
    ((c.get_mut.follows.holds c.remove.new.self).3 (search rules)) same
