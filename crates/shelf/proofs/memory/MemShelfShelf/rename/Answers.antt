use Rattle.std.proofs.Common.{◌≡◌, Some, None, rules}
use Rattle.std.specs.BTreeMap.{get_by_text}
use Rattle.shelf.proofs.MemoryLemmas.{rename_changes, rename_kept}
use Rattle.shelf.proofs.memory.MemShelfShelf.rename.Goals as goal

pub returns-in-Err-clause-changes : goal.returns-in-Err-clause-changes
returns-in-Err-clause-changes c =
    let old = c.args.self.now.lists in
    let free : get_by_text old c.args.new_name.now ≡ None = search rules in
    rename_kept c.args.self.now.songs c.args.self.now.playlists c.args.name.now c.args.new_name.now c.in_ok-key.key c.in_ok-uris-in-Some.uris old c.insert.new.self c.remove.new.self c.move_to.new.self
    c.in_ok-key.ensures.ok c.in_ok-insert.ensures.updates free _ c.remove.ensures.updates c.in-Err.ensures.changes

pub returns-clause-changes : goal.returns-clause-changes
returns-clause-changes c =
    let old = c.args.self.now.lists in
    let found : get_by_text old c.args.name.now ≡ Some c.in-Some.uris.now = search rules in
    let free : get_by_text old c.args.new_name.now ≡ None = search rules in
    let same : c.in_ok-uris-in-Some.uris ≡ c.in-Some.uris.now = search rules in
    rename_changes c.args.self.now.songs c.args.self.now.playlists c.args.name.now c.args.new_name.now c.in_ok-key.key c.in_ok-uris-in-Some.uris old c.insert.new.self c.remove-2.new.self c.move_to.new.self
    c.in_ok-key.ensures.ok c.in_ok-insert.ensures.updates free c.in-Some.uris.now found same c.remove-2.ensures.updates c.in_default.ensures.changes
