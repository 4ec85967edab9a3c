use Rattle.shelf.proofs.MemoryLemmas.{remove_changes}
use Rattle.shelf.proofs.memory.MemShelfShelf.remove.Goals as goal

pub returns-clause-changes : goal.returns-clause-changes
returns-clause-changes c =
    remove_changes c.args.self.now.songs c.args.self.now.playlists c.args.name.now c.args.self.now.lists c.remove.new.self c.delete_all.new.self c.remove.ensures.updates c.delete_all.ensures.gone
