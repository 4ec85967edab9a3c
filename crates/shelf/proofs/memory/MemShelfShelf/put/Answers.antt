use Rattle.shelf.proofs.MemoryLemmas.{put_changes}
use Rattle.shelf.proofs.memory.MemShelfShelf.put.Goals as goal

pub returns-clause-changes : goal.returns-clause-changes
returns-clause-changes c =
    put_changes c.args.self.now.songs c.args.self.now.playlists c.in_ok-name.name c.args.name.now c.in_ok-uris.uris c.args.uris.now c.args.self.now.lists c.insert.new.self
    c.in_ok-insert.ensures.updates c.in_ok-name.ensures.ok c.in_ok-uris.ensures.cases
