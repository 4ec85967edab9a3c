use Rattle.std.proofs.Common.{is_ok}
use Rattle.shelf.specs.Maps.{no_stickers}
use Rattle.shelf.proofs.MemoryLemmas.{song_changes, playlist_changes}
use Rattle.shelf.proofs.memory.MemShelfShelf.delete_stickers.Goals as goal

pub returns-in-Song-clause-changes : goal.returns-in-Song-clause-changes
returns-in-Song-clause-changes c =
    let old = c.args.self.now in
    rw c.in-Song.is (song_changes old.lists old.songs old.playlists (is_ok c.delete_all.result) c.args.target.now no_stickers c.delete_all.new.self c.delete_all.ensures.changes)

pub returns-in-Playlist-clause-changes : goal.returns-in-Playlist-clause-changes
returns-in-Playlist-clause-changes c =
    let old = c.args.self.now in
    rw c.in-Playlist.is (playlist_changes old.lists old.songs old.playlists (is_ok c.delete_all-in-Playlist.result) c.args.target.now no_stickers c.delete_all-in-Playlist.new.self c.delete_all-in-Playlist.ensures.changes)
