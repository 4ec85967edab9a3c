use Rattle.std.proofs.Common.{None, is_ok, bytes_eq}
use Rattle.std.specs.Map.{update}
use Rattle.shelf.specs.Memory.{texts_of}
use Rattle.shelf.proofs.MemoryLemmas.{song_changes, playlist_changes}
use Rattle.shelf.proofs.memory.MemShelfShelf.delete_sticker.Goals as goal

pub returns-in-Song-clause-changes : goal.returns-in-Song-clause-changes
returns-in-Song-clause-changes c =
    let old = c.args.self.now in
    rw c.in-Song.is (song_changes old.lists old.songs old.playlists (is_ok c.delete.result) c.args.target.now (update bytes_eq (texts_of old.songs c.args.target.now) c.args.name.now None) c.delete.new.self c.delete.ensures.changes)

pub returns-in-Playlist-clause-changes : goal.returns-in-Playlist-clause-changes
returns-in-Playlist-clause-changes c =
    let old = c.args.self.now in
    rw c.in-Playlist.is (playlist_changes old.lists old.songs old.playlists (is_ok c.delete-in-Playlist.result) c.args.target.now (update bytes_eq (texts_of old.playlists c.args.target.now) c.args.name.now None) c.delete-in-Playlist.new.self c.delete-in-Playlist.ensures.changes)
