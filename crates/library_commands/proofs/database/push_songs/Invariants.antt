use Rattle.std.proofs.Common.{◌≡◌, ◌++◌, drop}
use Rattle.std.specs.Prelude.{map}
use Rattle.std.specs.List.{flat_map}
use Rattle.known_tags.specs.Lines.{song_lines_with}
use Rattle.library_commands.proofs.database.push_songs.Given as goal

abbrev pub invariant-loop-song : goal.invariant-loop-song
invariant-loop-song l =
    l.lines ++ flat_map (song_lines_with l.tags l.library.rate) (map (λ s. s.now) (drop l.song-index l.songs))
    ≡ l.initial.lines ++ flat_map (song_lines_with l.tags l.library.rate) (map (λ s. s.now) l.songs)
