use Rattle.std.proofs.Common.{sym, ◌∙◌, ap}
use Rattle.mpd_text.specs.Songs.Song.{SongData}
use Rattle.song_groups.specs.Tuples.{has_last, tuple_of}
use Rattle.song_groups.proofs.TupleLists.{song_put, song_passed}
use Rattle.song_groups.proofs.grouping.listed_tuples.Goals as goal
use Rattle.song_groups.proofs.grouping.listed_tuples.Goals.{then-is_listed+in_ok-tuple+in_ok-insert, else-is_listed}

pub loop-song-preserved : goal.loop-song-preserved
loop-song-preserved c =
    elim c.if-is_listed.branch [
      | then-is_listed+in_ok-tuple+in_ok-insert w ↦
          rw (w.found-is) (song_put c.args.columns.now c.args.songs.now c.loop-song.song-index c.song-item.result c.loop-song.found.keys w.insert.new.self.keys w.in_ok-tuple.tuple w.in_ok-insert.field-0
          c.loop-song-test.true c.song-item.is c.loop-song.invariant
          (ap (λ (s : SongData). has_last (tuple_of c.args.columns.now s)) (sym c.song.ensures) ∙ sym c.is_listed.ensures ∙ w.if-is_listed.true)
          (w.in_ok-tuple.ensures ∙ ap (tuple_of c.args.columns.now) (w.song-then-is_listed.ensures))
          w.in_ok-insert.ensures.added w.in_ok-insert.ensures.keys)
      | else-is_listed w ↦
          rw (w.found-is) (song_passed c.args.columns.now c.args.songs.now c.loop-song.song-index c.song-item.result c.loop-song.found.keys
          c.loop-song-test.true c.song-item.is c.loop-song.invariant
          (ap (λ (s : SongData). has_last (tuple_of c.args.columns.now s)) (sym c.song.ensures) ∙ sym c.is_listed.ensures ∙ w.if-is_listed.false))
    ]
