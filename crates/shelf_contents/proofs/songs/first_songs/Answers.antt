use Rattle.std.proofs.Common.{◌-◌, ◌++◌, take, rules, ap, ◌∙◌}
use Rattle.std.specs.List.{filter_map}
use Rattle.shelf.specs.Lines.{lines_of}
use Rattle.song_db.specs.Library.{song_of}
use Rattle.shelf_contents.proofs.Walks.{song_more}
use Rattle.shelf_contents.proofs.songs.first_songs.Goals as goal

pub loop-left-preserved : goal.loop-left-preserved
loop-left-preserved c =
    let rest = filter_map (song_of c.args.db.now) (take (c.loop-left.left - 1) (lines_of c.in-Some.more.now)) in
    let step = song_more (song_of c.args.db.now) c.loop-left.songs.items (lines_of c.loop-left.rest.now) (lines_of c.in-Some.more.now) c.in-Some.uri.now c.loop-left.left c.in-Some.ensures.lines c.loop-left-test.true in
    (search rules, ap (λ front. front ++ rest) c.in_ok-push_song_at.ensures ∙ step ∙ c.loop-left.invariant.1)
