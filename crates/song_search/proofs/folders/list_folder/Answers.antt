use Rattle.std.proofs.Common.{◌∙◌, ap, rules}
use Rattle.mpd_text.specs.Songs.Song.{SongData}
use Rattle.song_search.specs.Folders.{folder_below}
use Rattle.song_search.proofs.Walk.{walk_begins, walks_on, passes, walks_past, walk_folders, walk_songs}
use Rattle.song_search.proofs.folders.list_folder.Goals as goal

pub loop-first-init : goal.loop-first-init
loop-first-init c = walk_begins _ _ _ _ _ c.under-rest.ensures.songs c.under-rest.ensures.order c.new-folders.ensures.items c.new-songs.ensures.items

pub after_folder-rest-requires : goal.after_folder-rest-requires
after_folder-rest-requires c =
    passes _ _ _ _ c.in-Some.first.now _ _ c.in-Some.ensures.cases.0 c.loop-first.invariant c.in-Some-folder_below.below
    (c.in-Some-folder_below.ensures ∙ ap (folder_below c.args.folder.now) (c.uri.ensures.uri ∙ ap (λ (s : SongData). s.uri) c.song.ensures))

pub loop-first-preserved-in-Some-folder_below : goal.loop-first-preserved-in-Some-folder_below
loop-first-preserved-in-Some-folder_below c =
    walks_past _ _ _ _ c.in-Some.first.now _ _ c.in-Some.ensures.cases.0 c.loop-first.invariant c.in-Some-folder_below.below
    (c.in-Some-folder_below.ensures ∙ ap (folder_below c.args.folder.now) (c.uri.ensures.uri ∙ ap (λ (s : SongData). s.uri) c.song.ensures))
    _ _ (search rules) c.after_folder-rest.ensures

pub loop-first-preserved : goal.loop-first-preserved
loop-first-preserved c =
    walks_on _ _ _ _ c.in-Some.first.now _ _ c.in-Some.ensures.cases.0 c.loop-first.invariant c.in-Some.first _ (search rules)
    (c.in-None.ensures ∙ ap (folder_below c.args.folder.now) (c.uri.ensures.uri ∙ ap (λ (s : SongData). s.uri) c.song.ensures))
    (search rules)

pub returns-clause-folders : goal.returns-clause-folders
returns-clause-folders c = c.sort_once.ensures ∙ walk_folders c.args.folder.now c.args.db.now _ _ _ c.loop-first.invariant (search rules)

pub returns-clause-songs : goal.returns-clause-songs
returns-clause-songs c = walk_songs c.args.folder.now c.args.db.now _ _ _ c.loop-first.invariant (search rules)
