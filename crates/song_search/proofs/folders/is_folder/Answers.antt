use Rattle.std.proofs.Common.{◌∙◌, ap, not, length, arith, List}
use Rattle.std.specs.Prelude.{nat_eq}
use Rattle.std.proofs.lemmas.Bool.Decides.{nat_tests}
use Rattle.mpd_text.specs.Songs.Song.{SongData}
use Rattle.song_search.proofs.Between.{folder_is}
use Rattle.song_search.proofs.folders.is_folder.Goals as goal

pub returns-else-is_empty : goal.returns-else-is_empty
returns-else-is_empty c =
    ap not c.is_empty-else-is_empty.ensures ∙ ap (λ (xs : List SongData). not (nat_eq (length xs) 0)) c.under.ensures.songs
    ∙ folder_is c.args.folder.now c.args.db.now (grind (arith, nat_tests, c.if-is_empty.false, c.is_empty.ensures))
