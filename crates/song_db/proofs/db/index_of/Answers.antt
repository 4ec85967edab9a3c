use Rattle.std.proofs.Common.{rules}
use Rattle.std.proofs.lemmas.Fn.{always_returns_same}
use Rattle.std.specs.Ordering.{nat_cmp}
use Rattle.std.specs.Cmp.Lexicographic.{slice_cmp}
use Rattle.mpd_text.specs.Songs.Song.{SongData}
use Rattle.song_db.proofs.Search.{found, missing}
use Rattle.song_db.proofs.db.index_of.Goals as goal

pub returns-clause-found : goal.returns-clause-found
returns-clause-found c =
    rw c.ok.ensures.value (found c.args.songs.now c.args.uri.now c.binary_search_by.result c.requires c.binary_search_by.ensures.bound
    (c.binary_search_by.ensures.position (λ (s : SongData). slice_cmp nat_cmp s.uri c.args.uri.now) (always_returns_same _ _ _ (λ a r f called. search rules))))

pub returns-clause-none : goal.returns-clause-none
returns-clause-none c =
    rw c.ok.ensures.value (missing c.args.songs.now c.args.uri.now c.binary_search_by.result c.requires c.binary_search_by.ensures.bound
    (c.binary_search_by.ensures.position (λ (s : SongData). slice_cmp nat_cmp s.uri c.args.uri.now) (always_returns_same _ _ _ (λ a r f called. search rules))))
