use Rattle.std.proofs.Common.{◌∙◌, ap, List, Bor, map}
use Rattle.std.proofs.lemmas.Result.{IfOk-weaker}
use Rattle.mpd_text.specs.Songs.Song.{SongData}
use Rattle.song_groups.specs.Counts.{groups}
use Rattle.song_groups.proofs.GroupLists.{same_groups}
use Rattle.song_groups.proofs.counting.count_groups.Goals as goal

pub returns : goal.returns
returns c =
    IfOk-weaker c.count_ordered.result _ _ (λ found e.
    e ∙ ap (λ (songs : List (Bor SongData)). groups c.args.column c.args.rate.now (map (λ s. s.now) songs)) c.deref.ensures.value
    ∙ same_groups c.args.column c.args.rate.now _ _ c.in_ok-order_by_text.ensures.order
    ∙ ap (λ (songs : List (Bor SongData)). groups c.args.column c.args.rate.now (map (λ s. s.now) songs)) c.in_ok-ordered.ensures.items)
    c.count_ordered.ensures
