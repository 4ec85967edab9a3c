use Rattle.std.proofs.Common.{◌∙◌, ap, Bor, List, ℕ}
use Rattle.std.specs.Global.{Vec}
use Rattle.song_groups.specs.Tuples.{ascending_tuples, tuples_now}
use Rattle.song_groups.proofs.TupleLists.{same_ascending}
use Rattle.song_groups.proofs.grouping.tuples.Goals as goal

pub returns : goal.returns
returns c = c.sort_tuples_once.ensures ∙ ap (λ (tuples : List (Vec (Bor (List ℕ)))). ascending_tuples (tuples_now tuples)) c.in_ok-found.ensures ∙ same_ascending _ _ c.in_ok-listed.ensures
