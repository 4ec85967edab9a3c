use Rattle.std.proofs.Common.{◌∙◌, ap, List, ℕ, length, nat_eq, not}
use Rattle.song_groups.proofs.TupleLists.{last_of}
use Rattle.song_groups.proofs.grouping.is_listed.Goals as goal

pub returns-in-Some : goal.returns-in-Some
returns-in-Some c =
    ap not c.is_empty.ensures ∙ ap (λ (t : List ℕ). not (nat_eq (length t) 0)) c.text_in.ensures
    ∙ last_of c.args.columns.now c.in-Some.column.now c.args.song.now c.in-Some.ensures.value
