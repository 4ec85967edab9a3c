use Rattle.std.proofs.Common.{◌∙◌, ◌++◌, List, ℕ, ap, sym}
use Rattle.song_search.proofs.Between.{not_in, in_by_rest}
use Rattle.song_search.proofs.folders.is_in.Goals as goal

pub returns-in-None : goal.returns-in-None
returns-in-None c = not_in c.args.folder.now c.args.uri.now (λ rest e. c.in-None.ensures rest (c.as_bytes.ensures.value ∙ e ∙ ap (λ (t : List ℕ). t ++ rest) (sym c.as_bytes-2.ensures.value)))

pub returns-in-Some : goal.returns-in-Some
returns-in-Some c =
    c.begins_with_slash.ensures
    ∙ in_by_rest c.args.folder.now c.args.uri.now c.in-Some.rest.now (sym c.as_bytes.ensures.value ∙ c.in-Some.ensures ∙ ap (λ (t : List ℕ). t ++ c.in-Some.rest.now) c.as_bytes-2.ensures.value)
