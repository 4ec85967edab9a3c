use Rattle.std.proofs.Common.{◌∙◌, ◌++◌, ◌∷◌, [], List, ℕ, ap, sym}
use Rattle.std.specs.Ordering.{is_lt}
use Rattle.mpd_text.specs.Texts.{by_bytes}
use Rattle.song_search.proofs.Between.{apart_before, behind_front}
use Rattle.song_search.proofs.folders.comes_before.Goals as goal

pub returns-in-None : goal.returns-in-None
returns-in-None c =
    c.is_lt.ensures ∙ ap is_lt c.cmp.ensures
    ∙ apart_before c.args.folder.now c.args.uri.now (47 ∷ []) (λ rest e. c.in-None.ensures rest (c.as_bytes.ensures.value ∙ e ∙ ap (λ (t : List ℕ). t ++ rest) (sym c.as_bytes-2.ensures.value)))

pub returns-in-Some : goal.returns-in-Some
returns-in-Some c =
    c.is_before_slash.ensures
    ∙ ap is_lt (sym (ap (λ (t : List ℕ). by_bytes t (c.args.folder.now ++ 47 ∷ [])) (sym c.as_bytes.ensures.value ∙ c.in-Some.ensures ∙ ap (λ (t : List ℕ). t ++ c.in-Some.rest.now) c.as_bytes-2.ensures.value) ∙ behind_front c.args.folder.now c.in-Some.rest.now (47 ∷ [])))
