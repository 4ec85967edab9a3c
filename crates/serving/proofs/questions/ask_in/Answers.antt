use Rattle.std.proofs.Common.{◌≡◌, ◌∙◌, List, [], ◌∷◌, ◌++◌, ap, append_assoc, codes, refl}
use Rattle.mpd_command.specs.Names.{fewest}
use Rattle.mpd_command.specs.Requests.{request_of}
use Rattle.mpd_text.specs.Lines.Quoted.{quoted_text}
use Rattle.serving.specs.Keeping.{asked_by}
use Rattle.serving.proofs.questions.ask_in.Goals as goal

four : {A : Type 0} (none one two three all : List A) (a b c d : A) → one ≡ none ++ a ∷ [] → two ≡ one ++ b ∷ [] → three ≡ two ++ c ∷ []
    → all ≡ three ++ d ∷ [] → all ≡ none ++ (a ∷ b ∷ c ∷ d ∷ [])
four none one two three all a b c d e1 e2 e3 e4 =
    let joined : (((none ++ a ∷ []) ++ b ∷ []) ++ c ∷ []) ++ d ∷ [] ≡ none ++ (a ∷ b ∷ c ∷ d ∷ []) = simp append_assoc refl in
    e4 ∙ ap (λ l. l ++ d ∷ []) (e3 ∙ ap (λ l. l ++ c ∷ []) (e2 ∙ ap (λ l. l ++ b ∷ []) e1)) ∙ joined

pub returns : goal.returns
returns c =
    let old = c.args.requests.now.items in
    four old c.ask.new.requests.items c.ask-2.new.requests.items c.ask-3.new.requests.items c.ask-4.new.requests.items
    (asked_by (codes "partition " ++ quoted_text c.args.name.now)) (asked_by (codes "status")) (asked_by (codes "outputs")) (asked_by (codes "playlistinfo"))
    (c.in_ok-ask.ensures ∙ ap (λ line. old ++ request_of line fewest ∷ []) (c.as_str.ensures.value ∙ c.in_ok-going.ensures))
    c.in_ok-ask-2.ensures c.in_ok-ask-3.ensures c.in_ok-ask-4.ensures
