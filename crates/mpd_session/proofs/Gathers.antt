-- What lines ask for.
use Rattle.std.proofs.Common.{◌≡◌, List, [], ◌∷◌, ◌++◌, refl, sym, ap, ◌∙◌, append_assoc}
use Rattle.command_lists.specs.Lists.{LineData}
use Rattle.mpd_session.specs.Requests.{Asking, ListState, Over, Gathered, onto, gather, gather_line, then_gather}

abbrev with_asked : List Asking → ListState → Gathered
with_asked asked list = record { asked = asked; list = list }

pub onto_twice : (rs ss : List Asking) (g : Gathered) → onto rs (onto ss g) ≡ onto (rs ++ ss) g
onto_twice rs ss g = ap (λ (qs : List Asking). with_asked qs g.list) (sym (append_assoc rs ss g.asked))

pub gather_append : (state : ListState) (lines more : List LineData) → gather state (lines ++ more) ≡ then_gather (gather state lines) more
unfolding gather
gather_append state [] more = refl
gather_append state (l ∷ ls) more =
    ap (λ (g : Gathered). onto (gather_line state l).asked g) (gather_append (gather_line state l).list ls more)
    ∙ onto_twice (gather_line state l).asked (gather (gather_line state l).list ls).asked (gather (gather (gather_line state l).list ls).list more)

pub none_behind : (more : List LineData) → gather Over more ≡ record { asked = []; list = Over }
unfolding gather
none_behind [] = refl
none_behind (l ∷ ls) = none_behind ls
