-- What came and is not answered.
use Rattle.std.proofs.Common.{◌≡◌, ◌≢◌, ℕ, List, [], ◌∷◌, ◌++◌, map, Option, refl, sym, ap, ◌∙◌, append-nil}
use Rattle.command_lists.specs.Lists.{LineData}
use Rattle.mpd_text.specs.Lines.Cut.{split_from}
use Rattle.mpd_text.specs.Lines.Split.{line_of}
use Rattle.mpd_session.specs.declared.gatherer.ClientRequest.{ClientRequest}
use Rattle.mpd_session.specs.Requests.{ListState, Over, Gathered, Takes, askings_of, gather}
use Rattle.mpd_session.specs.Sessions.{Pending, coming, coming_from, fed, ahead}
use Rattle.mpd_session.proofs.Gathers.{none_behind}

abbrev pub pend : ListState → List LineData → Option (List ℕ) → List ℕ → Pending
pend list lines next piece = record { list = list; lines = lines; next = next; piece = piece }

-- a piece is split
pub split_here : (list : ListState) (lines lines' : List LineData) (next next' : Option (List ℕ)) (piece piece' : List ℕ)
    → lines ≡ [] → piece ≢ [] → piece' ≡ [] → lines' ≡ map line_of (split_from next piece).lines → next' ≡ (split_from next piece).next
    → coming (pend list lines' next' piece') ≡ coming (pend list lines next piece)
unfolding coming
split_here list lines lines' next next' [] piece' none some done are is = absurd (some refl)
split_here list lines lines' next next' (b ∷ bs) piece' none some done are is =
    ap (λ (p : List ℕ). coming_from list (lines' ++ map line_of (fed next' p).lines) (fed next' p).next) done
    ∙ ap (λ (ls : List LineData). coming_from list ls next') (append-nil lines' ∙ are)
    ∙ ap (λ (n : Option (List ℕ)). coming_from list (map line_of (split_from next (b ∷ bs)).lines) n) is
    ∙ ap (λ (ls : List LineData). coming_from list (ls ++ map line_of (split_from next (b ∷ bs)).lines) (split_from next (b ∷ bs)).next) (sym none)

-- a line is taken
pub taken : (old new : ListState) (lines left : List LineData) (asked : Option ClientRequest) (next : Option (List ℕ)) (piece : List ℕ)
    → lines ≢ [] → Takes old lines asked new left → coming (pend old lines next piece) ≡ ahead (askings_of asked) (coming (pend new left next piece))
unfolding coming gather
taken old new [] left asked next piece some takes = absurd (some refl)
taken old new (l ∷ ls) left asked next piece some (rest, is) =
    let more : List LineData = map line_of (fed next piece).lines in
    ap (λ (g : Gathered). record { asked = g.asked ++ (gather g.list (ls ++ more)).asked; list = (gather g.list (ls ++ more)).list; next = (fed next piece).next }) is
    ∙ ap (λ (x : List LineData). ahead (askings_of asked) (coming_from new (x ++ more) (fed next piece).next)) (sym rest)

-- nothing waits
pub none_waits : (p : Pending) → p.lines ≡ [] → p.piece ≡ [] → coming p ≡ record { asked = []; list = p.list; next = p.next }
unfolding coming gather
none_waits p lines piece =
    ap (λ (b : List ℕ). coming_from p.list (p.lines ++ map line_of (fed p.next b).lines) (fed p.next b).next) piece
    ∙ ap (λ (ls : List LineData). coming_from p.list (ls ++ []) p.next) lines

-- a list is too large
pub no_more : (p : Pending) → p.list ≡ Over → (coming p).asked ≡ [] × (coming p).list ≡ Over
unfolding coming
no_more p is =
    let all : List LineData = p.lines ++ map line_of (fed p.next p.piece).lines in
    let e : gather p.list all ≡ record { asked = []; list = Over } = ap (λ (h : ListState). gather h all) is ∙ none_behind all in
    (ap (λ (g : Gathered). g.asked) e, ap (λ (g : Gathered). g.list) e)
