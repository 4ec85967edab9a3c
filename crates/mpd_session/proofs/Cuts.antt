-- Where the bytes are cut does not matter.
use Rattle.std.proofs.Common.{◌≡◌, ℕ, List, [], ◌∷◌, ◌++◌, map, Option, None, Some, refl, sym, ap, subst, ◌∙◌, append_assoc, append-nil}
use Rattle.std.proofs.lemmas.List.{map-append}
use Rattle.std.specs.Io.KnownBytes.{Consumes}
use Rattle.command_lists.specs.Lists.{LineData}
use Rattle.mpd_text.specs.Lines.Cut.{Split, split, split_from, then_split}
use Rattle.mpd_text.specs.Lines.Split.{line_of}
use Rattle.transitions.specs.declared.reply.Next.{Next}
use Rattle.mpd_session.specs.declared.end.End.{End}
use Rattle.mpd_session.specs.Requests.{Asking, ListState, Gathered}
use Rattle.mpd_session.specs.Sessions.{Pending, Coming, coming, coming_from, fed, read_on, then_read, ahead, Continues, Side, StepsTo, Turns}
use Rattle.mpd_session.proofs.Gathers.{gather_append}
use Rattle.mpd_session.proofs.Sending.{grows_both}
use Rattle.mpd_session.proofs.Runs.{ahead_twice, steps_later}

abbrev Law : Type 0
Law = (stream more : List ℕ) → split (stream ++ more) ≡ then_split (split stream) more

ahead_read : (c : Coming) (rs : List Asking) (bytes : List ℕ) → then_read (ahead rs c) bytes ≡ ahead rs (then_read c bytes)
ahead_read c rs bytes = sym (ahead_twice rs c.asked (coming (record { list = c.list; lines = []; next = c.next; piece = bytes })))

abbrev then_fed : Split → List ℕ → Split
then_fed s more = record { lines = s.lines ++ (fed s.next more).lines; next = (fed s.next more).next }

split_more : Law → (next : Option (List ℕ)) (piece more : List ℕ) → split_from next (piece ++ more) ≡ then_split (split_from next piece) more
split_more cuts None piece more = refl
split_more cuts (Some partial) piece more = ap split (sym (append_assoc partial piece more)) ∙ cuts (partial ++ piece) more

fed_more : Law → (next : Option (List ℕ)) (piece more : List ℕ) → fed next (piece ++ more) ≡ then_fed (fed next piece) more
fed_more cuts next [] more = refl
fed_more cuts next (x ∷ xs) [] =
    ap (λ (l : List ℕ). split_from next (x ∷ l)) (append-nil xs)
    ∙ ap (λ (l : List (List ℕ)). record { lines = l; next = (split_from next (x ∷ xs)).next }) (sym (append-nil (split_from next (x ∷ xs)).lines))
fed_more cuts next (x ∷ xs) (y ∷ ys) = split_more cuts next (x ∷ xs) (y ∷ ys)

gathered : (list : ListState) (lines : List LineData) (s : Split) (more : List ℕ)
    → coming_from list (lines ++ map line_of (then_fed s more).lines) (then_fed s more).next
    ≡ then_read (coming_from list (lines ++ map line_of s.lines) s.next) more
unfolding coming
gathered list lines s more =
    let t : Split = fed s.next more in
    let whole : List LineData = lines ++ map line_of s.lines in
    ap (λ (ls : List LineData). coming_from list (lines ++ ls) t.next) (map-append line_of s.lines t.lines)
    ∙ ap (λ (ls : List LineData). coming_from list ls t.next) (sym (append_assoc lines (map line_of s.lines) (map line_of t.lines)))
    ∙ ap (λ (g : Gathered). record { asked = g.asked; list = g.list; next = t.next }) (gather_append list whole (map line_of t.lines))

read_once : Law → (p : Pending) (bytes : List ℕ) → coming (read_on p bytes) ≡ then_read (coming p) bytes
unfolding coming
read_once cuts p bytes =
    ap (λ (s : Split). coming_from p.list (p.lines ++ map line_of s.lines) s.next) (fed_more cuts p.next p.piece bytes)
    ∙ gathered p.list p.lines (fed p.next p.piece) bytes

read_twice : Law → (p : Pending) (bytes more : List ℕ) → coming (read_on p (bytes ++ more)) ≡ then_read (coming (read_on p bytes)) more
read_twice cuts p bytes more =
    ap (λ (x : List ℕ). coming (record { list = p.list; lines = p.lines; next = p.next; piece = x })) (sym (append_assoc p.piece bytes more))
    ∙ read_once cuts (read_on p bytes) more

pub in_any_cut : Law → (p : Pending) (bytes more : List ℕ) → (coming (read_on p bytes) ≡ then_read (coming p) bytes) × (coming (read_on p (bytes ++ more)) ≡ then_read (coming (read_on p bytes)) more)
in_any_cut cuts p bytes more = (read_once cuts p bytes, read_twice cuts p bytes more)

consumes_both : (a b c : Option (List ℕ)) (bs cs : List ℕ) → Consumes a b bs → Consumes b c cs → Consumes a c (bs ++ cs)
consumes_both None b c bs cs p q = tt
consumes_both (Some x) None c bs cs p q = absurd p
consumes_both (Some x) (Some y) None bs cs p q = absurd q
consumes_both (Some x) (Some y) (Some z) bs cs p q = p ∙ ap (λ (l : List ℕ). bs ++ l) q ∙ sym (append_assoc bs cs z)

module _ {P : Type 0} (A : P → Asking → List ℕ → Next → P → Type 0) (cuts : Law) where
  pub turns_both : (old mid new : Side P) → mid.held.ended ≡ None → Turns A old mid → Turns A mid new → Turns A old new
  turns_both old mid new e (read, consumes, (out, s, g)) (read', consumes', (out', t, h)) =
      let whole_before : Coming = coming (read_on old.held.pending read) in
      let whole_after : Coming = coming (read_on old.held.pending (read ++ read')) in
      let more : Coming = coming (read_on mid.held.pending read') in
      let before : Continues A whole_before old.has (coming mid.held.pending) mid.has out =
      subst (λ (x : Option End). StepsTo A x whole_before old.has mid.held mid.has out) e s in
      let rs : List Asking = before.0 in
      let whole : whole_after ≡ ahead rs more =
      read_twice cuts old.held.pending read read'
      ∙ ap (λ (x : Coming). then_read x read') before.1
      ∙ ahead_read (coming mid.held.pending) rs read'
      ∙ ap (λ (x : Coming). ahead rs x) (sym (read_once cuts mid.held.pending read')) in
      let both : Continues A whole_after old.has more mid.has out = (rs, whole, before.2) in (
        read ++ read',
        consumes_both old.unread mid.unread new.unread read read' consumes consumes',
        (
          out ++ out',
          steps_later A new.held.ended whole_after more old.has mid.has new.has new.held out out' both t,
          grows_both old.written mid.written new.written old.held.unsent mid.held.unsent new.held.unsent out out' g h,
        ),
      )
