-- What a session says, one step after the other.
use Rattle.std.proofs.Common.{◌≡◌, ◌≢◌, ℕ, ◌<◌, arith, Bool, inl, inr, List, [], ◌∷◌, ◌++◌, length, length-append, Option, None, Some, refl, sym, ap, subst, ◌∙◌, append_assoc, append-nil}
use Rattle.std.specs.Prelude.{◌⊎◌, false}
use Rattle.std.specs.Io.KnownBytes.{Consumes}
use Rattle.command_lists.specs.Lists.{LineData}
use Rattle.mpd_text.specs.declared.lines.splitter.Line.{Line}
use Rattle.mpd_text.specs.Lines.Split.{views}
use Rattle.transitions.specs.Answers.{closes}
use Rattle.transitions.specs.declared.reply.Next.{Next}
use Rattle.transitions.specs.declared.reply.Next.TheVariants.{Goes, Waits, Closes, Kills}
use Rattle.mpd_session.specs.declared.end.End.{End}
use Rattle.mpd_session.specs.declared.end.End.TheVariants.{Left, Killed, LongLine, LargeList, Unsent, NoPeer, ReadFault, WriteFault}
use Rattle.mpd_session.specs.declared.gatherer.ClientRequest.{ClientRequest}
use Rattle.mpd_session.specs.Notices.{AreNotices}
use Rattle.mpd_session.specs.Output.{IsOutput, IsOwed}
use Rattle.mpd_session.specs.Requests.{Asking, ListState, Within, Over, Takes, asking_of, askings_of, is_over}
use Rattle.mpd_session.specs.Sessions.{Pending, Coming, coming, ahead, Held, Continues, StopsIn, EndsAt, EndsBy, StepsTo, Steps, Grows, Says, Runs, Sends, SentAs, read_on, with_read, ReadsOn, ReadsTo, ReadsAs, Side, Turns, TellsOf, end_by, end_in_list}
use Rattle.mpd_session.proofs.Outputs.{no_notices, notices_join, join, join_last}
use Rattle.mpd_session.proofs.Pends.{no_more, pend, taken, none_waits}
use Rattle.mpd_session.proofs.Sending.{only_unsent, grows_both, told_eq}

pub ahead_twice : (rs ss : List Asking) (c : Coming) → ahead rs (ahead ss c) ≡ ahead (rs ++ ss) c
ahead_twice rs ss c = ap (λ (q : List Asking). record { asked = q; list = c.list; next = c.next }) (sym (append_assoc rs ss c.asked))

asked_in : (whole left : Coming) (rs : List Asking) → whole ≡ ahead rs left → whole.asked ≡ rs ++ left.asked
asked_in whole left rs is = ap (λ (c : Coming). c.asked) is

cases : (o : Option End) → (o ≡ None) ⊎ ((e : End) × (o ≡ Some e))
cases None = inl refl
cases (Some e) = inr (e, refl)

longer : (xs ys : List ℕ) → 16777216 < length xs → 16777216 < length (xs ++ ys)
longer xs ys h = let e = length-append xs ys in omega (arith, e, h)

pub sent_as : (old new : Option End) (u left owed : List ℕ) → (new ≡ old) ⊎ ((old ≡ None) × ((new ≡ Some WriteFault) ⊎ ((new ≡ Some Unsent) × (16777216 < length left))))
    → old ≢ Some Unsent → SentAs old u new (left ++ owed)
sent_as old new u left owed (inl e) other = inl (e, λ is. absurd (other is))
sent_as old new u left owed (inr (e, inl f)) other = inr (e, inl f)
sent_as old new u left owed (inr (e, inr (f, many))) other = inr (e, inr (f, longer left owed many))

-- a line that was not taken still waits
pub untaken : (h h' : ListState) (ls ls' : List LineData) (next : Option (List ℕ)) (piece : List ℕ) → h' ≡ h → ls' ≡ ls → coming (pend h ls next piece) ≡ coming (pend h' ls' next piece)
untaken h h' ls ls' next piece same lines =
    ap (λ (x : ListState). coming (pend x ls next piece)) (sym same) ∙ ap (λ (x : List LineData). coming (pend h' x next piece)) (sym lines)

-- a client that is told nothing
pub tells_nothing : (unsent : List ℕ) → TellsOf unsent unsent
tells_nothing unsent = ([], no_notices, sym (append-nil unsent))

pub views_some : (ls : List Line) → ls ≢ [] → views ls ≢ []
views_some [] some e = some refl
views_some (l ∷ ls) some e = absurd cc

-- A step takes a line.

took : (old mid new : Held) (h : ListState) (ls : List LineData) (one : Option ClientRequest) → mid.pending ≡ old.pending → old.pending.lines ≢ []
    → Takes mid.pending.list mid.pending.lines one h ls → new.pending ≡ pend h ls mid.pending.next mid.pending.piece → coming old.pending ≡ ahead (askings_of one) (coming new.pending)
took old mid new h ls one same some takes is =
    ap coming (sym same)
    ∙ taken mid.pending.list h mid.pending.lines ls one mid.pending.next mid.pending.piece (λ e. some (ap (λ (p : Pending). p.lines) (sym same) ∙ e)) takes
    ∙ ap (λ (p : Pending). ahead (askings_of one) (coming p)) (sym is)

same_held : (x y : Held) → x.pending ≡ y.pending → x.unsent ≡ y.unsent → x.ended ≡ y.ended → x ≡ y
same_held x y p u e =
    ap (λ (q : Pending). record { pending = q; unsent = x.unsent; ended = x.ended }) p
    ∙ ap (λ (q : List ℕ). record { pending = y.pending; unsent = q; ended = x.ended }) u
    ∙ ap (λ (q : Option End). record { pending = y.pending; unsent = y.unsent; ended = q }) e

-- Bytes are read.

none_read : (u : Option (List ℕ)) → Consumes u u []
none_read None = tt
none_read (Some x) = refl

no_bytes : (p : Pending) → coming (read_on p []) ≡ coming p
no_bytes p = ap (λ (x : List ℕ). coming (pend p.list p.lines p.next x)) (append-nil p.piece)

pub reads_none : (h : Held) (u : Option (List ℕ)) → h.ended ≡ None → ReadsOn h u h u
reads_none h u e = ([], none_read u, subst (λ (x : Option End). ReadsTo x (coming (read_on h.pending [])) h) (sym e) (no_bytes h.pending), refl)

-- nothing is read
pub reads_still : (old new : Held) (u : Option (List ℕ)) → old.ended ≡ None → new.pending ≡ old.pending → new.unsent ≡ old.unsent → new.ended ≡ old.ended → ReadsOn old u new u
reads_still old new u goes pending unsent ended =
    subst (λ (h : Held). ReadsOn old u h u) (sym (same_held new old pending unsent ended)) (reads_none old u goes)

read_to : (e : Option End) (whole : Coming) (new : Held) → whole ≡ coming new.pending → (new.pending.piece ≡ [] → whole.asked ≡ []) → (e ≡ None) ⊎ ((new.pending.piece ≡ []) × ((e ≡ Some NoPeer) ⊎ (e ≡ Some ReadFault))) → ReadsTo e whole new
read_to e whole new is none (inl f) = subst (λ (x : Option End). ReadsTo x whole new) (sym f) is
read_to e whole new is none (inr (piece, inl f)) = subst (λ (x : Option End). ReadsTo x whole new) (sym f) (none piece)
read_to e whole new is none (inr (piece, inr f)) = subst (λ (x : Option End). ReadsTo x whole new) (sym f) tt

pub reads_once : (old new : Held) (u u' : Option (List ℕ)) → old.ended ≡ None → old.pending.lines ≡ [] → old.pending.piece ≡ [] → new.pending ≡ pend old.pending.list old.pending.lines old.pending.next new.pending.piece → new.unsent ≡ old.unsent
    → Consumes u u' new.pending.piece → ReadsAs old.ended new.pending.piece new.ended → ReadsOn old u new u'
reads_once old new u u' goes lines piece is unsent consumes ends =
    let whole : coming (read_on old.pending new.pending.piece) ≡ coming new.pending =
    ap (λ (x : List ℕ). coming (pend old.pending.list old.pending.lines old.pending.next (x ++ new.pending.piece))) piece ∙ ap coming (sym is) in
    let none : new.pending.piece ≡ [] → (coming (read_on old.pending new.pending.piece)).asked ≡ [] =
    λ e. ap (λ (c : Coming). c.asked) (whole ∙ none_waits new.pending (ap (λ (p : Pending). p.lines) is ∙ lines) e) in
    let how : (new.ended ≡ None) ⊎ ((new.pending.piece ≡ []) × ((new.ended ≡ Some NoPeer) ⊎ (new.ended ≡ Some ReadFault))) = elim ends [ inl e ↦ inl (e ∙ goes) | inr e ↦ inr e ] in
    (new.pending.piece, consumes, read_to new.ended (coming (read_on old.pending new.pending.piece)) new whole none how, unsent)

split_to : (e : Option End) (whole : Coming) (mid new : Held) → coming new.pending ≡ coming mid.pending → ReadsTo e whole mid → ReadsTo e whole new
split_to None whole mid new is s = s ∙ sym is
split_to (Some NoPeer) whole mid new is s = s
split_to (Some ReadFault) whole mid new is s = s
split_to (Some Left) whole mid new is s = s
split_to (Some Killed) whole mid new is s = s
split_to (Some LongLine) whole mid new is s = s
split_to (Some LargeList) whole mid new is s = s
split_to (Some Unsent) whole mid new is s = s
split_to (Some WriteFault) whole mid new is s = s

pub reads_split : (old mid new : Held) (u u' : Option (List ℕ)) → ReadsOn old u mid u' → coming new.pending ≡ coming mid.pending → new.unsent ≡ mid.unsent → new.ended ≡ mid.ended → ReadsOn old u new u'
reads_split old mid new u u' (read, consumes, reads, said) is unsent ended =
    (read, consumes, subst (λ (x : Option End). ReadsTo x (coming (read_on old.pending read)) new) (sym ended) (split_to mid.ended (coming (read_on old.pending read)) mid new is reads), unsent ∙ said)

-- what stands before a turn, or after it
abbrev pub as_side : {P : Type 0} → Held → P → Option (List ℕ) → Option (List ℕ) → Side P
as_side held has unread written = record { held = held; has = has; unread = unread; written = written }

module _ {P : Type 0} (A : P → Asking → List ℕ → Next → P → Type 0) where
  pub stays : (c : Coming) (p : P) (notices : List ℕ) → AreNotices notices → Continues A c p c p notices
  stays c p notices n = ([], refl, (n, refl))

  pub joins : (whole left last : Coming) (a b c : P) (out next : List ℕ) → Continues A whole a left b out → Continues A left b last c next → Continues A whole a last c (out ++ next)
  joins whole left last a b c out next (rs, is, o) (ss, js, p) = (rs ++ ss, is ∙ ap (λ (x : Coming). ahead rs x) js ∙ ahead_twice rs ss last, join A a b c rs ss out next o p)

  stops_later : (whole : List Asking) (rs asked : List Asking) (a b c : P) (out next : List ℕ) → whole ≡ rs ++ asked → IsOutput A a rs out b → StopsIn A asked b c next → StopsIn A whole a c (out ++ next)
  stops_later whole rs asked a b c out next is o (front, more, js, p) =
      (rs ++ front, more, is ∙ ap (λ (q : List Asking). rs ++ q) js ∙ sym (append_assoc rs front more), join A a b c rs front out next o p)

  ends_later : (next : Next) (whole : List Asking) (rs asked : List Asking) (a b c : P) (out after : List ℕ) → whole ≡ rs ++ asked → IsOutput A a rs out b → EndsAt A next asked b c after → EndsAt A next whole a c (out ++ after)
  ends_later next whole rs asked a b c out after is o (front, more, last, js, p) =
      (rs ++ front, more, last, is ∙ ap (λ (q : List Asking). rs ++ q) js ∙ sym (append_assoc rs front (last ∷ more)), join_last A a b c rs front last next out after o p)

  all_later : (whole left : Coming) (rs : List Asking) (a b c : P) (out next : List ℕ) → whole ≡ ahead rs left → IsOutput A a rs out b → IsOutput A b left.asked next c → IsOutput A a whole.asked (out ++ next) c
  all_later whole left rs a b c out next is o p =
      subst (λ (q : List Asking). IsOutput A a q (out ++ next) c) (sym (asked_in whole left rs is)) (join A a b c rs left.asked out next o p)

  pub steps_later : (e : Option End) (whole left : Coming) (a b c : P) (new : Held) (out next : List ℕ) → Continues A whole a left b out → StepsTo A e left b new c next → StepsTo A e whole a new c (out ++ next)
  steps_later None whole left a b c new out next k s = joins whole left (coming new.pending) a b c out next k s
  steps_later (Some Left) whole left a b c new out next (rs, is, o) s = ends_later Closes whole.asked rs left.asked a b c out next (asked_in whole left rs is) o s
  steps_later (Some Killed) whole left a b c new out next (rs, is, o) s = ends_later Kills whole.asked rs left.asked a b c out next (asked_in whole left rs is) o s
  steps_later (Some LongLine) whole left a b c new out next (rs, is, o) (p, n) = (all_later whole left rs a b c out next is o p, ap (λ (x : Coming). x.next) is ∙ n)
  steps_later (Some LargeList) whole left a b c new out next (rs, is, o) (p, n) = (all_later whole left rs a b c out next is o p, ap (λ (x : Coming). x.list) is ∙ n)
  steps_later (Some Unsent) whole left a b c new out next (rs, is, o) (p, n) = (stops_later whole.asked rs left.asked a b c out next (asked_in whole left rs is) o p, n)
  steps_later (Some NoPeer) whole left a b c new out next (rs, is, o) p = all_later whole left rs a b c out next is o p
  steps_later (Some ReadFault) whole left a b c new out next (rs, is, o) p = stops_later whole.asked rs left.asked a b c out next (asked_in whole left rs is) o p
  steps_later (Some WriteFault) whole left a b c new out next (rs, is, o) p = stops_later whole.asked rs left.asked a b c out next (asked_in whole left rs is) o p

  -- after a step that left the session open
  pub steps_then : (whole : Coming) (mid new : Held) (a b c : P) (out next : List ℕ) → mid.ended ≡ None → Steps A whole a mid b out → Steps A (coming mid.pending) b new c next → Steps A whole a new c (out ++ next)
  steps_then whole mid new a b c out next e s t =
      steps_later new.ended whole (coming mid.pending) a b c new out next (subst (λ (x : Option End). StepsTo A x whole a mid b out) e s) t

  pub runs_both : (old mid new : Held) (a b c : P) (w w' w'' : Option (List ℕ)) → mid.ended ≡ None → Runs A old a w mid b w' → Runs A mid b w' new c w'' → Runs A old a w new c w''
  runs_both old mid new a b c w w' w'' e (out, s, g) (next, t, h) =
      (out ++ next, steps_then (coming old.pending) mid new a b c out next e s t, grows_both w w' w'' old.unsent mid.unsent new.unsent out next g h)

  pub says_runs : (old new : Held) (a b : P) (w : Option (List ℕ)) → Says A old a new b → Runs A old a w new b w
  says_runs old new a b w (out, s, is) = (out, s, only_unsent w old.unsent new.unsent out is)

  -- nothing happens
  pub runs_none : (h : Held) (a : P) (w : Option (List ℕ)) → h.ended ≡ None → Runs A h a w h a w
  runs_none h a w e =
      ([], subst (λ (x : Option End). StepsTo A x (coming h.pending) a h a []) (sym e) (stays (coming h.pending) a [] no_notices), only_unsent w h.unsent h.unsent [] (sym (append-nil h.unsent)))

  -- a write after a session that is open
  sent_open : (e : Option End) (mid new : Held) (a : P) → new.pending ≡ mid.pending → (e ≡ None) ⊎ ((e ≡ Some WriteFault) ⊎ ((e ≡ Some Unsent) × (16777216 < length new.unsent))) → StepsTo A e (coming mid.pending) a new a []
  sent_open e mid new a same (inl is) =
      subst (λ (x : Option End). StepsTo A x (coming mid.pending) a new a []) (sym is)
      (subst (λ (p : Pending). Continues A (coming mid.pending) a (coming p) a []) (sym same) (stays (coming mid.pending) a [] no_notices))
  sent_open e mid new a same (inr (inl is)) =
      subst (λ (x : Option End). StepsTo A x (coming mid.pending) a new a []) (sym is) ([], (coming mid.pending).asked, refl, (no_notices, refl))
  sent_open e mid new a same (inr (inr (is, many))) =
      subst (λ (x : Option End). StepsTo A x (coming mid.pending) a new a []) (sym is) (([], (coming mid.pending).asked, refl, (no_notices, refl)), many)

  -- a write after a session that is closed
  sent_closed : (e : End) (whole : Coming) (a b : P) (out u v : List ℕ) → (Some e ≡ Some Unsent → v ≡ u) → EndsBy A e whole a b out u → EndsBy A e whole a b out v
  sent_closed Left whole a b out u v same s = s
  sent_closed Killed whole a b out u v same s = s
  sent_closed LongLine whole a b out u v same s = s
  sent_closed LargeList whole a b out u v same s = s
  sent_closed Unsent whole a b out u v same (s, many) = (s, subst (λ (x : List ℕ). 16777216 < length x) (sym (same refl)) many)
  sent_closed NoPeer whole a b out u v same s = s
  sent_closed ReadFault whole a b out u v same s = s
  sent_closed WriteFault whole a b out u v same s = s

  pub runs_sent : (old mid new : Held) (a b : P) (w w' w'' : Option (List ℕ)) → Runs A old a w mid b w' → Sends mid w' new w'' → Runs A old a w new b w''
  runs_sent old mid new a b w w' w'' (out, s, g) (same, grows, inr (goes, how)) =
      runs_both old mid new a b b w w' w'' goes (out, s, g) ([], sent_open new.ended mid new b same (inr how), grows)
  runs_sent old mid new a b w w' w'' (out, s, g) (same, grows, inl (was, kept)) = elim (cases mid.ended) [
    | inl e ↦ runs_both old mid new a b b w w' w'' e (out, s, g) ([], sent_open new.ended mid new b same (inl (was ∙ e)), grows)
    | inr (end, e) ↦
        let before : EndsBy A end (coming old.pending) a b out mid.unsent = subst (λ (x : Option End). StepsTo A x (coming old.pending) a mid b out) e s in
        let after : EndsBy A end (coming old.pending) a b out new.unsent = sent_closed end (coming old.pending) a b out mid.unsent new.unsent (λ is. kept (e ∙ is)) before in
        let both : Grows w old.unsent w'' new.unsent (out ++ []) = grows_both w w' w'' old.unsent mid.unsent new.unsent out [] g grows in (
          out,
          subst (λ (x : Option End). StepsTo A x (coming old.pending) a new b out) (sym (was ∙ e)) after,
          subst (λ (x : List ℕ). Grows w old.unsent w'' new.unsent x) (append-nil out) both,
        )
  ]

  -- a line that is too long
  pub long_line : (old mid new : Held) (a b : P) (w w' : Option (List ℕ)) → mid.ended ≡ None → Runs A old a w mid b w' → (coming mid.pending).asked ≡ [] → (coming mid.pending).next ≡ None
      → new.unsent ≡ mid.unsent → new.ended ≡ Some LongLine → Runs A old a w new b w'
  long_line old mid new a b w w' e r none long unsent is =
      runs_both old mid new a b b w w' w' e r (
        [],
        subst (λ (x : Option End). StepsTo A x (coming mid.pending) b new b []) (sym is) (subst (λ (q : List Asking). IsOutput A b q [] b) (sym none) (no_notices, refl), long),
        only_unsent w' mid.unsent new.unsent [] (unsent ∙ sym (append-nil mid.unsent)),
      )

  -- Steps that only say notices.

  pub told : (old new : Held) (a : P) (notices : List ℕ) → old.ended ≡ None → new.ended ≡ None → coming old.pending ≡ coming new.pending → AreNotices notices → new.unsent ≡ old.unsent ++ notices → Says A old a new a
  told old new a notices e f same n is = (
    notices,
    subst (λ (x : Option End). StepsTo A x (coming old.pending) a new a notices) (sym f)
        (subst (λ (c : Coming). Continues A (coming old.pending) a c a notices) same (stays (coming old.pending) a notices n)),
    is,
  )

  pub too_large : (old new : Held) (a : P) (notices : List ℕ) → new.ended ≡ Some LargeList → (coming old.pending).asked ≡ [] → (coming old.pending).list ≡ Over → AreNotices notices → new.unsent ≡ old.unsent ++ notices → Says A old a new a
  too_large old new a notices f none large n is = (
    notices,
    subst (λ (x : Option End). StepsTo A x (coming old.pending) a new a notices) (sym f)
        (subst (λ (q : List Asking). IsOutput A a q notices a) (sym none) (n, refl), large),
    is,
  )

  -- Steps that answer what is asked.

  answered_with : (a b : P) (r : Asking) (notices owed : List ℕ) (next : Next) → closes next ≡ false → AreNotices notices → IsOwed A a r owed next b → IsOutput A a (r ∷ []) (notices ++ owed) b
  answered_with a b r notices owed next open_ n (ns, text, is, are, answers) = (
    notices ++ ns,
    text,
    [],
    b,
    ap (λ (x : List ℕ). notices ++ x) is ∙ sym (append_assoc notices ns text) ∙ ap (λ (x : List ℕ). (notices ++ ns) ++ x) (sym (append-nil text)),
    notices_join notices ns n are,
    (next, open_, answers),
    (no_notices, refl),
  )

  answered : (old new : Held) (a b : P) (r : Asking) (notices owed : List ℕ) (next : Next) → closes next ≡ false → new.ended ≡ None → coming old.pending ≡ ahead (r ∷ []) (coming new.pending)
      → AreNotices notices → IsOwed A a r owed next b → new.unsent ≡ (old.unsent ++ notices) ++ owed → Says A old a new b
  answered old new a b r notices owed next open_ f one n is unsent = (
    notices ++ owed,
    subst (λ (x : Option End). StepsTo A x (coming old.pending) a new b (notices ++ owed)) (sym f) (r ∷ [], one, answered_with a b r notices owed next open_ n is),
    unsent ∙ append_assoc old.unsent notices owed,
  )

  ends_at : (next : Next) (whole left : Coming) (a b : P) (r : Asking) (notices owed : List ℕ) → whole ≡ ahead (r ∷ []) left → AreNotices notices → IsOwed A a r owed next b → EndsAt A next whole.asked a b (notices ++ owed)
  ends_at next whole left a b r notices owed one n (ns, text, is, are, answers) = (
    [],
    left.asked,
    r,
    asked_in whole left (r ∷ []) one,
    (notices ++ ns, text, a, ap (λ (x : List ℕ). notices ++ x) is ∙ sym (append_assoc notices ns text), (notices_join notices ns n are, refl), answers),
  )

  -- something that was asked is answered
  pub says_answer : (old new : Held) (a b : P) (r : Asking) (notices owed : List ℕ) (next : Next) → new.ended ≡ end_by next → coming old.pending ≡ ahead (r ∷ []) (coming new.pending)
      → AreNotices notices → IsOwed A a r owed next b → new.unsent ≡ (old.unsent ++ notices) ++ owed → Says A old a new b
  says_answer old new a b r notices owed Goes f one n is unsent = answered old new a b r notices owed Goes refl f one n is unsent
  says_answer old new a b r notices owed Waits f one n is unsent = answered old new a b r notices owed Waits refl f one n is unsent
  says_answer old new a b r notices owed Closes f one n is unsent = (
    notices ++ owed,
    subst (λ (x : Option End). StepsTo A x (coming old.pending) a new b (notices ++ owed)) (sym f) (ends_at Closes (coming old.pending) (coming new.pending) a b r notices owed one n is),
    unsent ∙ append_assoc old.unsent notices owed,
  )
  says_answer old new a b r notices owed Kills f one n is unsent = (
    notices ++ owed,
    subst (λ (x : Option End). StepsTo A x (coming old.pending) a new b (notices ++ owed)) (sym f) (ends_at Kills (coming old.pending) (coming new.pending) a b r notices owed one n is),
    unsent ∙ append_assoc old.unsent notices owed,
  )

  -- a line that completes nothing
  pub says_line : (old new : Held) (a : P) (o : ListState) (over : Bool) (notices : List ℕ) → old.ended ≡ None → new.pending.list ≡ o → over ≡ is_over o → new.ended ≡ end_in_list over → coming old.pending ≡ coming new.pending
      → AreNotices notices → new.unsent ≡ old.unsent ++ notices → Says A old a new a
  says_line old new a (Within list) over notices e h is f same n unsent = told old new a notices e (f ∙ ap end_in_list is) same n unsent
  says_line old new a Over over notices e h is f same n unsent =
      let none = no_more new.pending h in
      too_large old new a notices (f ∙ ap end_in_list is) (ap (λ (c : Coming). c.asked) same ∙ none.0) (ap (λ (c : Coming). c.list) same ∙ none.1) n unsent

  pub step_line : (old mid new : Held) (a : P) (h : ListState) (ls : List LineData) (one : Option ClientRequest) (over : Bool) → old.ended ≡ None → mid.pending ≡ old.pending → TellsOf old.unsent mid.unsent → old.pending.lines ≢ []
      → Takes mid.pending.list mid.pending.lines one h ls → one ≡ None → new.pending ≡ pend h ls mid.pending.next mid.pending.piece → over ≡ is_over h → new.ended ≡ end_in_list over → new.unsent ≡ mid.unsent → Says A old a new a
  step_line old mid new a h ls one over goes same (notices, are, told_is) some takes none is large ended unsent =
      says_line old new a h over notices goes (ap (λ (p : Pending). p.list) is) large ended
      (took old mid new h ls one same some takes is ∙ ap (λ (r : Option ClientRequest). ahead (askings_of r) (coming new.pending)) none) are (unsent ∙ told_is)

  pub step_answer : (old mid new last : Held) (a c : P) (h : ListState) (ls : List LineData) (one : ClientRequest) (given : Option ClientRequest) (items held owed : List ℕ) (next : Next) → last ≡ new → mid.pending ≡ old.pending → TellsOf old.unsent mid.unsent → old.pending.lines ≢ []
      → Takes mid.pending.list mid.pending.lines given h ls → given ≡ Some one → new.pending ≡ pend h ls mid.pending.next mid.pending.piece → IsOwed A a (asking_of one) owed next c → new.ended ≡ end_by next
      → new.unsent ≡ items ++ owed → mid.unsent ≡ items ++ held → held ≡ [] → Says A old a last c
  step_answer old mid new last a c h ls one given items held owed next e same (notices, are, told_is) some takes is pends owes ended unsent middle none =
      subst (λ (x : Held). Says A old a x c) (sym e)
      (says_answer old new a c (asking_of one) notices owed next ended
      (took old mid new h ls given same some takes pends ∙ ap (λ (r : Option ClientRequest). ahead (askings_of r) (coming new.pending)) is) are owes
      (told_eq new.unsent items held owed owed unsent refl none ∙ ap (λ (x : List ℕ). x ++ owed) (sym middle ∙ told_is)))

  -- The lines are run.

  pub runs_ended : (old mid new : Held) (a b : P) (w w' : Option (List ℕ)) → Runs A old a w mid b w' → new.pending ≡ mid.pending → new.unsent ≡ mid.unsent
      → (new.ended ≡ mid.ended) ⊎ ((mid.ended ≡ None) × (new.ended ≡ Some LongLine) × (mid.pending.lines ≡ []) × (mid.pending.piece ≡ []) × (mid.pending.next ≡ None)) → Runs A old a w new b w'
  runs_ended old mid new a b w w' r p u (inl e) = subst (λ (h : Held). Runs A old a w h b w') (sym (same_held new mid p u e)) r
  runs_ended old mid new a b w w' r p u (inr (goes, long, lines, piece, next)) =
      let none = none_waits mid.pending lines piece in
      long_line old mid new a b w w' goes r (ap (λ (c : Coming). c.asked) none) (ap (λ (c : Coming). c.next) none ∙ next) u long

  -- A turn.

  reads_steps : (e : Option End) (whole : Coming) (new : Held) (p : P) → ReadsTo e whole new → StepsTo A e whole p new p []
  reads_steps None whole new p is = subst (λ (c : Coming). Continues A whole p c p []) is (stays whole p [] no_notices)
  reads_steps (Some NoPeer) whole new p none = subst (λ (q : List Asking). IsOutput A p q [] p) (sym none) (no_notices, refl)
  reads_steps (Some ReadFault) whole new p none = ([], whole.asked, refl, (no_notices, refl))
  reads_steps (Some Left) whole new p none = absurd none
  reads_steps (Some Killed) whole new p none = absurd none
  reads_steps (Some LongLine) whole new p none = absurd none
  reads_steps (Some LargeList) whole new p none = absurd none
  reads_steps (Some Unsent) whole new p none = absurd none
  reads_steps (Some WriteFault) whole new p none = absurd none

  pub turns_read : (old mid new : Held) (a : P) (u u' w : Option (List ℕ)) → old.ended ≡ None → mid.pending ≡ old.pending → TellsOf old.unsent mid.unsent → ReadsOn mid u new u' → Turns A (as_side old a u w) (as_side new a u' w)
  turns_read old mid new a u u' w goes same (notices, are, told_is) (read, consumes, reads, said) =
      let whole : coming (read_on mid.pending read) ≡ coming (read_on old.pending read) = ap (λ (p : Pending). coming (read_on p read)) same in
      let after : StepsTo A new.ended (coming (read_on old.pending read)) a new a [] = subst (λ (c : Coming). StepsTo A new.ended c a new a []) whole (reads_steps new.ended (coming (read_on mid.pending read)) new a reads) in
      let all : StepsTo A new.ended (coming (read_on old.pending read)) a new a (notices ++ []) =
      steps_later new.ended (coming (read_on old.pending read)) (coming (read_on old.pending read)) a a a new notices [] (stays (coming (read_on old.pending read)) a notices are) after in (
        read,
        consumes,
        (
          notices,
          subst (λ (x : List ℕ). StepsTo A new.ended (coming (read_on old.pending read)) a new a x) (append-nil notices) all,
          only_unsent w old.unsent new.unsent notices (said ∙ told_is),
        ),
      )

  pub turns_told : (old new : Held) (a : P) (u w : Option (List ℕ)) → old.ended ≡ None → new.pending ≡ old.pending → new.ended ≡ None → TellsOf old.unsent new.unsent → Turns A (as_side old a u w) (as_side new a u w)
  turns_told old new a u w goes same still told_is = turns_read old new new a u u w goes same told_is (reads_none new u still)

  pub turns_none : (old new : Held) (a : P) (u w : Option (List ℕ)) → old.ended ≡ None → new ≡ old → Turns A (as_side old a u w) (as_side new a u w)
  turns_none old new a u w goes e =
      turns_told old new a u w goes (ap (λ (h : Held). h.pending) e) (ap (λ (h : Held). h.ended) e ∙ goes) ([], no_notices, ap (λ (h : Held). h.unsent) e ∙ sym (append-nil old.unsent))

  pub turns_run : (old mid new : Held) (a b c : P) (u u' w w' w'' : Option (List ℕ)) → mid.ended ≡ None → Turns A (as_side old a u w) (as_side mid b u' w') → Runs A mid b w' new c w'' → Turns A (as_side old a u w) (as_side new c u' w'')
  turns_run old mid new a b c u u' w w' w'' e (read, consumes, r) s = (read, consumes, runs_both (with_read old read) mid new a b c w w' w'' e r s)

  pub turns_sent : (old mid new : Held) (a b : P) (u u' w w' w'' : Option (List ℕ)) → Turns A (as_side old a u w) (as_side mid b u' w') → Sends mid w' new w'' → Turns A (as_side old a u w) (as_side new b u' w'')
  turns_sent old mid new a b u u' w w' w'' (read, consumes, r) s = (read, consumes, runs_sent (with_read old read) mid new a b w w' w'' r s)

-- The same where what the caller is asked for is named by an equal value.
module _ {P Q : Type 0} (F : Q → P → Asking → List ℕ → Next → P → Type 0) (q q' : Q) (e : q' ≡ q) where
  pub turns_run_as : (old mid new : Held) (a b c : P) (u u' w w' w'' : Option (List ℕ)) → mid.ended ≡ None → Turns (F q) (as_side old a u w) (as_side mid b u' w') → Runs (F q') mid b w' new c w'' → Turns (F q) (as_side old a u w) (as_side new c u' w'')
  turns_run_as old mid new a b c u u' w w' w'' goes t r =
      turns_run (F q) old mid new a b c u u' w w' w'' goes t (subst (λ (x : Q). Runs (F x) mid b w' new c w'') e r)
