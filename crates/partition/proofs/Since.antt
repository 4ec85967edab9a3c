-- The flags and the frames that stand are those of a base and of the window after it.
use Rattle.std.proofs.Common.{◌≡◌, inl, inr, ℕ, ◌<◌, ◌==◌, Bool, true, false, ◌||◌, List, [], ◌∷◌, ◌++◌, Option, Some, None, map, arith, refl, ap, sym, subst, ◌∙◌, if◌then◌else◌}
use Rattle.std.specs.List.{All, list_any}
use Rattle.std.proofs.lemmas.Bool.Decides.{nat_tests}
use Rattle.std.proofs.lemmas.List.Elements.{All-nil, All-cons}
use Rattle.idle_notes.specs.declared.sets.Subsystems.{Subsystems}
use Rattle.idle_notes.specs.declared.subsystem.Subsystem.{Subsystem}
use Rattle.idle_notes.specs.Sets.{none, union, has}
use Rattle.player_events.specs.declared.event.LogEntry.{LogEntry}
use Rattle.player_state.specs.declared.state.Client.{Client}
use Rattle.connected_clients.specs.Clients.{Watched, newcomer, notified, raised, watched_of, AllAbove, Rising}
use Rattle.transitions.specs.Answers.{closes}
use Rattle.partition.specs.History.{replay}
use Rattle.partition.specs.Image.{Image}
use Rattle.transitions.specs.Transitions.{TransitionData, parts_after}
use Rattle.connected_clients.specs.Clients.{client_of}
use Rattle.player_state.specs.Outputs.{FrameBooks, books_after}
use Rattle.partition.specs.Since.{shown_part, world_of, world_transition_at, world_transitions_from, flags_of, kept_for, IsPendingSince, HasPendingSince, books_since}
use Rattle.partition.specs.Step.{moved_client, transition, sender_number, index_at, raised_of, report_at, after_transition, next_image, told}
use Rattle.player_state.specs.declared.state.Part.{Part}
use Rattle.player_state.specs.Libraries.{library_after}
use Rattle.partition.specs.Notices.{IsIn}
use Rattle.partition.specs.World.{WorldTransition, raised_at, raised_for, is_there, begins_anew, books_of, listener_of, index_of, watched_by, NeverAnew}
use Rattle.partition.proofs.Notified.{Each, flagged, all_stand}
use Rattle.partition.proofs.Parts.{raised_differ}
use Rattle.partition.proofs.Pending.{has_union, has_none, either, or_right, or_left, longer}
use Rattle.connected_clients.proofs.Rises.{rising_after}
use Rattle.partition.proofs.Sends.{found}
use Rattle.partition.proofs.Worlds.{each, may_go, same_first, or_more}

module _ (base : Image) where
  -- what is pending for a client, as a union
  abbrev since : ℕ → List WorldTransition → Subsystems
  since n [] = kept_for n base
  since n (m ∷ ms) = if begins_anew n m then none else union (since n ms) (raised_at n m)

  module _ (n : ℕ) (x : Subsystem) where
    anew : (m : WorldTransition) (ms : List WorldTransition) → begins_anew n m ≡ true → has (since n (m ∷ ms)) x ≡ false
    anew m ms e = ap (λ b. has (if b then none else union (since n ms) (raised_at n m)) x) e ∙ has_none x

    joined : (m : WorldTransition) (ms : List WorldTransition) → begins_anew n m ≡ false → has (since n (m ∷ ms)) x ≡ (has (since n ms) x || has (raised_at n m) x)
    joined m ms e = ap (λ b. has (if b then none else union (since n ms) (raised_at n m)) x) e ∙ has_union (since n ms) (raised_at n m) x

    there : (ms : List WorldTransition) → has (since n ms) x ≡ true → IsPendingSince base n x ms
    there [] h = inr (h, tt)
    there (m ∷ ms) h =
        let cases : (b : Bool) → begins_anew n m ≡ b → IsPendingSince base n x (m ∷ ms) =
        λ b. elim b as (λ b. begins_anew n m ≡ b → IsPendingSince base n x (m ∷ ms)) [
          | true ↦ λ e. (let clash : false ≡ true = sym (anew m ms e) ∙ h in cc)
          | false ↦ λ e. elim (either _ _ (sym (joined m ms e) ∙ h)) [
            | inl r ↦ inl (record { later = []; world_transition = m; earlier = ms; order = refl; raised = (raised_differ n m x).0 r; since = (e, tt) })
            | inr r ↦ elim (there ms r) [
              | inl p ↦ inl (longer n x m ms e p)
              | inr q ↦ inr (q.0, (e, q.1))
            ]
          ]
        ] in
        cases (begins_anew n m) refl

    back_raised : (later : List WorldTransition) (m : WorldTransition) (earlier : List WorldTransition) → has (raised_at n m) x ≡ true → NeverAnew n (later ++ m ∷ [])
        → has (since n (later ++ m ∷ earlier)) x ≡ true
    back_raised [] m earlier r never = joined m earlier never.0 ∙ or_right _ _ r
    back_raised (l ∷ ls) m earlier r never = joined l (ls ++ m ∷ earlier) never.0 ∙ or_left _ _ (back_raised ls m earlier r never.1)

    back_kept : (ms : List WorldTransition) → has (kept_for n base) x ≡ true → NeverAnew n ms → has (since n ms) x ≡ true
    back_kept [] h never = h
    back_kept (m ∷ ms) h never = joined m ms never.0 ∙ or_left _ _ (back_kept ms h never.1)

    back : (ms : List WorldTransition) → IsPendingSince base n x ms → has (since n ms) x ≡ true
    back ms (inl p) = ap (λ l. has (since n l) x) p.order ∙ back_raised p.later p.world_transition p.earlier ((raised_differ n p.world_transition x).1 p.raised) p.since
    back ms (inr q) = back_kept ms q.0 q.1

  all_read : (ms : List WorldTransition) (ks : List Client) → Each (λ k. k.pending.changed ≡ since k.number ms) ks → All (HasPendingSince base ms) ks
  all_read ms [] e = All-nil (HasPendingSince base ms)
  all_read ms (k ∷ ks) e =
      All-cons (HasPendingSince base ms) k ks
      (λ x. (λ h. there k.number x ms (ap (λ s. has s x) (sym e.0) ∙ h), λ p. ap (λ s. has s x) e.0 ∙ back k.number x ms p))
      (all_read ms ks e.1)

abbrev among : ℕ → List Client → Bool
among n ks = list_any (λ l. l.number == n) (map listener_of ks)

further : (k : Client) (all ks : List Client) → Each (λ x. among x.number all ≡ true) ks → Each (λ x. among x.number (k ∷ all) ≡ true) ks
further k all [] e = tt
further k all (x ∷ xs) e = (or_more (k.number == x.number) (among x.number all) e.0, further k all xs e.1)

all_among : (ks : List Client) → Each (λ x. among x.number ks ≡ true) ks
all_among [] = tt
all_among (k ∷ ks) = (ap (λ b. b || among k.number ks) (same_first k.number), further k ks ks (all_among ks))

all_three : (P Q R : Client → Type 0) (ks : List Client) → Each P ks → Each Q ks → Each R ks → Each (λ k. P k × Q k × R k) ks
all_three P Q R [] p q r = tt
all_three P Q R (k ∷ ks) p q r = ((p.0, q.0, r.0), all_three P Q R ks p.1 q.1 r.1)

absent : (r : Client → Subsystems) (n : ℕ) (ks : List Client) → client_of n (map (notified r) ks) ≡ None → among n ks ≡ false
absent r n [] e = refl
absent r n (k ∷ ks) e =
    let rest : Option Client = client_of n (map (notified r) ks) in
    let first : Client = notified r k in
    let cases : (b : Bool) → (k.number == n) ≡ b → (b || among n ks) ≡ false =
    λ b. elim b as (λ b. (k.number == n) ≡ b → (b || among n ks) ≡ false) [
      | true ↦ λ t. (let found : (if k.number == n then Some first else rest) ≡ Some first = rw t refl in let clash : Some first ≡ None = sym found ∙ e in cc)
      | false ↦ λ t. absent r n ks (rw t at e)
    ] in
    cases (k.number == n) refl

-- by rising numbers each client is the one of its number
behind : (k : Client) (all ks : List Client) → AllAbove k.number ks → Each (λ x. client_of x.number all ≡ Some x) ks
    → Each (λ x. client_of x.number (k ∷ all) ≡ Some x) ks
behind k all [] above e = tt
behind k all (x ∷ xs) above e =
    let less : k.number < x.number = above.0 in
    let other : (k.number == x.number) ≡ false = grind (arith, nat_tests) in
    (ap (λ b. if b then Some k else client_of x.number all) other ∙ e.0, behind k all xs above.1 e.1)

all_found : (ks : List Client) → Rising ks → Each (λ x. client_of x.number ks ≡ Some x) ks
all_found [] r = tt
all_found (k ∷ ks) r =
    (ap (λ b. if b then Some k else client_of k.number ks) (same_first k.number), behind k ks ks r.0 (all_found ks r.1))

unflagged : (after : ℕ → Subsystems) (ks : List Client) → Each (λ k. flagged after k ≡ k) ks → Each (λ k. k.pending.changed ≡ after k.number) ks
unflagged after [] e = tt
unflagged after (k ∷ ks) e = (sym (ap (λ (x : Client). x.pending.changed) e.0), unflagged after ks e.1)

kept : (base : Image) (ks : List Client) → Each (λ x. client_of x.number base.clients ≡ Some x) ks → Each (λ k. k.pending.changed ≡ kept_for k.number base) ks
kept base [] e = tt
kept base (k ∷ ks) e = (sym (ap flags_of e.0), kept base ks e.1)

-- what subsystems speak of in the world that an image shows is what they speak of in it
watched_shown : (ps : List Part) → map watched_by (map shown_part ps) ≡ map watched_of ps
watched_shown [] = refl
watched_shown (p ∷ ps) = ap (λ (l : List Watched). watched_of p ∷ l) (watched_shown ps)

-- where a client is that is found by its number
index_shown : (n : ℕ) (k : Client) (ks : List Client) → client_of n ks ≡ Some k → index_of n (map listener_of ks) ≡ k.index
index_shown n k [] e = cc
index_shown n k (c ∷ cs) e =
    let cases : (b : Bool) → (c.number == n) ≡ b → (if b then Some c else client_of n cs) ≡ Some k → (if b then c.index else index_of n (map listener_of cs)) ≡ k.index =
    λ b. elim b as (λ b. (c.number == n) ≡ b → (if b then Some c else client_of n cs) ≡ Some k → (if b then c.index else index_of n (map listener_of cs)) ≡ k.index) [
      | true ↦ λ t h. (let same : c ≡ k = cc in ap (λ (x : Client). x.index) same)
      | false ↦ λ t h. index_shown n k cs h
    ] in
    cases (c.number == n) refl e

-- what an event raises for a client of an image is what it raises for the one of its number in the worlds shown
raised_so : (i : Image) (h : LogEntry) → Rising i.clients → (k : Client) → IsIn k i.clients → raised_of i h.event (transition i h.event) k ≡ raised_at k.number (world_transition_at i h)
unfolding next_image
raised_so i h rising k among_them =
    let t : TransitionData = transition i h.event in
    let index : index_of k.number (map listener_of i.clients) ≡ k.index = index_shown k.number k i.clients (found k i.clients rising among_them) in
    let after : List Part = parts_after i.shared.library.rate (index_at i h.event) t i.parts in
    (λ j. raised (moved_client (sender_number h.event) t.response) t.written (record { library = i.shared.library; parts = sym (watched_shown i.parts) j })
    (record { library = library_after i.shared.library t.scan; parts = sym (watched_shown after) j }) k)
    ∙ ap (λ (p : ℕ). raised_for (world_transition_at i h) (record (newcomer k.number) { index = p })) (sym index)

module _ (base : Image) where
  -- clients are in the order of their numbers, their flags are what is pending since the base, and the frames
  -- are summed since
  abbrev Right : Image → List WorldTransition → Type 0
  Right i ms = Rising i.clients × (Each (λ k. k.pending.changed ≡ since base k.number ms) i.clients × (i.shared.books ≡ books_since base.shared.books ms))

  step : (i : Image) (ms : List WorldTransition) (h : LogEntry) → Right i ms → Right (next_image h.seat i h.event) (world_transition_at i h ∷ ms)
  unfolding next_image told
  step i ms h right =
      let t : TransitionData = transition i h.event in
      let r : Client → Subsystems = raised_of i h.event t in
      let m : WorldTransition = world_transition_at i h in
      let flag : ℕ → Subsystems = λ n. since base n ms in
      let after : ℕ → Subsystems = λ n. since base n (m ∷ ms) in (
        rising_after (sender_number h.event) r t.response i.clients right.0,
        (
          unflagged after (after_transition i h.event t).clients
              (all_stand r (λ n. raised_at n m) flag after (λ n. is_there n (world_of i)) (sender_number h.event) i.clients right.0
              (all_three (λ k. among k.number i.clients ≡ true) (λ k. k.pending.changed ≡ flag k.number) (λ k. r k ≡ raised_at k.number m) i.clients (all_among i.clients) right.1.0
              (each (λ k. r k ≡ raised_at k.number m) i.clients (raised_so i h right.0)))
              (closes t.response.answer.next) t.response.move (may_go i h.event right.0) (λ n. refl) (absent r (sender_number h.event) i.clients)),
          ap (λ (b : FrameBooks). books_after b t.effect (report_at i h.event t)) right.1.1,
        ),
      )

  walk : (i : Image) (ms : List WorldTransition) (hs : List LogEntry) → Right i ms → Right (replay i hs) (world_transitions_from i ms hs)
  walk i ms [] right = right
  walk i ms (h ∷ hs) right = walk (next_image h.seat i h.event) (world_transition_at i h ∷ ms) hs (step i ms h right)

-- books that are sums are eight numbers of each kind
begun_books : (books : FrameBooks) (world_transitions : List WorldTransition) → books ≡ books_of world_transitions → books ≡ books_since books []
begun_books books world_transitions is = subst (λ (b : FrameBooks). b ≡ books_since b []) (sym is) refl

-- of what a window leads to
pub since_stands : (base i : Image) (window : List LogEntry) (world_transitions : List WorldTransition) → Rising base.clients → base.shared.books ≡ books_of world_transitions
    → i ≡ replay base window
    → All (HasPendingSince base (world_transitions_from base [] window)) i.clients × (i.shared.books ≡ books_since base.shared.books (world_transitions_from base [] window))
since_stands base i window world_transitions rising books leads =
    let right = walk base base [] window (rising, (kept base base.clients (all_found base.clients rising), begun_books base.shared.books world_transitions books)) in
    subst (λ (j : Image). All (HasPendingSince base (world_transitions_from base [] window)) j.clients × (j.shared.books ≡ books_since base.shared.books (world_transitions_from base [] window))) (sym leads)
    (all_read base (world_transitions_from base [] window) (replay base window).clients right.1.0, right.1.1)
