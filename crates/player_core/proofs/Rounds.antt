-- What a round of a random order comes to.
use Rattle.std.proofs.Common.{◌≡◌, ◌≢◌, ◌⊎◌, ◌↔◌, inl, inr, ℕ, zero, suc, ◌+◌, ◌<◌, ◌≤◌, Bool, true, false, ◌||◌, not, ◌==◌, List, [], ◌∷◌, ◌++◌, length, slice_get, Contains, Option, Some, None, option_to_list, cond, refl, ap, sym, ◌∙◌, subst, arith, add-one}
use Rattle.std.proofs.lemmas.Bool.{eqb-true}
use Rattle.std.proofs.lemmas.List.Elements.{Contains-push}
use Rattle.std.proofs.lemmas.Option.{slice_get_read}
use Rattle.song_queue.specs.declared.entry.Entry.{Entry}
use Rattle.play_order.specs.declared.modes.Modes.{Modes}
use Rattle.play_order.specs.declared.modes.Consume.{Consume}
use Rattle.play_order.specs.declared.modes.Consume.TheVariants as consume
use Rattle.play_order.specs.Draws.{RoundState, is_among, moved_last}
use Rattle.play_order.specs.Draws as draws
use Rattle.play_order.specs.Order.{left_by, unplayed}
use Rattle.play_order.specs.Order as order
use Rattle.play_order.specs.Ends as ends
use Rattle.play_order.specs.Ends.{id_of}
use Rattle.play_order.specs.Choices.{AllWerePlayed, BecomesRound, FollowsBy, FollowsInRound, ForgetsGone, HaveOwnIds, KeepsRound, left_after}
use Rattle.play_order.specs.Choices.FollowsInRound.{InRound, InNewRound, RoundIsOver}
use Rattle.play_order.specs.Choices.BecomesRound.{GoesOn, BeginsAnew}
use Rattle.play_order.proofs.Choices.{among-last, get-there, rounds_forget_gone, among-contains, contains-among, contains-cases, contains-none, each-there, in-filter, not-contained, of-filter}
use Rattle.play_order.proofs.Firsts.{Distinct, distinct-from}
use Rattle.player_core.specs.declared.state.Playback.{Playback}
use Rattle.player_core.specs.declared.state.Playback.TheVariants.{Play}
use Rattle.player_core.specs.Player as player
use Rattle.player_core.specs.Player.{PlayerState}
use Rattle.player_core.specs.Steps as steps
use Rattle.player_core.specs.Choices as choices
use Rattle.player_core.specs.Choices.{EndHasCause, LeavesPlayed, NextByRule, PlayedAreQueued, PreviousByRule, StartsOrStops}
use Rattle.player_core.specs.Choices.EndHasCause.{OrderGoesOn, PlaysAgain, StopsBySingle}
use Rattle.player_core.specs.Choices.StartsOrStops.{OneStarts}
use Rattle.player_core.specs.Rounds.{PlayedStayQueued, GoesAtRandom, IsStartedWithin, RoundsPlayEachOnce, StartsAnother, after_nexts, left_to_play}
use Rattle.player_core.proofs.Choices.{ends_stop_for_a_cause, next_goes_on, playing-on, previous_consumes_nothing}

-- a step goes on in a round with one more entry
record Advances (p q : PlayerState) (entries : List Entry) (c : Entry) : Type 0 where
  there : Contains entries c
  unplayed : Contains p.round.played c.id → ⊥
  current : q.current ≡ Some c.id
  played : (other : Entry) → Contains entries other → Contains q.round.played other.id ↔ (Contains p.round.played other.id ⊎ (other.id ≡ c.id))

current-of : (p q : PlayerState) (playback : Playback) (frame : ℕ) (c : Entry) → StartsOrStops p q playback frame (Some c) → q.current ≡ Some c.id
current-of p q playback frame c (OneStarts _ s) = s.current

played-of : (r s : RoundState) (entries : List Entry) (c : Entry) → (AllWerePlayed r.played entries → ⊥) → BecomesRound r s entries entries (Some c) → KeepsRound r s entries entries c
played-of r s entries c n (GoesOn _ m k) = k
played-of r s entries c n (BeginsAnew _ all k) = absurd (n all)

was-or-is : (r s : RoundState) (entries : List Entry) (c other : Entry) → KeepsRound r s entries entries c → Contains entries other → Contains r.played other.id ⊎ (other.id ≡ c.id) → Contains s.played other.id
was-or-is r s entries c other k there (inl h) = k.kept other there h
was-or-is r s entries c other k there (inr e) =
    subst (λ (ids : List ℕ). Contains ids other.id) (sym k.last.1) (subst (λ (n : ℕ). Contains (k.last.0 ++ c.id ∷ []) n) (sym e) (Contains-push k.last.0 c.id))

both-ways : (r s : RoundState) (entries : List Entry) (c other : Entry) → KeepsRound r s entries entries c → Contains entries other → Contains s.played other.id ↔ (Contains r.played other.id ⊎ (other.id ≡ c.id))
both-ways r s entries c other k there = (λ h. k.no_more other.id h, λ h. was-or-is r s entries c other k there h)

advance : (p q : PlayerState) (entries : List Entry) (repeat : Bool) (o : Option Entry) → (AllWerePlayed p.round.played entries → ⊥) → FollowsInRound repeat p.round entries o → StartsOrStops p q Play 0 o
    → BecomesRound p.round q.round entries entries o → (c : Entry) × Advances p q entries c
advance p q entries repeat _ n (InRound c least) s b = (
  c,
  record {
    there = least.in_queue;
    unplayed = least.unplayed;
    current = current-of p q Play 0 c s;
    played = λ other there. both-ways p.round q.round entries c other (played-of p.round q.round entries c n b) there;
  },
)
advance p q entries repeat _ n (InNewRound c all r least) s b = absurd (n all)
advance p q entries repeat _ n (RoundIsOver all r) s b = absurd (n all)

-- a `next` of a player that goes at random
record Next (p : PlayerState) (entries : List Entry) : Type 0 where
  entry : Entry
  advances : Advances p (steps.next p entries).player entries entry
  goes : GoesAtRandom (steps.next p entries).player entries

position-in : (entries : List Entry) (song : Entry) → Contains entries song → (position : ℕ) × (slice_get entries position ≡ Some song)
position-in entries song h = (h.0, slice_get_read entries (length entries) h.0 song refl h.1 (sym h.2))

off-left : (c : Consume) (entries : List Entry) (position : ℕ) → c ≡ consume.Off → left_after c entries position ≡ entries
off-left c entries position h = ap (λ (x : Consume). left_after x entries position) h

not-once : (c : Consume) → c ≡ consume.Off → c ≢ consume.Oneshot
not-once c h k = let lost : consume.Off ≡ consume.Oneshot = sym h ∙ k in cc

next-at : (p : PlayerState) (entries : List Entry) (position : ℕ) → GoesAtRandom p entries → (AllWerePlayed p.round.played entries → ⊥) → NextByRule p entries position (steps.next p entries) → Next p entries
next-at p entries position g n rule =
    let q : PlayerState = (steps.next p entries).player in
    let goes = rule.goes_on in
    let same : left_after p.modes.consume entries position ≡ entries = off-left p.modes.consume entries position g.consume in
    let follows : FollowsInRound p.modes.repeat p.round (left_after p.modes.consume entries position) goes.entry =
    subst (λ (b : Bool). FollowsBy b p.modes p.round entries (left_after p.modes.consume entries position) (position + 1) goes.entry) g.random goes.follows in
    let a = advance p q entries p.modes.repeat goes.entry n (subst (λ (xs : List Entry). FollowsInRound p.modes.repeat p.round xs goes.entry) same follows) goes.starts
    (subst (λ (xs : List Entry). BecomesRound p.round q.round entries xs goes.entry) same (goes.at_random g.random)) in
    record {
      entry = a.0;
      advances = a.1;
      goes = record {
        ids = g.ids;
        random = rule.consume.random ∙ g.random;
        consume = rule.consume.consume (not-once p.modes.consume g.consume) ∙ g.consume;
        song = a.0;
        queued = a.1.there;
        current = a.1.current;
      };
    }

next-of : (p : PlayerState) (entries : List Entry) → GoesAtRandom p entries → (AllWerePlayed p.round.played entries → ⊥) → Next p entries
next-of p entries g n =
    let at = position-in entries g.song g.queued in
    next-at p entries at.0 g n (next_goes_on.song p entries g.song at.0 g.ids at.1 g.current)

-- one entry fewer is left to be played
contains-later : (x : Entry) (xs : List Entry) (y : Entry) → Contains xs y → Contains (x ∷ xs) y
contains-later x xs y h = (suc h.0, omega (arith, h.1), h.2)

contains-first : (x : Entry) (xs : List Entry) → Contains (x ∷ xs) x
contains-first x xs = (0, omega arith, refl)

-- what was played agrees except for one entry
abbrev AgreeBut : List ℕ → List ℕ → List Entry → ℕ → Type 0
AgreeBut before after entries id = (e : Entry) → Contains entries e → is_among e.id after ≡ (is_among e.id before || (e.id == id))

or-false : (b : Bool) → (b || false) ≡ b
or-false true = refl
or-false false = refl

or-true : (b : Bool) → (b || true) ≡ true
or-true true = refl
or-true false = refl

same-left : (before after : List ℕ) (entries : List Entry) (id : ℕ) → AgreeBut before after entries id → ((e : Entry) → Contains entries e → e.id ≢ id) → unplayed after entries ≡ unplayed before entries
same-left before after [] id h k = refl
same-left before after (x ∷ xs) id h k =
    let differ : (x.id == id) ≡ false = grind (arith, k x (contains-first x xs)) in
    let agree : is_among x.id after ≡ is_among x.id before = h x (contains-first x xs) ∙ ap (λ (b : Bool). is_among x.id before || b) differ ∙ or-false (is_among x.id before) in
    rw agree (ap (λ (ys : List Entry). cond (not (is_among x.id before)) (x ∷ ys) ys) (same-left before after xs id (λ e c. h e (contains-later x xs e c)) (λ e c. k e (contains-later x xs e c))))

-- the entry itself stands once in the queue
fewer-here : (before after : List ℕ) (x : Entry) (xs : List Entry) → Distinct (x ∷ xs) → AgreeBut before after (x ∷ xs) x.id → is_among x.id before ≡ false
    → length (unplayed after (x ∷ xs)) + 1 ≡ length (unplayed before (x ∷ xs))
fewer-here before after x xs d h new =
    let self : (x.id == x.id) ≡ true = grind arith in
    let now : is_among x.id after ≡ true = h x (contains-first x xs) ∙ ap (λ (b : Bool). is_among x.id before || b) self ∙ or-true (is_among x.id before) in
    let rest : unplayed after xs ≡ unplayed before xs = same-left before after xs x.id (λ e c. h e (contains-later x xs e c)) (λ e c k. each-there (λ y. x.id ≢ y.id) xs e d.0 c (sym k)) in
    rw (now, new) (ap (λ (ys : List Entry). length ys + 1) rest ∙ add-one (length (unplayed before xs)))

fewer-first : (before after : List ℕ) (x : Entry) (xs : List Entry) (c : Entry) → Distinct (x ∷ xs) → AgreeBut before after (x ∷ xs) c.id → is_among c.id before ≡ false
    → (x ≡ c) ⊎ Contains xs c → (Contains xs c → length (unplayed after xs) + 1 ≡ length (unplayed before xs)) → length (unplayed after (x ∷ xs)) + 1 ≡ length (unplayed before (x ∷ xs))
fewer-first before after x xs c d h new (inl e) rest =
    fewer-here before after x xs d (subst (λ (y : Entry). AgreeBut before after (x ∷ xs) y.id) (sym e) h) (ap (λ (y : Entry). is_among y.id before) e ∙ new)
fewer-first before after x xs c d h new (inr there) rest =
    let apart : x.id ≢ c.id = each-there (λ y. x.id ≢ y.id) xs c d.0 there in
    let differ : (x.id == c.id) ≡ false = grind (arith, apart) in
    let agree : is_among x.id after ≡ is_among x.id before = h x (contains-first x xs) ∙ ap (λ (b : Bool). is_among x.id before || b) differ ∙ or-false (is_among x.id before) in
    let fewer : length (unplayed after xs) + 1 ≡ length (unplayed before xs) = rest there in
    rw agree
    (elim (is_among x.id before) as (λ v. length (cond (not v) (x ∷ unplayed after xs) (unplayed after xs)) + 1 ≡ length (cond (not v) (x ∷ unplayed before xs) (unplayed before xs))) [
      | true ↦ fewer
      | false ↦ omega (arith, fewer)
    ])

fewer : (before after : List ℕ) (entries : List Entry) (c : Entry) → Distinct entries → AgreeBut before after entries c.id → is_among c.id before ≡ false → Contains entries c
    → length (unplayed after entries) + 1 ≡ length (unplayed before entries)
fewer before after [] c d h new there = absurd (contains-none c there)
fewer before after (x ∷ xs) c d h new there =
    fewer-first before after x xs c d h new (contains-cases xs x c there) (fewer before after xs c d.1 (λ e k. h e (contains-later x xs e k)) new)

one-of : (q id : ℕ) (ids : List ℕ) → Contains ids q ⊎ (q ≡ id) → (is_among q ids || (q == id)) ≡ true
one-of q id ids (inl h) = rw (contains-among ids q h) refl
one-of q id ids (inr h) = let same : (q == id) ≡ true = grind (arith, h) in rw same (or-true (is_among q ids))

none-among : (ids : List ℕ) (q : ℕ) → (Contains ids q → ⊥) → is_among q ids ≡ false
none-among ids q h = elim (is_among q ids) as (λ v. is_among q ids ≡ v → v ≡ false) [ true ↦ λ e. absurd (h (among-contains ids q e)) | false ↦ λ e. refl ] refl

neither : (q id : ℕ) (ids : List ℕ) → (Contains ids q ⊎ (q ≡ id) → ⊥) → (is_among q ids || (q == id)) ≡ false
neither q id ids h =
    let apart : q ≢ id = λ e. h (inr e) in
    let differ : (q == id) ≡ false = grind (arith, apart) in
    rw (none-among ids q (λ k. h (inl k)), differ) refl

agree-of : (p q : PlayerState) (entries : List Entry) (c : Entry) → Advances p q entries c → AgreeBut p.round.played q.round.played entries c.id
agree-of p q entries c a e there =
    let both = a.played e there in
    elim (is_among e.id q.round.played) as (λ v. is_among e.id q.round.played ≡ v → v ≡ (is_among e.id p.round.played || (e.id == c.id))) [
      | true ↦ λ h. sym (one-of e.id c.id p.round.played (both.0 (among-contains q.round.played e.id h)))
      | false ↦ λ h. sym (neither e.id c.id p.round.played (λ k. let there_now : is_among e.id q.round.played ≡ true = contains-among q.round.played e.id (both.1 k) in let lost : true ≡ false = sym there_now ∙ h in cc))
    ] refl

one-fewer : (p : PlayerState) (entries : List Entry) → GoesAtRandom p entries → (n : Next p entries) → left_to_play (steps.next p entries).player entries + 1 ≡ left_to_play p entries
one-fewer p entries g n =
    let q : PlayerState = (steps.next p entries).player in
    fewer p.round.played q.round.played entries n.entry (distinct-from entries g.ids) (agree-of p q entries n.entry n.advances) (none-among p.round.played n.entry.id n.advances.unplayed) n.advances.there

-- a round with an entry that is left to be played is not over
some-left : (played : List ℕ) (entries : List Entry) (x : Entry) → Contains (unplayed played entries) x → AllWerePlayed played entries → ⊥
some-left played entries x h all =
    let kept = of-filter (λ (e : Entry). not (is_among e.id played)) entries x h in
    not-contained played x.id kept.1 (all x kept.0)

first-left : (played : List ℕ) (entries xs : List Entry) → xs ≡ unplayed played entries → 0 < length xs → AllWerePlayed played entries → ⊥
first-left played entries [] e h all = omega (arith, h)
first-left played entries (x ∷ xs) e h all = some-left played entries x (subst (λ (ys : List Entry). Contains ys x) e (contains-first x xs)) all

none-left : (played : List ℕ) (entries : List Entry) (entry : Entry) → length (unplayed played entries) ≡ 0 → Contains entries entry → (Contains played entry.id → ⊥) → ⊥
none-left played entries entry h there new =
    let here : Contains (unplayed played entries) entry = in-filter (λ (e : Entry). not (is_among e.id played)) entries entry (ap not (none-among played entry.id new)) there in
    omega (arith, here.1, h)

has-left : (played : List ℕ) (entries : List Entry) → 0 < length (unplayed played entries) → AllWerePlayed played entries → ⊥
has-left played entries h all = first-left played entries (unplayed played entries) refl h all

not-before : (p : PlayerState) (entries : List Entry) (n : Next p entries) (earlier : ℕ) (later : StartsAnother (steps.next p entries).player entries earlier) (count : ℕ) → count < suc earlier
    → (after_nexts p entries (suc count)).current ≢ Some later.entry.id
not-before p entries n earlier later zero h k =
    let same : Some n.entry.id ≡ Some later.entry.id = sym n.advances.current ∙ k in
    let id : later.entry.id ≡ n.entry.id = cc in
    later.unplayed ((n.advances.played later.entry later.queued).1 (inr id))
not-before p entries n earlier later (suc count) h k = later.first_time count (omega (arith, h)) k

still-new : (played : List ℕ) (id other : ℕ) → (Contains played id → ⊥) → (id == other) ≡ false → Contains played id ⊎ (id ≡ other) → ⊥
still-new played id other new e (inl h) = new h
still-new played id other new e (inr h) = let same : (id == other) ≡ true = grind (arith, h) in let lost : true ≡ false = sym same ∙ e in cc

none-twice : (earlier : ℕ) (p : PlayerState) (entries : List Entry) → GoesAtRandom p entries → earlier < left_to_play p entries → StartsAnother p entries earlier
none-twice zero p entries g h =
    let n = next-of p entries g (has-left p.round.played entries (omega (arith, h))) in
    record {
      entry = n.entry;
      queued = n.advances.there;
      unplayed = n.advances.unplayed;
      starts = n.advances.current;
      first_time = λ count k. absurd (omega (arith, k));
    }
none-twice (suc earlier) p entries g h =
    let n = next-of p entries g (has-left p.round.played entries (omega (arith, h))) in
    let few = one-fewer p entries g n in
    let q : PlayerState = (steps.next p entries).player in
    let later = none-twice earlier q entries n.goes (omega (arith, few, h)) in
    record {
      entry = later.entry;
      queued = later.queued;
      unplayed = λ k. later.unplayed ((n.advances.played later.entry later.queued).1 (inl k));
      starts = later.starts;
      first_time = λ count k. not-before p entries n earlier later count k;
    }

each-once : (left : ℕ) (p : PlayerState) (entries : List Entry) (entry : Entry) → GoesAtRandom p entries → left_to_play p entries ≡ left → Contains entries entry → (Contains p.round.played entry.id → ⊥)
    → IsStartedWithin p entries left entry
each-once zero p entries entry g h there new = absurd (none-left p.round.played entries entry h there new)
each-once (suc left) p entries entry g h there new =
    let n = next-of p entries g (has-left p.round.played entries (omega (arith, h))) in
    let few = one-fewer p entries g n in
    let q : PlayerState = (steps.next p entries).player in
    elim (entry.id == n.entry.id) as (λ v. (entry.id == n.entry.id) ≡ v → IsStartedWithin p entries (suc left) entry) [
      | true ↦ λ e. (0, omega arith, n.advances.current ∙ ap Some (sym (eqb-true entry.id n.entry.id e)))
      | false ↦ λ e.
          let still : Contains q.round.played entry.id → ⊥ = λ k. still-new p.round.played entry.id n.entry.id new e ((n.advances.played entry there).0 k) in
          let later = each-once left q entries entry n.goes (omega (arith, few, h)) there still in
          (suc later.0, omega (arith, later.1), later.2)
    ] refl

pub rounds_play_each_once : RoundsPlayEachOnce
rounds_play_each_once = record {
  each = λ p entries entry g there new. each-once (left_to_play p entries) p entries entry g refl there new;
  none_twice = λ p entries earlier g h. none-twice earlier p entries g h;
}

-- each song that was played is still in the queue
queued-left : (r s : RoundState) (entries left : List Entry) (id : ℕ) → ((other : Entry) → Contains entries other → Contains s.played other.id → Contains left other) → Contains s.played id
    → (entry : Entry) × Contains entries entry × (entry.id ≡ id) → (entry : Entry) × Contains left entry × (entry.id ≡ id)
queued-left r s entries left id alone h (entry, there, same) = (entry, alone entry there (subst (λ (n : ℕ). Contains s.played n) (sym same) h), same)

queued-forget : (r s : RoundState) (entries left : List Entry) → ForgetsGone r s entries left → PlayedAreQueued r.played entries → PlayedAreQueued s.played left
queued-forget r s entries left f queued id h = queued-left r s entries left id f.only_left h (queued id (f.no_more id h))

queued-either : (r s : RoundState) (entries left : List Entry) (c : Entry) (id : ℕ) → KeepsRound r s entries left c → Contains left c → PlayedAreQueued r.played entries → Contains s.played id
    → Contains r.played id ⊎ (id ≡ c.id) → (entry : Entry) × Contains left entry × (entry.id ≡ id)
queued-either r s entries left c id k here queued h (inl was) = queued-left r s entries left id k.only_left h (queued id was)
queued-either r s entries left c id k here queued h (inr same) = (c, here, sym same)

queued-keep : (r s : RoundState) (entries left : List Entry) (c : Entry) → KeepsRound r s entries left c → Contains left c → PlayedAreQueued r.played entries → PlayedAreQueued s.played left
queued-keep r s entries left c k here queued id h = queued-either r s entries left c id k here queued h (k.no_more id h)

entry-left : (repeat : Bool) (round : RoundState) (left : List Entry) (c : Entry) → FollowsInRound repeat round left (Some c) → Contains left c
entry-left repeat round left c (InRound _ least) = least.in_queue
entry-left repeat round left c (InNewRound _ all r least) = least.in_queue

only : (id c : ℕ) → (c ≡ id) ⊎ Contains [] id → c ≡ id
only id c (inl e) = e
only id c (inr h) = absurd (contains-none id h)

one-id : (id c : ℕ) → Contains (c ∷ []) id → c ≡ id
one-id id c h = only id c (contains-cases [] c id h)

queued-anew : (repeat : Bool) (r : RoundState) (played : List ℕ) (left : List Entry) (o : Option Entry) → FollowsInRound repeat r left o → played ≡ option_to_list (id_of o) → PlayedAreQueued played left
queued-anew repeat r played left None follows same id h = absurd (contains-none id (subst (λ (ids : List ℕ). Contains ids id) same h))
queued-anew repeat r played left (Some e) follows same id h = (e, entry-left repeat r left e follows, one-id id e.id (subst (λ (ids : List ℕ). Contains ids id) same h))

queued-becomes : (repeat : Bool) (r s : RoundState) (entries left : List Entry) (o : Option Entry) → FollowsInRound repeat r left o → BecomesRound r s entries left o → PlayedAreQueued r.played entries
    → PlayedAreQueued s.played left
queued-becomes repeat r s entries left _ follows (GoesOn c n k) queued = queued-keep r s entries left c k (entry-left repeat r left c follows) queued
queued-becomes repeat r s entries left o follows (BeginsAnew _ all k) queued = queued-anew repeat r s.played left o follows k.played

queued-goes : (p q : PlayerState) (playback : Playback) (entries left : List Entry) (position frame : ℕ) → choices.GoesOn p q playback entries left position frame → PlayedAreQueued p.round.played entries
    → PlayedAreQueued q.round.played left
queued-goes p q playback entries left position frame g queued =
    elim (p.modes.random) as (λ v. p.modes.random ≡ v → PlayedAreQueued q.round.played left) [
      | true ↦ λ r. queued-becomes p.modes.repeat p.round q.round entries left g.entry (subst (λ (b : Bool). FollowsBy b p.modes p.round entries left position g.entry) r g.follows) (g.at_random r) queued
      | false ↦ λ r. queued-forget p.round q.round entries left (g.in_order r) queued
    ] refl

queued-same : (r s : RoundState) (entries : List Entry) → s ≡ r → PlayedAreQueued r.played entries → PlayedAreQueued s.played entries
queued-same r s entries e queued = subst (λ (x : RoundState). PlayedAreQueued x.played entries) (sym e) queued

queued-end : (p q : PlayerState) (entries left : List Entry) (song : Entry) (position frame : ℕ) → left ≡ left_after p.modes.consume entries position → Contains entries song → EndHasCause p q entries left song position frame
    → PlayedAreQueued p.round.played entries → PlayedAreQueued q.round.played left
queued-end p q entries left song position frame l there (OrderGoesOn off g) queued = queued-goes p q p.playback entries left (position + 1) frame g queued
queued-end p q entries left song position frame l there (PlaysAgain single s kept same) queued =
    let all : left ≡ entries = l ∙ off-left p.modes.consume entries position single.consume in
    elim (p.modes.random) as (λ v. p.modes.random ≡ v → PlayedAreQueued q.round.played left) [
      | true ↦ λ r. queued-keep p.round q.round entries left song (kept r) (subst (λ (xs : List Entry). Contains xs song) (sym all) there) queued
      | false ↦ λ r. subst (λ (xs : List Entry). PlayedAreQueued q.round.played xs) (sym all) (queued-same p.round q.round entries (same r) queued)
    ] refl
queued-end p q entries left song position frame l there (StopsBySingle current h k s forgets) queued = queued-forget p.round q.round entries left forgets queued

queued-others : (p q : PlayerState) (entries : List Entry) (song entry : Entry) → Contains entries song → LeavesPlayed p q song entry → PlayedAreQueued p.round.played entries → PlayedAreQueued q.round.played entries
queued-others p q entries song entry there l queued id h =
    elim (id == song.id) as (λ v. (id == song.id) ≡ v → (e : Entry) × Contains entries e × (e.id ≡ id)) [
      | true ↦ λ e. (song, there, sym (eqb-true id song.id e))
      | false ↦ λ e. let differ : id ≢ song.id = grind (arith, e) in queued id ((l.others id differ).0 h)
    ] refl

queued-back : (p q : PlayerState) (entries : List Entry) (song : Entry) (position : ℕ) → Contains entries song → PreviousByRule p entries song position q → PlayedAreQueued p.round.played entries → PlayedAreQueued q.round.played entries
queued-back p q entries song position there rule queued =
    elim (p.modes.random) as (λ v. p.modes.random ≡ v → PlayedAreQueued q.round.played entries) [
      | true ↦ λ r. queued-others p q entries song rule.entry there (rule.played r) queued
      | false ↦ λ r. queued-same p.round q.round entries (rule.round r) queued
    ] refl

moved-either : (played : List ℕ) (entries : List Entry) (entry : Entry) (id : ℕ) → Contains entries entry → PlayedAreQueued played entries → Contains played id ⊎ (id ≡ entry.id)
    → (e : Entry) × Contains entries e × (e.id ≡ id)
moved-either played entries entry id there queued (inl h) = queued id h
moved-either played entries entry id there queued (inr e) = (entry, there, sym e)

queued-moved : (played : List ℕ) (entries : List Entry) (entry : Entry) → Contains entries entry → PlayedAreQueued played entries → PlayedAreQueued (moved_last played entry.id) entries
queued-moved played entries entry there queued id h = moved-either played entries entry id there queued (among-last id entry.id played h)

queued-start : (modes : Modes) (round : RoundState) (entries : List Entry) (entry : Entry) → Contains entries entry → PlayedAreQueued round.played entries → PlayedAreQueued (order.started modes round entry.id).played entries
queued-start modes round entries entry there queued =
    elim (modes.random) as (λ v. PlayedAreQueued (cond v (record round { played = moved_last round.played entry.id }) round).played entries) [
      | true ↦ queued-moved round.played entries entry there queued
      | false ↦ queued
    ]

queued-removed : (p : PlayerState) (entries : List Entry) (from end : ℕ) → HaveOwnIds entries → from ≤ end → end ≤ length entries → PlayedAreQueued p.round.played entries
    → (holds stopped : Bool)
    → PlayedAreQueued (cond holds (cond stopped (record (steps.without p entries from end) { current = None }) (player.cut (player.goes_on (record p { round = ends.round_after_removal p.modes p.round entries from end }) p.playback (id_of (ends.next_after_removal p.modes p.round entries from end)) 0 None))) (steps.without p entries from end)).round.played (left_by entries from end)
queued-removed p entries from end own sorted within queued false stopped =
    queued-forget p.round (draws.without p.round (order.ids_taken entries from end)) entries (left_by entries from end) (rounds_forget_gone.deleted p.round entries from end own sorted) queued
queued-removed p entries from end own sorted within queued true true =
    queued-forget p.round (draws.without p.round (order.ids_taken entries from end)) entries (left_by entries from end) (rounds_forget_gone.deleted p.round entries from end own sorted) queued
queued-removed p entries from end own sorted within queued true false =
    let q : PlayerState = player.cut (player.goes_on (record p { round = ends.round_after_removal p.modes p.round entries from end }) p.playback (id_of (ends.next_after_removal p.modes p.round entries from end)) 0 None) in
    queued-goes p q p.playback entries (left_by entries from end) end 0 (playing-on p entries from end own sorted within false refl).goes_on queued

pub played_stay_queued : PlayedStayQueued
played_stay_queued = record {
  ended = λ p entries song position frame own at queued.
      queued-end p (steps.ended p entries song.id frame).player entries (left_after p.modes.consume entries position) song position frame refl (get-there entries position song at)
      (ends_stop_for_a_cause p entries song position frame own at).cause queued;
  next = λ p entries song position own at current queued.
      queued-goes p (steps.next p entries).player Play entries (left_after p.modes.consume entries position) (position + 1) 0 (next_goes_on.song p entries song position own at current).goes_on queued;
  previous = λ p entries song position own at current queued.
      queued-back p (steps.previous p entries) entries song position (get-there entries position song at) (previous_consumes_nothing.song p entries song position own queued at current) queued;
  started = λ p entries entry there queued. queued-start p.modes p.round entries entry there queued;
  removed = λ p entries from end own sorted within queued. queued-removed p entries from end own sorted within queued (steps.holds_current entries p.current from end) (player.is_stopped p.playback);
}
