-- The images of traces are the images of the replay.
use Rattle.std.proofs.Common.{◌≡◌, inl, inr, ℕ, suc, ◌+◌, ◌%◌, ◌<◌, ◌≤◌, ◌==◌, nat_lt, Bool, true, false, not, ◌||◌, List, [], ◌∷◌, ◌++◌, length, map, filter, codes, Option, Some, None, refl, ap, sym, subst, ◌∙◌, arith, append_assoc, append-nil, if◌then◌else◌}
use Rattle.std.specs.List.{list_any}
use Rattle.std.proofs.Math.Nat.{mod-eq_of_lt}
use Rattle.std.proofs.lemmas.Bool.{eq-eqb, eqb-true}
use Rattle.std.proofs.lemmas.Bool.Decides.{nat_tests}
use Rattle.idle_notes.specs.declared.sets.Subsystems.{Subsystems}
use Rattle.idle_notes.specs.Sets.{all, none, union}
use Rattle.partition_table.specs.Openings.{OpeningsData}
use Rattle.partition_table.specs.Parts.{carried_in, changed, known, moved_output, opening_part, part_at, parts_moved}
use Rattle.partition_table.specs.declared.crossing.Crossing.{Crossing}
use Rattle.partition_table.specs.declared.crossing.Crossing.TheVariants.{Stays, Opens, Closes, Brings}
use Rattle.partition_table.specs.declared.openings.Greatest.{Greatest}
use Rattle.player_state.specs.Outputs.{OutputsData}
use Rattle.player_state.specs.declared.effect.Effect.{Effect}
use Rattle.player_state.specs.declared.outputs.Carried.{Carried}
use Rattle.player_state.specs.declared.state.Part.{Part}
use Rattle.player_state.specs.declared.state.Library.{Library}
use Rattle.song_queue.specs.declared.entry.Entry.{Entry}
use Rattle.song_queue.specs.Laws as queues
use Rattle.song_queue.specs.Past.{greatest_id, greatest_in, present, state_of}
use Rattle.song_queue.specs.State.{QueueState, queue_of}
use Rattle.song_queue.proofs.Ids.{pasts_keep_queues}
use Rattle.song_queue.proofs.Runs.{length-after_event, after_edit, edited-at_end, greatest_in-present}
use Rattle.player_events.specs.declared.event.Event.{Event}
use Rattle.player_events.specs.declared.event.LogEntry.{LogEntry}
use Rattle.player_state.specs.declared.state.Client.{Client}
use Rattle.partition.specs.declared.state.Setup.{Setup}
use Rattle.connected_clients.specs.Clients.{client_of, entering, is_this, move_of, newcomer, notified, raised, raised_there, watched_all, watched_of, Rising}
use Rattle.transitions.specs.Answers.{closes}
use Rattle.transitions.specs.declared.reply.Move.TheVariants.{Stay, Enter}
use Rattle.partition.specs.History.{made_of, replay}
use Rattle.player_state.specs.Effects.{Change, ByEdit, ByStep, change_of, part_after, queue_after}
use Rattle.partition.specs.Image.{Image, opening, openings_of, overview}
use Rattle.transitions.specs.Transitions.{TransitionData, parts_after}
use Rattle.player_state.specs.Libraries.{library_after}
use Rattle.partition.specs.Legal.{ReplaysWorlds}
use Rattle.partition.specs.Notices.{IsIn}
use Rattle.partition.specs.Step.{transition, moved_client, sender_number, raised_of, after_transition, ended_after, index_at, report_at, sender_in, told_by, next_image}
use Rattle.partition.specs.World.{Listener, PartWorld, WorldTransition, Trace, raised_at, raised_for, is_there, begins_anew, index_of, watched_by, pending_for, client_in, listener_of, books_of, image_of, part_in, part_world_after, parts_changed, past_after, unplayed, world_moved_output, worlds_moved, world_after_transition, traced, trace_after_event, trace_from, opening_trace}
use Rattle.partition.proofs.Counts.{made_of-more}
use Rattle.player_state.proofs.Frames.{Keeps, keeps}
use Rattle.partition.proofs.Notified.{Each, MayGo, flagged, all_stand}
use Rattle.partition.proofs.Opened.{IsOpenedBy, opened_by}
use Rattle.partition.proofs.Pending.{pending_more}
use Rattle.partition.proofs.Sends.{found, rests_here, speaks, waiter_rests}
use Rattle.connected_clients.proofs.Rises.{rising_after}

abbrev state_at : Greatest → List (List Entry) → QueueState
state_at limits past = state_of limits.max_queue limits.max_version limits.max_id past

pub some_past : (past : List (List Entry)) (change : Change) → 0 < length past → 0 < length (past_after past change)
some_past past (ByEdit edit) some = length-after_event past (queues.queue_after past edit) some
some_past past (ByStep None) some = some
some_past past (ByStep (Some left)) some = length-after_event past left some

shows : (limits : Greatest) (past : List (List Entry)) → present past ≡ queue_of (state_at limits past)
shows limits past = sym (pasts_keep_queues.shows limits.max_queue limits.max_version limits.max_id past)

follows : (limits : Greatest) (past : List (List Entry)) (change : Change) → 1 ≤ limits.max_version → 0 < length past → Keeps (queue_of (state_at limits past)) change
    → state_at limits (past_after past change) ≡ queue_after (state_at limits past) change
follows limits past (ByEdit edit) above some kept = sym (after_edit limits.max_queue limits.max_version limits.max_id (omega arith) past edit some)
follows limits past (ByStep None) above some kept = refl
follows limits past (ByStep (Some left)) above some kept =
    let same : greatest_in (queue_of (state_at limits past)) ≡ greatest_in (present past) = ap greatest_in (sym (shows limits past)) in
    let low : greatest_in (present past) ≤ greatest_id past = greatest_in-present past in
    sym (edited-at_end limits.max_queue limits.max_version limits.max_id (omega arith) past left some (omega (arith, kept, same, low)))

-- what can be read of a partition after an event is what the event makes of what could be read before it
pub part_follows : (rate : ℕ) (p : PartWorld) (effect : Effect) → 1 ≤ p.limits.max_version → 0 < length p.past
    → part_in (part_world_after rate (part_in p) p effect) ≡ part_after rate (part_in p) effect
part_follows rate p effect above some =
    ap (λ (q : QueueState). record (part_after rate (part_in p) effect) { queue = q })
    (follows p.limits p.past (change_of rate (part_in p) effect) above some (keeps rate (part_in p) effect))

-- each partition had a queue, and has versions
abbrev pub AllBegun : List PartWorld → Type 0
AllBegun [] = Unit {0}
AllBegun (p ∷ ps) = ((1 ≤ p.limits.max_version) × (0 < length p.past)) × AllBegun ps

parts_follow : (rate index : ℕ) (effect : Effect) (ps : List PartWorld) → AllBegun ps → map part_in (parts_changed rate index effect ps) ≡ changed rate index effect (map part_in ps)
parts_follow rate index effect [] begun = refl
parts_follow rate index effect (p ∷ ps) begun =
    elim (p.index == index) as (λ b. map part_in (if b then part_world_after rate (part_in p) p effect ∷ ps else p ∷ parts_changed rate index effect ps)
    ≡ (if b then part_after rate (part_in p) effect ∷ map part_in ps else part_in p ∷ changed rate index effect (map part_in ps))) [
      | true ↦ ap (λ (q : Part). q ∷ map part_in ps) (part_follows rate p effect begun.0.0 begun.0.1)
      | false ↦ ap (λ (qs : List Part). part_in p ∷ qs) (parts_follow rate index effect ps begun.1)
    ]

begun_changed : (rate index : ℕ) (effect : Effect) (ps : List PartWorld) → AllBegun ps → AllBegun (parts_changed rate index effect ps)
begun_changed rate index effect [] begun = tt
begun_changed rate index effect (p ∷ ps) begun =
    elim (p.index == index) as (λ b. AllBegun (if b then part_world_after rate (part_in p) p effect ∷ ps else p ∷ parts_changed rate index effect ps)) [
      | true ↦ ((begun.0.0, some_past p.past (change_of rate (part_in p) effect) begun.0.1), begun.1)
      | false ↦ (begun.0, begun_changed rate index effect ps begun.1)
    ]

-- a partition that is opened has an empty past
opened_reads : (openings : OpeningsData) (index : ℕ) (name : List ℕ) (outputs : OutputsData) → 1 ≤ openings.greatest.max_version
    → part_in (unplayed (opening_part openings index name outputs)) ≡ opening_part openings index name outputs
opened_reads openings index name outputs above =
    let limits : Greatest = openings.greatest in
    let zeroth : 0 % limits.max_version + 1 ≡ 1 = ap (λ n. n + 1) (mod-eq_of_lt (let h : 0 < limits.max_version = omega arith in h)) in
    ap (λ (v : ℕ). record (opening_part openings index name outputs) {
      queue = record { slots = []; version = v; greatest_id = 0; max_len = limits.max_queue; max_version = limits.max_version; max_id = limits.max_id; parity = false };
    }) zeroth

length-map_in : (ps : List PartWorld) → length (map part_in ps) ≡ length ps
length-map_in [] = refl
length-map_in (p ∷ ps) = ap suc (length-map_in ps)

added : (ps : List PartWorld) (p : PartWorld) → map part_in (ps ++ p ∷ []) ≡ map part_in ps ++ part_in p ∷ []
added [] p = refl
added (q ∷ qs) p = ap (λ (l : List Part). part_in q ∷ l) (added qs p)

closed : (gone : ℕ) (ps : List PartWorld) → map part_in (filter (λ (p : PartWorld). not (p.index == gone)) ps) ≡ filter (λ (p : Part). not (p.index == gone)) (map part_in ps)
closed gone [] = refl
closed gone (p ∷ ps) =
    elim (p.index == gone) as (λ b. map part_in (if not b then p ∷ filter (λ (q : PartWorld). not (q.index == gone)) ps else filter (λ (q : PartWorld). not (q.index == gone)) ps)
    ≡ (if not b then part_in p ∷ filter (λ (q : Part). not (q.index == gone)) (map part_in ps) else filter (λ (q : Part). not (q.index == gone)) (map part_in ps)))
    [ true ↦ closed gone ps | false ↦ ap (λ (l : List Part). part_in p ∷ l) (closed gone ps) ]

moved_one : (output to : ℕ) (c : Option Carried) (p : PartWorld) → part_in (world_moved_output output to c p) ≡ moved_output output to c (part_in p)
moved_one output to None p = refl
moved_one output to (Some c) p = refl

moved_all : (output to : ℕ) (c : Option Carried) (ps : List PartWorld) → map part_in (map (world_moved_output output to c) ps) ≡ map (moved_output output to c) (map part_in ps)
moved_all output to c [] = refl
moved_all output to c (p ∷ ps) = λ i. moved_one output to c p i ∷ moved_all output to c ps i

-- what passes between the partitions, of which a new one is opened so
crossed : (openings : OpeningsData) → 1 ≤ openings.greatest.max_version → (c : Crossing) → IsOpenedBy openings c → (ps : List PartWorld)
    → map part_in (worlds_moved c ps) ≡ parts_moved c (map part_in ps)
crossed openings above Stays fair ps = refl
crossed openings above (Opens new) fair ps =
    let reads : part_in (unplayed new) ≡ new =
    ap (λ (p : Part). part_in (unplayed p)) fair.3 ∙ opened_reads openings fair.0 fair.1 fair.2 above ∙ sym fair.3 in
    let one : map part_in (ps ++ unplayed new ∷ []) ≡ map part_in ps ++ new ∷ [] = added ps (unplayed new) ∙ ap (λ (p : Part). map part_in ps ++ p ∷ []) reads in
    let both : (b : Bool) → map part_in (if b then ps ++ unplayed new ∷ [] else ps) ≡ (if b then map part_in ps ++ new ∷ [] else map part_in ps) =
    λ b. elim b as (λ b. map part_in (if b then ps ++ unplayed new ∷ [] else ps) ≡ (if b then map part_in ps ++ new ∷ [] else map part_in ps)) [ true ↦ one | false ↦ refl ] in
    both (nat_lt (length ps) 16) ∙ ap (λ n. if nat_lt n 16 then map part_in ps ++ new ∷ [] else map part_in ps) (sym (length-map_in ps))
crossed openings above (Closes gone) fair ps = closed gone ps
crossed openings above (Brings output to) fair ps = moved_all output to (carried_in output to (map known (map part_in ps))) ps

begun_added : (ps : List PartWorld) (p : PartWorld) → AllBegun ps → (1 ≤ p.limits.max_version) × (0 < length p.past) → AllBegun (ps ++ p ∷ [])
begun_added [] p begun one = (one, tt)
begun_added (q ∷ qs) p begun one = (begun.0, begun_added qs p begun.1 one)

begun_closed : (gone : ℕ) (ps : List PartWorld) → AllBegun ps → AllBegun (filter (λ (p : PartWorld). not (p.index == gone)) ps)
begun_closed gone [] begun = tt
begun_closed gone (p ∷ ps) begun =
    elim (p.index == gone) as (λ b. AllBegun (if not b then p ∷ filter (λ (q : PartWorld). not (q.index == gone)) ps else filter (λ (q : PartWorld). not (q.index == gone)) ps))
    [ true ↦ begun_closed gone ps begun.1 | false ↦ (begun.0, begun_closed gone ps begun.1) ]

begun_one : (output to : ℕ) (c : Option Carried) (p : PartWorld) → (1 ≤ p.limits.max_version) × (0 < length p.past)
    → (1 ≤ (world_moved_output output to c p).limits.max_version) × (0 < length (world_moved_output output to c p).past)
begun_one output to None p one = one
begun_one output to (Some c) p one = one

begun_moved : (output to : ℕ) (c : Option Carried) (ps : List PartWorld) → AllBegun ps → AllBegun (map (world_moved_output output to c) ps)
begun_moved output to c [] begun = tt
begun_moved output to c (p ∷ ps) begun = (begun_one output to c p begun.0, begun_moved output to c ps begun.1)

begun_crossed : (openings : OpeningsData) → 1 ≤ openings.greatest.max_version → (c : Crossing) → IsOpenedBy openings c → (ps : List PartWorld) → AllBegun ps → AllBegun (worlds_moved c ps)
begun_crossed openings above Stays fair ps begun = begun
begun_crossed openings above (Opens new) fair ps begun =
    let versions : 1 ≤ new.queue.max_version = subst (λ (p : Part). 1 ≤ p.queue.max_version) (sym fair.3) above in
    elim (nat_lt (length ps) 16) as (λ b. AllBegun (if b then ps ++ unplayed new ∷ [] else ps))
    [ true ↦ begun_added ps (unplayed new) begun (versions, omega arith) | false ↦ begun ]
begun_crossed openings above (Closes gone) fair ps begun = begun_closed gone ps begun
begun_crossed openings above (Brings output to) fair ps begun = begun_moved output to (carried_in output to (map known (map part_in ps))) ps begun

-- what the subsystems speak of is what can be read
watched_reads : (ps : List PartWorld) → map watched_by ps ≡ map watched_of (map part_in ps)
watched_reads [] = refl
watched_reads (p ∷ ps) = λ i. record (watched_by p) { queue = shows p.limits p.past i } ∷ watched_reads ps i

pub same_first : (n : ℕ) → (n == n) ≡ true
same_first n = grind (arith, nat_tests)

pub or_more : (a b : Bool) → b ≡ true → (a || b) ≡ true
or_more true b e = refl
or_more false b e = e

module _ (world_transitions : List WorldTransition) where
  abbrev among : ℕ → List Listener → Bool
  among n ls = list_any (λ (k : Listener). k.number == n) ls

  further : (l : Listener) (all ls : List Listener) → Each (λ k. among k.number all ≡ true) (map (client_in world_transitions) ls)
      → Each (λ k. among k.number (l ∷ all) ≡ true) (map (client_in world_transitions) ls)
  further l all [] e = tt
  further l all (x ∷ xs) e = (or_more (l.number == x.number) (among x.number all) e.0, further l all xs e.1)

  all_among : (ls : List Listener) → Each (λ k. among k.number ls ≡ true) (map (client_in world_transitions) ls)
  all_among [] = tt
  all_among (l ∷ ls) = (ap (λ b. b || among l.number ls) (same_first l.number), further l ls ls (all_among ls))

  -- what is raised for a client is what is raised for the one of its number
  with_flags : (there : ℕ → Bool) (r : Client → Subsystems) (by_number : ℕ → Subsystems) (ls : List Listener) → Each (λ k. there k.number ≡ true) (map (client_in world_transitions) ls)
      → Each (λ k. r k ≡ by_number k.number) (map (client_in world_transitions) ls)
      → Each (λ k. (there k.number ≡ true) × (k.pending.changed ≡ pending_for k.number world_transitions) × (r k ≡ by_number k.number)) (map (client_in world_transitions) ls)
  with_flags there r by_number [] e same = tt
  with_flags there r by_number (l ∷ ls) e same = ((e.0, refl, same.0), with_flags there r by_number ls e.1 same.1)

  absent : (r : Client → Subsystems) (n : ℕ) (ls : List Listener) → client_of n (map (notified r) (map (client_in world_transitions) ls)) ≡ None → among n ls ≡ false
  absent r n [] e = refl
  absent r n (l ∷ ls) e =
      let rest : Option Client = client_of n (map (notified r) (map (client_in world_transitions) ls)) in
      let first : Client = notified r (client_in world_transitions l) in
      let cases : (b : Bool) → (l.number == n) ≡ b → (b || among n ls) ≡ false =
      λ b. elim b as (λ b. (l.number == n) ≡ b → (b || among n ls) ≡ false) [
        | true ↦ λ t. (let found : (if l.number == n then Some first else rest) ≡ Some first = rw t refl in let clash : Some first ≡ None = sym found ∙ e in cc)
        | false ↦ λ t. absent r n ls (rw t at e)
      ] in
      cases (l.number == n) refl

  -- where a client is that is found by its number
  index_found : (n : ℕ) (k : Client) (ls : List Listener) → client_of n (map (client_in world_transitions) ls) ≡ Some k → index_of n ls ≡ k.index
  index_found n k [] e = cc
  index_found n k (l ∷ ls) e =
      let first : Client = client_in world_transitions l in
      let rest : Option Client = client_of n (map (client_in world_transitions) ls) in
      let cases : (b : Bool) → (l.number == n) ≡ b → (if b then Some first else rest) ≡ Some k → (if b then l.index else index_of n ls) ≡ k.index =
      λ b. elim b as (λ b. (l.number == n) ≡ b → (if b then Some first else rest) ≡ Some k → (if b then l.index else index_of n ls) ≡ k.index) [
        | true ↦ λ t h. (let same : first ≡ k = cc in ap (λ (c : Client). c.index) same)
        | false ↦ λ t h. index_found n k ls h
      ] in
      cases (l.number == n) refl e

-- a list of clients that its flags leave as it is
all_same : (world_transitions : List WorldTransition) (ks : List Client) → Each (λ k. flagged (λ n. pending_for n world_transitions) k ≡ k) ks
    → map (client_in world_transitions) (map listener_of ks) ≡ ks
all_same world_transitions [] e = refl
all_same world_transitions (k ∷ ks) e = λ i. e.0 i ∷ all_same world_transitions ks e.1 i

-- what holds of each client of some holds of all
pub each : (P : Client → Type 0) (ks : List Client) → ((k : Client) → IsIn k ks → P k) → Each P ks
each P [] holds = tt
each P (k ∷ ks) holds = (holds k (inl refl), each P ks (λ c among. holds c (inr among)))

-- who goes to another partition by an event does not wait, and everything is raised for it
pub may_go : (i : Image) (event : Event) → Rising i.clients → (index : ℕ)
    → (if closes (transition i event).response.answer.next then Stay else (transition i event).response.move) ≡ Enter index
    → Each (MayGo (raised_of i event (transition i event)) (sender_number event)) i.clients
may_go i event rising index goes =
    let t : TransitionData = transition i event in
    let r : Client → Subsystems = raised_of i event t in
    each (MayGo r (sender_number event)) i.clients (λ k among own.
    let number : k.number ≡ sender_number event = eqb-true k.number (sender_number event) own in
    let found_it : client_of (sender_number event) i.clients ≡ Some k = ap (λ n. client_of n i.clients) (sym number) ∙ found k i.clients rising among in
    let spoken : sender_in i.clients event ≡ Some k = speaks i.clients event k (Enter index) (λ e. cc) found_it (overview i) (part_at (index_at i event) i.parts) i.shared.library goes in
    let moved_client_is : moved_client (sender_number event) t.response ≡ Some (sender_number event) = ap (entering (sender_number event)) goes in
    let free : (w : Option Subsystems) → k.pending.waiting ≡ w → k.pending.waiting ≡ None =
    λ w. elim w as (λ w. k.pending.waiting ≡ w → k.pending.waiting ≡ None) [
      | None ↦ λ e. e
      | Some named ↦ λ e. absurd (rests_here (move_of t.response) index
          (waiter_rests (overview i) (part_at (index_at i event) i.parts) i.shared.library k named e event (sender_in i.clients event) spoken) goes)
    ] in
    let this : is_this (moved_client (sender_number event) t.response) k.number ≡ true =
    ap (λ (g : Option ℕ). is_this g k.number) moved_client_is ∙ eq-eqb (sender_number event) k.number (sym number) in
    (free k.pending.waiting refl, ap (λ b. if b then all else raised_there t.written (watched_all i.shared.library i.parts) (watched_all (library_after i.shared.library t.scan) (parts_after i.shared.library.rate (index_at i event) t i.parts)) k) this)
    )

module _ (trace : Trace) (done : List LogEntry) (event : Event) (above : 1 ≤ trace.world.openings.greatest.max_version) (begun : AllBegun trace.world.parts)
    (rising : Rising (image_of trace done).clients) where
  abbrev i : Image
  i = image_of trace done

  abbrev t : TransitionData
  t = transition i event

  abbrev r : Client → Subsystems
  r = raised_of i event t

  abbrev m : WorldTransition
  m = record { before = trace.world; event = event; transition = t; notices = (told_by i event t).notices; report = report_at i event t; after = world_after_transition trace.world i event t }

  abbrev rate : ℕ
  rate = trace.world.library.rate

  abbrev index : ℕ
  index = index_at i event

  fair : IsOpenedBy trace.world.openings t.crossing
  fair = opened_by (overview i) (part_at index i.parts) trace.world.library (sender_in i.clients event) event

  -- what can be read of the partitions after the event
  all_follow : map part_in m.after.parts ≡ parts_after rate index t i.parts
  all_follow =
      crossed trace.world.openings above t.crossing fair (parts_changed rate index t.effect trace.world.parts)
      ∙ ap (parts_moved t.crossing) (parts_follow rate index t.effect trace.world.parts begun)

  pub begun_after : AllBegun m.after.parts
  begun_after =
      begun_crossed trace.world.openings above t.crossing fair (parts_changed rate index t.effect trace.world.parts) (begun_changed rate index t.effect trace.world.parts begun)

  is_raised : raised_for m ≡ r
  is_raised = λ j. raised (moved_client (sender_number event) t.response) t.written (record { library = trace.world.library; parts = watched_reads trace.world.parts j })
      (record { library = library_after trace.world.library t.scan; parts = (watched_reads m.after.parts ∙ ap (map watched_of) all_follow) j })

  -- what is raised for a client is what is raised for the one of its number
  pub raised_by_number : (k : Client) → IsIn k i.clients → r k ≡ raised_at k.number m
  raised_by_number k among_them =
      let there : index_of k.number trace.world.clients ≡ k.index = index_found trace.world_transitions k.number k trace.world.clients (found k i.clients rising among_them) in
      ap (λ (s : Client → Subsystems). s k) (sym is_raised)
      ∙ ap (λ (p : ℕ). raised_for m (record (newcomer k.number) { index = p })) (sym there)

  grows : (n : ℕ) → pending_for n (m ∷ trace.world_transitions) ≡ (if begins_anew n m then none else union (pending_for n trace.world_transitions) (raised_at n m))
  grows n = pending_more n m trace.world_transitions (begins_anew n m) refl

  -- the flags of the clients after an event are what is pending with one more transition
  clients_stand : map (client_in (m ∷ trace.world_transitions)) (map listener_of (after_transition i event t).clients) ≡ (after_transition i event t).clients
  clients_stand =
      all_same (m ∷ trace.world_transitions) (after_transition i event t).clients
      (all_stand r (λ n. raised_at n m) (λ n. pending_for n trace.world_transitions) (λ n. pending_for n (m ∷ trace.world_transitions)) (λ n. is_there n trace.world) (sender_number event)
      i.clients rising
      (with_flags trace.world_transitions (λ n. is_there n trace.world) r (λ n. raised_at n m) trace.world.clients (all_among trace.world_transitions trace.world.clients)
      (each (λ k. r k ≡ raised_at k.number m) i.clients raised_by_number))
      (closes t.response.answer.next) t.response.move (may_go i event rising) grows (absent trace.world_transitions r (sender_number event) trace.world.clients))

  pub image_of-step : (h : LogEntry) → h.event ≡ event → image_of (traced trace i event t) (done ++ h ∷ []) ≡ next_image h.seat i event
  unfolding next_image
  image_of-step h same =
      let all_of : List Client → List Part → List ℕ → Image = λ k ps made. record {
        parts = ps;
        shared = record { library = library_after trace.world.library t.scan; made = made; books = books_of (m ∷ trace.world_transitions); ended = ended_after trace.world.ended event; openings = trace.world.openings };
        clients = k;
      } in
      ap (λ k. all_of k (map part_in m.after.parts) (made_of (done ++ h ∷ []))) clients_stand
      ∙ ap (λ ps. all_of (after_transition i event t).clients ps (made_of (done ++ h ∷ []))) all_follow
      ∙ ap (all_of (after_transition i event t).clients (parts_after rate index t i.parts)) (sym (made_of-more done h))

  pub rising-step : (h : LogEntry) → Rising (image_of (traced trace i event t) (done ++ h ∷ [])).clients
  rising-step h = subst Rising (sym clients_stand) (rising_after (sender_number event) r t.response i.clients rising)

from : (trace : Trace) (done hs : List LogEntry) → 1 ≤ trace.world.openings.greatest.max_version → AllBegun trace.world.parts → Rising (image_of trace done).clients
    → (replay (image_of trace done) hs ≡ image_of (trace_from done trace hs) (done ++ hs)) × Rising (image_of (trace_from done trace hs) (done ++ hs)).clients
from trace done [] above begun rising =
    (ap (image_of trace) (sym (append-nil done)), subst (λ (l : List LogEntry). Rising (image_of trace l).clients) (sym (append-nil done)) rising)
from trace done (h ∷ hs) above begun rising =
    let rest = from (trace_after_event done trace h.event) (done ++ h ∷ []) hs above (begun_after trace done h.event above begun rising)
    (rising-step trace done h.event above begun rising h) in
    let joined : image_of (trace_from (done ++ h ∷ []) (trace_after_event done trace h.event) hs) ((done ++ h ∷ []) ++ hs) ≡ image_of (trace_from (done ++ h ∷ []) (trace_after_event done trace h.event) hs) (done ++ h ∷ hs) =
    ap (image_of (trace_from (done ++ h ∷ []) (trace_after_event done trace h.event) hs)) (append_assoc done (h ∷ []) hs) in (
      ap (λ (i : Image). replay i hs) (sym (image_of-step trace done h.event above begun rising h refl)) ∙ rest.0 ∙ joined,
      subst (λ (i : Image). Rising i.clients) joined rest.1,
    )

pub opens : (setup : Setup) (library : Library) → 1 ≤ setup.limits.max_version → opening setup library ≡ image_of (opening_trace (opening setup library)) []
opens setup library above =
    let openings : OpeningsData = openings_of setup in
    ap (λ (p : Part). record {
      parts = p ∷ [];
      shared = record { library = library; made = made_of []; books = books_of []; ended = false; openings = openings };
      clients = [];
    }) (sym (opened_reads openings 0 (codes "default") setup.outputs above))

pub opening_begun : (setup : Setup) (library : Library) → 1 ≤ setup.limits.max_version → AllBegun (opening_trace (opening setup library)).world.parts
opening_begun setup library above = ((above, omega arith), tt)

-- over every history
pub replays_worlds : ReplaysWorlds
replays_worlds setup library history above =
    let rest = from (opening_trace (opening setup library)) [] history above (opening_begun setup library above) tt in
    (ap (λ (i : Image). replay i history) (opens setup library above) ∙ rest.0, rest.1)
