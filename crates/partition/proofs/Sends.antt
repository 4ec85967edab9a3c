-- Which clients are sent a notice, and what becomes of each.
use Rattle.std.proofs.Common.{◌≡◌, ◌≢◌, ◌⊎◌, inl, inr, ℕ, ◌<◌, ◌==◌, Bool, true, false, not, ◌&&◌, Option, List, [], ◌∷◌, ◌++◌, Some, None, is_some, unwrap_or, map, refl, ap, sym, subst, ◌∙◌, arith, if◌then◌else◌}
use Rattle.std.specs.Prelude.{filter, insert, nat_lt}
use Rattle.std.specs.List.{flat_map, position_or_len}
use Rattle.std.proofs.lemmas.Bool.{eq-eqb, eqb-true, ne_eqb}
use Rattle.std.proofs.lemmas.Bool.Decides.{nat_tests}
use Rattle.idle_notes.specs.declared.sets.Subsystems.{Subsystems}
use Rattle.idle_notes.specs.Sets.{is_nonempty}
use Rattle.idle_notes.specs.Notes.{everything, fresh, noted, waits, cancelled, due}
use Rattle.player_state.specs.declared.state.Library.{Library}
use Rattle.mpd_command.specs.declared.command.Command.{Command}
use Rattle.mpd_command.specs.declared.name.Name.{Name}
use Rattle.mpd_command.specs.declared.request.Request.{Request}
use Rattle.mpd_command.specs.declared.request.Request.TheVariants.{Run, Refused}
use Rattle.transitions.specs.declared.asked.Asked.{Asked}
use Rattle.transitions.specs.declared.asked.ListPlace.{ListPlace}
use Rattle.transitions.specs.declared.asked.ListPlace.TheVariants.{Alone, InList}
use Rattle.player_events.specs.declared.event.Event.{Event}
use Rattle.player_events.specs.declared.event.Event.TheVariants.{Connect, Disconnect, Line, ScanQuestion, ScanResult, Want, Have, Failed, OutputTurn, End}
use Rattle.player_state.specs.declared.effect.AudioStep.TheVariants.{Settles}
use Rattle.player_state.specs.Outputs.{is_output}
use Rattle.transitions.specs.declared.reply.Move.{Move}
use Rattle.transitions.specs.declared.reply.Move.TheVariants.{Stay, Wait, Learn, Resume, Join, Show, Enter}
use Rattle.connected_clients.specs.declared.notices.Notice.{Notice}
use Rattle.player_state.specs.declared.state.Client.{Client}
use Rattle.player_state.specs.declared.state.Part.{Part}
use Rattle.transitions.specs.Answers.{Answer, ResponseData, refused_by_shelf, stays, closes}
use Rattle.status_commands.specs.Status.{Wish, ToWait, ToGoOn, ToShow, wish_of}
use Rattle.connected_clients.specs.Clients.{entered, notified, is_other, at, moved, newcomer, notice_to, notice_for, notices_after, clients_after, shown, staying, move_of, AllAbove, Rising}
use Rattle.transitions.specs.Transitions.{TransitionData}
use Rattle.connected_clients.specs.Clients.{client_of}
use Rattle.partition.specs.Image.{Overview}
use Rattle.partition.specs.Step.{absent, asked_by, ends_by, failure, have, once_written, output_turn, transition_of, transition_line, transition_there, transition_wished, want, written_transition, client_among, sender, sender_in, sender_number}
use Rattle.player_events.specs.Events.{name_of}
use Rattle.transitions.specs.Transitions.{acts, departs, no_response}
use Rattle.transitions.specs.Shelves.{is_written}
use Rattle.transitions.specs.declared.shelf_calls.Read.{Read}
use Rattle.shelf.specs.declared.faults.ShelfFault.{ShelfFault}
use Rattle.partition.specs.Notices.{IsIn, AllBeyond, NoticesRise}
use Rattle.partition.proofs.Members.{in_filter, of_filter, in_insert, in_map, of_map, in_flat_map, of_flat_map}
use Rattle.connected_clients.proofs.Rises.{at_keeps, entered_keeps, shown_keeps}

above_in : (n : ℕ) (k : Client) (ks : List Client) → AllAbove n ks → IsIn k ks → n < k.number
above_in n k [] a e = absurd e
above_in n k (c ∷ cs) a (inl e) = subst (λ (x : Client). n < x.number) e a.0
above_in n k (c ∷ cs) a (inr e) = above_in n k cs a.1 e

-- by rising numbers a client is found by its own
pub found : (k : Client) (ks : List Client) → Rising ks → IsIn k ks → client_of k.number ks ≡ Some k
found k [] r e = absurd e
found k (c ∷ cs) r (inl e) =
    let same : (c.number == k.number) ≡ true = eq-eqb c.number k.number (ap (λ (x : Client). x.number) e) in
    rw same (ap Some e)
found k (c ∷ cs) r (inr e) =
    let less : c.number < k.number = above_in c.number k cs r.0 e in
    let other : (c.number == k.number) ≡ false = grind (arith, nat_tests) in
    rw other (found k cs r.1 e)

-- a move of a client that waits: none, or it waits no more
abbrev pub Rests : Move → Type 0
Rests Stay = Unit {0}
Rests (Wait names) = ⊥
Rests Learn = ⊥
Rests Resume = Unit {0}
Rests Join = ⊥
Rests (Show tags) = ⊥
Rests (Enter index) = ⊥

rests_stays : (answer : Answer) → Rests (move_of (stays answer))
rests_stays answer = elim (closes answer.next) as (λ b. Rests (if b then Stay else Stay)) [ true ↦ tt | false ↦ tt ]

module _ (o : Overview) (part : Option Part) (library : Library) (read : Read) (k : Client) (named : Subsystems) where
  abbrev Moves : Asked → Command → Option Wish → Type 0
  Moves asked command wish =
      Rests (move_of (if is_some k.pending.waiting && not (ends_by asked.list_place wish) then departs k.number else transition_wished asked k (transition_there o asked part library read command) wish).response)

  wish_moves : (name : Name) (list_place : ListPlace) (command : Command) (wish : Option Wish) → k.pending.waiting ≡ Some named → Moves (asked_by k name list_place) command wish
  wish_moves name Alone command None w = rw w tt
  wish_moves name Alone command (Some (ToWait more)) w = rw w tt
  wish_moves name Alone command (Some ToGoOn) w = rw w tt
  wish_moves name Alone command (Some (ToShow choice)) w = rw w tt
  wish_moves name (InList form number_in_list) command wish w = rw w tt

  line_moves : (list_place : ListPlace) (request : Request) → k.pending.waiting ≡ Some named → Rests (move_of (transition_line o part library (Some k) list_place request read).response)
  line_moves list_place (Run name command) w = wish_moves name list_place command (wish_of command) w
  line_moves list_place (Refused ack) w = rw w tt

-- a transition that writes to the shelf makes no other move than it would else
written_moves : (list_place : ListPlace) (request : Request) (refused : Option ShelfFault) (t : TransitionData) → Rests (move_of t.response) → Rests (move_of (written_transition list_place request refused t).response)
written_moves list_place request refused t rests =
    elim (is_written t.written) as (λ b. Rests (move_of (if b then once_written list_place request refused t else t).response)) [
      | true ↦ elim refused as (λ r. Rests (move_of (once_written list_place request r t).response)) [ None ↦ rests | Some fault ↦ rests_stays (refused_by_shelf list_place (name_of request) fault) ]
      | false ↦ rests
    ]

rests_if : (b : Bool) (x y : TransitionData) → Rests (move_of x.response) → Rests (move_of y.response) → Rests (move_of (if b then x else y).response)
rests_if true x y p q = p
rests_if false x y p q = q

-- a client that waits makes no move but to wait no more
module _ (o : Overview) (part : Option Part) (library : Library) (k : Client) (named : Subsystems) (waits_named : k.pending.waiting ≡ Some named) where
  rests_turn : (part : Option Part) (output written discarded : ℕ) (failed : Bool) → Rests (move_of (output_turn part output (Settles output written discarded failed)).response)
  rests_turn None output written discarded failed = tt
  rests_turn (Some part) output written discarded failed =
      rests_if (is_output part.outputs output) (acts (Settles output written discarded failed)) absent tt tt

  rests_want : (part : Option Part) (owes : List Bool) → Rests (move_of (want o.ended part owes).response)
  rests_want None owes = tt
  rests_want (Some part) owes = tt

  rests_have : (part : Option Part) (number frames : ℕ) → Rests (move_of (have o.ended part number frames).response)
  rests_have None number frames = tt
  rests_have (Some part) number frames = tt

  rests_failure : (part : Option Part) (number : ℕ) (of_partner : Bool) → Rests (move_of (failure part number of_partner).response)
  rests_failure None number of_partner = tt
  rests_failure (Some part) number of_partner = tt

  pub waiter_rests : (event : Event) (client : Option Client) → client ≡ Some k → Rests (move_of (transition_of o part library client event).response)
  waiter_rests (Connect number) client e = rw e tt
  waiter_rests (Disconnect number) client e = tt
  waiter_rests ScanQuestion client e = tt
  waiter_rests (ScanResult songs second) client e = tt
  waiter_rests (Want index owes) client e = rests_want part owes
  waiter_rests (Have index number frames) client e = rests_have part number frames
  waiter_rests (Failed index number of_partner) client e = rests_failure part number of_partner
  waiter_rests End client e = tt
  waiter_rests (OutputTurn output written discarded failed) client e = rests_turn part output written discarded failed
  waiter_rests (Line number list_place request heard) client e =
      written_moves list_place request heard.refused (transition_line o part library client list_place request heard.read)
      (subst (λ (c : Option Client). Rests (move_of (transition_line o part library c list_place request heard.read).response)) (sym e) (line_moves o part library heard.read k named list_place request waits_named))

-- so it does not begin to wait
pub rests_unwaiting : (move : Move) (names : Subsystems) → Rests move → move ≡ Wait names → ⊥
rests_unwaiting Stay names rests e = cc
rests_unwaiting Resume names rests e = cc
rests_unwaiting _ names rests e = rests

-- nor goes to another partition
pub rests_here : (move : Move) (index : ℕ) → Rests move → move ≡ Enter index → ⊥
rests_here Stay index rests e = cc
rests_here Resume index rests e = cc
rests_here _ index rests e = rests

-- the turn of an output is nobody's
turn_unsaid : (part : Option Part) (output written discarded : ℕ) (failed : Bool) → (output_turn part output (Settles output written discarded failed)).response ≡ no_response
turn_unsaid None output written discarded failed = refl
turn_unsaid (Some part) output written discarded failed =
    elim (is_output part.outputs output) as (λ b. (if b then acts (Settles output written discarded failed) else absent).response ≡ no_response) [ true ↦ refl | false ↦ refl ]

want_unsaid : (ended : Bool) (part : Option Part) (owes : List Bool) → (want ended part owes).response ≡ no_response
want_unsaid ended None owes = refl
want_unsaid ended (Some part) owes = refl

have_unsaid : (ended : Bool) (part : Option Part) (number frames : ℕ) → (have ended part number frames).response ≡ no_response
have_unsaid ended None number frames = refl
have_unsaid ended (Some part) number frames = refl

failure_unsaid : (part : Option Part) (number : ℕ) (of_partner : Bool) → (failure part number of_partner).response ≡ no_response
failure_unsaid None number of_partner = refl
failure_unsaid (Some part) number of_partner = refl

-- an event of another sender is of another client, or of no client: then nothing is said
pub is_other_sender : (o : Overview) (part : Option Part) (library : Library) (client : Option Client) (event : Event) (number : ℕ) → sender event ≢ Some number
    → ((number == sender_number event) ≡ false) ⊎ ((transition_of o part library client event).response ≡ no_response)
is_other_sender o part library client (Connect c) number ne = inl (ne_eqb number c (λ e. ne (ap Some (sym e))))
is_other_sender o part library client (Disconnect c) number ne = inl (ne_eqb number c (λ e. ne (ap Some (sym e))))
is_other_sender o part library client (Line c list_place request heard) number ne = inl (ne_eqb number c (λ e. ne (ap Some (sym e))))
is_other_sender o part library client ScanQuestion number ne = inr refl
is_other_sender o part library client (ScanResult songs second) number ne = inr refl
is_other_sender o part library client (Want index owes) number ne = inr (want_unsaid o.ended part owes)
is_other_sender o part library client (Have index job frames) number ne = inr (have_unsaid o.ended part job frames)
is_other_sender o part library client (Failed index job of_partner) number ne = inr (failure_unsaid part job of_partner)
is_other_sender o part library client End number ne = inr refl
is_other_sender o part library client (OutputTurn output written discarded failed) number ne = inr (turn_unsaid part output written discarded failed)

-- an event that comes from no client is answered by its report alone
unsaid : (o : Overview) (part : Option Part) (library : Library) (client : Option Client) (event : Event) → sender event ≡ None
    → (transition_of o part library client event).response ≡ no_response
unsaid o part library client (Connect c) e = cc
unsaid o part library client (Disconnect c) e = cc
unsaid o part library client (Line c list_place request heard) e = cc
unsaid o part library client ScanQuestion e = refl
unsaid o part library client (ScanResult songs second) e = refl
unsaid o part library client (Want index owes) e = want_unsaid o.ended part owes
unsaid o part library client (Have index job frames) e = have_unsaid o.ended part job frames
unsaid o part library client (Failed index job of_partner) e = failure_unsaid part job of_partner
unsaid o part library client End e = refl
unsaid o part library client (OutputTurn output written discarded failed) e = turn_unsaid part output written discarded failed

-- the client that makes a move by an event is the one that it comes from
pub speaks : (clients : List Client) (event : Event) (k : Client) (move : Move) → (Stay ≡ move → ⊥) → client_of (sender_number event) clients ≡ Some k
    → (o : Overview) (part : Option Part) (library : Library) → move_of (transition_of o part library (sender_in clients event) event).response ≡ move
    → sender_in clients event ≡ Some k
speaks clients event k move moves is o part library goes =
    let cases : (s : Option ℕ) → sender event ≡ s → client_of (unwrap_or s 0) clients ≡ Some k → client_among s clients ≡ Some k =
    λ s. elim s as (λ s. sender event ≡ s → client_of (unwrap_or s 0) clients ≡ Some k → client_among s clients ≡ Some k) [
      | Some number ↦ λ e f. f
      | None ↦ λ e f. absurd (moves (sym (ap move_of (unsaid o part library (sender_in clients event) event e)) ∙ goes))
    ] in
    cases (sender event) refl is

module _ (n : ℕ) (r : Client → Subsystems) where
  -- what of a client's named set changed
  abbrev pub news : Client → Subsystems
  news k = due (noted (r k) k.pending)

  one_notice : (k : Client) (number : ℕ) (names : Subsystems) → IsIn (record { client = number; names = names }) (notice_for r k)
      → (is_nonempty (news k) ≡ true) × (k.number ≡ number) × (news k ≡ names)
  one_notice k number names =
      let expected : Notice = record { client = number; names = names } in
      let Goal : Type 0 = (is_nonempty (news k) ≡ true) × (k.number ≡ number) × (news k ≡ names) in
      let cases : (b : Bool) → is_nonempty (news k) ≡ b → IsIn expected (notice_to k.number (if b then Some (news k) else None)) → Goal =
      λ b. elim b as (λ b. is_nonempty (news k) ≡ b → IsIn expected (notice_to k.number (if b then Some (news k) else None)) → Goal) [
        | true ↦ λ e h. elim h [ inl same ↦ (e, ap (λ (x : Notice). x.client) same, ap (λ (x : Notice). x.names) same) | inr none ↦ absurd none ]
        | false ↦ λ e h. absurd h
      ] in
      cases (is_nonempty (news k)) refl

  one_sent : (k : Client) → is_nonempty (news k) ≡ true → IsIn (record { client = k.number; names = news k }) (notice_for r k)
  one_sent k e = rw e (inl refl)

  beyond : (a : ℕ) (ks : List Client) → AllAbove a ks → AllBeyond a (flat_map (notice_for r) ks)
  beyond a [] all = tt
  beyond a (k ∷ ks) all =
      elim (is_nonempty (news k)) as (λ b. AllBeyond a (notice_to k.number (if b then Some (news k) else None) ++ flat_map (notice_for r) ks))
      [ true ↦ (all.0, beyond a ks all.1) | false ↦ beyond a ks all.1 ]

  -- notices to clients by rising number rise
  pub notices_rise : (ks : List Client) → Rising ks → NoticesRise (flat_map (notice_for r) ks)
  notices_rise [] rising = tt
  notices_rise (k ∷ ks) rising =
      elim (is_nonempty (news k)) as (λ b. NoticesRise (notice_to k.number (if b then Some (news k) else None) ++ flat_map (notice_for r) ks))
      [ true ↦ (beyond k.number ks rising.0, notices_rise ks rising.1) | false ↦ notices_rise ks rising.1 ]

  -- what a move makes of one client
  abbrev pub does : Move → Client → Client
  does Stay k = k
  does (Wait names) k = at n (waits names) k
  does Learn k = at n (λ p. fresh) k
  does Resume k = at n cancelled k
  does Join k = k
  does (Show tags) k = shown n tags k
  does (Enter index) k = entered n index k

  pub does_keeps : (move : Move) (k : Client) → (does move k).number ≡ k.number
  does_keeps Stay k = refl
  does_keeps (Wait names) k = at_keeps n (waits names) k
  does_keeps Learn k = at_keeps n (λ p. fresh) k
  does_keeps Resume k = at_keeps n cancelled k
  does_keeps Join k = refl
  does_keeps (Show tags) k = shown_keeps n tags k
  does_keeps (Enter index) k = entered_keeps n index k

  pub does_other : (move : Move) (k : Client) → (k.number == n) ≡ false → does move k ≡ k
  does_other Stay k e = refl
  does_other (Wait names) k e = rw e refl
  does_other Learn k e = rw e refl
  does_other Resume k e = rw e refl
  does_other Join k e = refl
  does_other (Show tags) k e = rw e refl
  does_other (Enter index) k e = rw e refl

  -- a client that does not wait goes on so, unless it is the one that begins to wait
  pub does_none : (move : Move) (k : Client) → k.pending.waiting ≡ None → ((names : Subsystems) → move ≡ Wait names → k.number ≡ n → ⊥)
      → (does move k).pending.waiting ≡ None
  does_none Stay k w free = w
  does_none (Wait names) k w free =
      let cases : (b : Bool) → (k.number == n) ≡ b → (if b then record k { pending = waits names k.pending } else k).pending.waiting ≡ None =
      λ b. elim b as (λ b. (k.number == n) ≡ b → (if b then record k { pending = waits names k.pending } else k).pending.waiting ≡ None)
      [ true ↦ λ e. absurd (free names refl (eqb-true k.number n e)) | false ↦ λ e. w ] in
      cases (k.number == n) refl
  does_none Learn k w free =
      elim (k.number == n) as (λ b. (if b then record k { pending = fresh } else k).pending.waiting ≡ None) [ true ↦ refl | false ↦ w ]
  does_none Resume k w free =
      elim (k.number == n) as (λ b. (if b then record k { pending = cancelled k.pending } else k).pending.waiting ≡ None) [ true ↦ refl | false ↦ w ]
  does_none Join k w free = w
  does_none (Show tags) k w free =
      elim (k.number == n) as (λ b. (if b then record k { tags = tags } else k).pending.waiting ≡ None) [ true ↦ w | false ↦ w ]
  does_none (Enter index) k w free =
      elim (k.number == n) as (λ b. (if b then record k { index = index; pending = everything } else k).pending.waiting ≡ None) [ true ↦ refl | false ↦ w ]

  pub does_wait : (names : Subsystems) (k : Client) → k.number ≡ n → (does (Wait names) k).pending.waiting ≡ Some names
  does_wait names k e = (let same : (k.number == n) ≡ true = eq-eqb k.number n e in rw same refl)

  moved_in : (move : Move) (k : Client) (ks : List Client) → IsIn k ks → IsIn (does move k) (moved n move ks)
  moved_in Stay k ks e = e
  moved_in (Wait names) k ks e = in_map (at n (waits names)) k ks e
  moved_in Learn k ks e = in_map (at n (λ p. fresh)) k ks e
  moved_in Resume k ks e = in_map (at n cancelled) k ks e
  moved_in Join k ks e =
      let index : ℕ = position_or_len (λ c. nat_lt n c.number) ks in
      elim (is_some (client_of n ks)) as (λ b. IsIn k (if b then ks else insert ks index (newcomer n)))
      [ true ↦ e | false ↦ in_insert k ks index (newcomer n) e ]
  moved_in (Show tags) k ks e = in_map (shown n tags) k ks e
  moved_in (Enter index) k ks e = in_map (entered n index) k ks e

  -- a client that does not wait goes on so as it hears, and one that is told waits no more
  pub notified_none : (k : Client) → k.pending.waiting ≡ None → (notified r k).pending.waiting ≡ None
  notified_none k w = elim (is_nonempty (news k)) as (λ b. (if b then fresh else noted (r k) k.pending).waiting ≡ None) [ true ↦ refl | false ↦ w ]

  pub told_none : (k : Client) → is_nonempty (news k) ≡ true → (notified r k).pending.waiting ≡ None
  told_none k e = rw e refl

  pub untold_waits : (k : Client) → is_nonempty (news k) ≡ false → (notified r k).pending.waiting ≡ k.pending.waiting
  untold_waits k e = rw e refl

  module _ (response : ResponseData) (ks : List Client) where
    abbrev pub kept : List Client
    kept = staying n response ks

    pub of_sent : (number : ℕ) (names : Subsystems) → IsIn (record { client = number; names = names }) (notices_after n r response ks)
        → (k : Client) × IsIn k kept × (is_nonempty (news k) ≡ true) × (k.number ≡ number) × (news k ≡ names)
    of_sent number names e =
        let from = of_flat_map (notice_for r) (record { client = number; names = names }) kept e in
        let one = one_notice from.0 number names from.2 in
        (from.0, from.1, one.0, one.1, one.2)

    pub is_sent : (k : Client) → IsIn k kept → is_nonempty (news k) ≡ true → IsIn (record { client = k.number; names = news k }) (notices_after n r response ks)
    is_sent k e t = in_flat_map (notice_for r) k (record { client = k.number; names = news k }) kept e (one_sent k t)

    pub kept_was : (k : Client) → IsIn k kept → IsIn k ks
    kept_was k =
        elim (closes response.answer.next) as (λ b. IsIn k (if b then filter (is_other n) ks else ks) → IsIn k ks)
        [ true ↦ λ e. (of_filter (is_other n) k ks e).0 | false ↦ λ e. e ]

    pub others_kept : (k : Client) → IsIn k ks → (k.number == n) ≡ false → IsIn k kept
    others_kept k e other =
        elim (closes response.answer.next) as (λ b. IsIn k (if b then filter (is_other n) ks else ks))
        [ true ↦ in_filter (is_other n) k ks e (ap not other) | false ↦ e ]

    pub open_kept : (k : Client) → IsIn k ks → closes response.answer.next ≡ false → IsIn k kept
    open_kept k e goes = rw goes e

    -- where each client that stays is after the event
    pub lands : (k : Client) → IsIn k kept → IsIn (does (move_of response) (notified r k)) (clients_after n r response ks)
    lands k e = moved_in (move_of response) (notified r k) (map (notified r) kept) (in_map (notified r) k kept e)

    -- a client whose number is there after the event stayed
    pub there_kept : (k after : Client) → IsIn k ks → IsIn after (clients_after n r response ks) → after.number ≡ k.number → IsIn k kept
    there_kept k after e =
        elim (closes response.answer.next) as (λ b. IsIn after (moved n (if b then Stay else response.move) (map (notified r) (if b then filter (is_other n) ks else ks)))
        → after.number ≡ k.number → IsIn k (if b then filter (is_other n) ks else ks)) [
          | true ↦ λ h same.
              let from = of_map (notified r) after (filter (is_other n) ks) h in
              let was = of_filter (is_other n) from.0 ks from.1 in
              let number : from.0.number ≡ k.number = ap (λ (c : Client). c.number) from.2 ∙ same in
              in_filter (is_other n) k ks e (ap (λ (x : ℕ). not (x == n)) (sym number) ∙ was.1)
          | false ↦ λ h same. e
        ]
