-- One event in two daemons that agree on a partition: where it happens, what it makes, and what it leaves.
use Rattle.std.proofs.Common.{◌≡◌, ◌≢◌, ◌⊎◌, inl, inr, ℕ, ◌==◌, Bool, true, false, not, ◌&&◌, ◌||◌, List, [], map, Option, Some, None, refl, ap, sym, ◌∙◌, subst, if◌then◌else◌}
use Rattle.std.specs.Prelude.{option_map, unwrap_or}
use Rattle.std.specs.List.{flat_map}
use Rattle.std.proofs.lemmas.Bool.{eq-eqb, eqb-true}
use Rattle.idle_notes.specs.declared.sets.Subsystems.{Subsystems}
use Rattle.idle_notes.specs.Notes.{everything, fresh, noted, notice_of, up_to_date, waits, cancelled}
use Rattle.idle_notes.specs.declared.pending.Pending.{Pending}
use Rattle.mpd_text.specs.declared.songs.song.TagName.{TagName}
use Rattle.mpd_command.specs.declared.command.Command.TheVariants as command
use Rattle.mpd_command.specs.declared.request.Request.{Request}
use Rattle.mpd_command.specs.declared.request.Request.TheVariants.{Run}
use Rattle.player_state.specs.Effects.{begins_beyond}
use Rattle.player_state.specs.Libraries.{library_after}
use Rattle.player_state.specs.declared.state.Client.{Client}
use Rattle.player_state.specs.declared.state.Part.{Part}
use Rattle.partition_table.specs.Parts.{Known, crosses_beyond, holder, is_within_in, known, part_at, report_in}
use Rattle.partition_commands.specs.Partitions.{planned, seated}
use Rattle.transitions.specs.Answers.{ResponseData, closes}
use Rattle.transitions.specs.Transitions.{TransitionData, max_cut_in, no_response, parts_after}
use Rattle.transitions.specs.declared.asked.ListPlace.{ListPlace}
use Rattle.transitions.specs.declared.reply.Move.{Move}
use Rattle.transitions.specs.declared.reply.Move.TheVariants.{Stay, Wait, Learn, Resume, Join, Show, Enter}
use Rattle.transitions.specs.declared.shelf_calls.StoreReply.{StoreReply}
use Rattle.connected_clients.specs.Clients.{Rising, at, client_of, clients_after, entered, entering, is_this, move_of, newcomer, notice_for, notice_to, notified, shown, staying}
use Rattle.connected_clients.specs.declared.notices.Notice.{Notice}
use Rattle.player_events.specs.declared.event.Event.{Event}
use Rattle.player_events.specs.declared.event.Event.TheVariants.{Connect, Disconnect, Line, ScanQuestion, ScanResult, Want, Have, Failed, OutputTurn, End}
use Rattle.partition.specs.Image.{Image, overview}
use Rattle.partition.specs.Step.{after_transition, asked_by, ended_after, moved_client, keeps_limits, sender_number, index_at, index_in, raised_of, report_at, sender, sender_in, transition, transition_of}
use Rattle.partition_laws.specs.Apart.{Agree, Common, IsIn, belongs, comes_to, common, happens_in, is_of_none, notices_to, reaches, seat_of, shelf_changes, tags_along}
use Rattle.partition_laws.proofs.Clients.{at_seat, does, found_number, notices_in, other_after, other_notices, own_after, own_notices, seats_after, seats_are}
use Rattle.partition_laws.proofs.Raised.{raised_is, spoken}
use Rattle.partition_laws.proofs.Rebuilt.{found_index, known_after, part_after_same}
use Rattle.partition_laws.proofs.Transitions.{Reached, others_stay, planned_alike, reached, reached_silent, speechless}

-- what an event leaves
abbrev pub parts_next : Image → Event → List Part
parts_next i event = parts_after i.shared.library.rate (index_at i event) (transition i event) i.parts

abbrev pub raised_next : Image → Event → Client → Subsystems
raised_next i event = raised_of i event (transition i event)

abbrev pub clients_next : Image → Event → List Client
clients_next i event = clients_after (sender_number event) (raised_next i event) (transition i event).response i.clients

abbrev pub after : Image → Event → Image
after i event = after_transition i event (transition i event)

abbrev pub notices_next : Image → Event → List Notice
notices_next i event = flat_map (notice_for (raised_next i event)) (staying (sender_number event) (transition i event).response i.clients)

abbrev pub index_from : Option ℕ → ℕ
index_from None = 0
index_from (Some index) = index

abbrev pub index_of_client : Option Client → Option ℕ
index_of_client o = option_map (λ (k : Client). k.index) o

index_in_is : (o : Option Client) → index_in o ≡ index_from (index_of_client o)
index_in_is None = refl
index_in_is (Some k) = refl

none_of : (o : Option Client) → index_of_client o ≡ None → o ≡ None
none_of None e = refl
none_of (Some k) e = cc

second : (a b : Bool) → (a && b) ≡ true → b ≡ true
second true b e = e
second false b e = cc

module _ (index : ℕ) (i j : Image) (a : Agree index i j) where
  pub overviews : overview i ≡ overview j
  overviews = ap (λ (c : Common). c.overview) a.common

  pub libraries : i.shared.library ≡ j.shared.library
  libraries = ap (λ (c : Common). c.library) a.common

  pub knowns : map known i.parts ≡ map known j.parts
  knowns = ap (λ (c : Common). c.overview.parts) a.common

  pub seats : map seated i.clients ≡ map seated j.clients
  seats = ap (λ (c : Common). c.overview.clients) a.common

  pub seat_is : (n : ℕ) → index_of_client (client_of n i.clients) ≡ index_of_client (client_of n j.clients)
  seat_is n = sym (at_seat n i.clients) ∙ ap (seat_of n) seats ∙ at_seat n j.clients

  indices : (n : ℕ) → index_in (client_of n i.clients) ≡ index_in (client_of n j.clients)
  indices n = index_in_is (client_of n i.clients) ∙ ap index_from (seat_is n) ∙ sym (index_in_is (client_of n j.clients))

  pub index_same : (event : Event) → index_at i event ≡ index_at j event
  index_same (Connect number) = indices number
  index_same (Disconnect number) = indices number
  index_same (Line number list_place request heard) = indices number
  index_same ScanQuestion = refl
  index_same (ScanResult songs second) = refl
  index_same (Want at owes) = refl
  index_same (Have at number frames) = refl
  index_same (Failed at number of_partner) = refl
  index_same (OutputTurn output written discarded failed) = ap (λ (fs : List Known). unwrap_or (holder output fs) 0) knowns
  index_same End = refl

  same_client : (n : ℕ) → index_in (client_of n i.clients) ≡ index → client_of n i.clients ≡ client_of n j.clients
  same_client n p =
      let cases : (o : Option Client) → client_of n i.clients ≡ o → client_of n i.clients ≡ client_of n j.clients =
      λ o. elim o as (λ o. client_of n i.clients ≡ o → client_of n i.clients ≡ client_of n j.clients) [
        | None ↦ λ e. e ∙ sym (none_of (client_of n j.clients) (sym (seat_is n) ∙ ap index_of_client e))
        | Some k ↦ λ e. a.clients n (at_seat n i.clients ∙ ap index_of_client e ∙ ap Some (ap index_in (sym e) ∙ p))
      ] in
      cases (client_of n i.clients) refl

  sender_same : (event : Event) → index_at i event ≡ index → sender_in i.clients event ≡ sender_in j.clients event
  sender_same (Connect number) p = same_client number p
  sender_same (Disconnect number) p = same_client number p
  sender_same (Line number list_place request heard) p = same_client number p
  sender_same ScanQuestion p = refl
  sender_same (ScanResult songs second) p = refl
  sender_same (Want at owes) p = refl
  sender_same (Have at number frames) p = refl
  sender_same (Failed at number of_partner) p = refl
  sender_same (OutputTurn output written discarded failed) p = refl
  sender_same End p = refl

  pub own_part : (event : Event) → index_at i event ≡ index → part_at (index_at i event) i.parts ≡ part_at (index_at j event) j.parts
  own_part event p = ap (λ n. part_at n i.parts) p ∙ a.part ∙ ap (λ n. part_at n j.parts) (sym p ∙ index_same event)

  -- an event of the partition makes the same in both
  pub own_transition : (event : Event) → index_at i event ≡ index → transition i event ≡ transition j event
  own_transition event p = λ x. transition_of (overviews x) (own_part event p x) (libraries x) (sender_same event p x) event

  in_index : (n : ℕ) → IsIn index n i → index_in (client_of n i.clients) ≡ index
  in_index n is = index_in_is (client_of n i.clients) ∙ ap index_from (sym (at_seat n i.clients) ∙ is)

  speaks_there : (event : Event) → IsIn index (sender_number event) i → (index_at i event ≡ index) ⊎ (sender event ≡ None)
  speaks_there (Connect number) is = inl (in_index number is)
  speaks_there (Disconnect number) is = inl (in_index number is)
  speaks_there (Line number list_place request heard) is = inl (in_index number is)
  speaks_there ScanQuestion is = inr refl
  speaks_there (ScanResult songs second) is = inr refl
  speaks_there (Want at owes) is = inr refl
  speaks_there (Have at number frames) is = inr refl
  speaks_there (Failed at number of_partner) is = inr refl
  speaks_there (OutputTurn output written discarded failed) is = inr refl
  speaks_there End is = inr refl

  -- where an event happens elsewhere, no client of the partition speaks
  clash : (n : ℕ) → (true && (index_in (client_of n i.clients) == index)) ≡ false → IsIn index n i → ⊥
  clash n e is = (let both : true ≡ false = sym (eq-eqb (index_in (client_of n i.clients)) index (in_index n is)) ∙ e in cc)

  pub nobody_speaks : (event : Event) → happens_in index i event ≡ false → IsIn index (sender_number event) i → sender event ≡ None
  nobody_speaks (Connect number) e is = absurd (clash number e is)
  nobody_speaks (Disconnect number) e is = absurd (clash number e is)
  nobody_speaks (Line number list_place request heard) e is = absurd (clash number e is)
  nobody_speaks ScanQuestion e is = refl
  nobody_speaks (ScanResult songs second) e is = refl
  nobody_speaks (Want at owes) e is = refl
  nobody_speaks (Have at number frames) e is = refl
  nobody_speaks (Failed at number of_partner) e is = refl
  nobody_speaks (OutputTurn output written discarded failed) e is = refl
  nobody_speaks End e is = refl

  pub happens_same : (event : Event) → happens_in index i event ≡ happens_in index j event
  happens_same event = ap (λ n. not (is_of_none event) && (n == index)) (index_same event)

  pub happens_there : (event : Event) → happens_in index i event ≡ true → index_at i event ≡ index
  happens_there event e = eqb-true (index_at i event) index (second (not (is_of_none event)) (index_at i event == index) e)

-- an event that comes from no client
pub unspoken_response : (i : Image) (event : Event) → sender event ≡ None → (transition i event).response ≡ no_response
unspoken_response i event e = speechless (overview i) (part_at (index_at i event) i.parts) i.shared.library (sender_in i.clients event) event e

module _ (index : ℕ) (i j : Image) (event : Event) (a : Agree index i j) where
  -- the client of an event, if it is in the partition, is answered the same in both
  pub own_response : IsIn index (sender_number event) i → (transition i event).response ≡ (transition j event).response
  own_response is =
      elim (speaks_there index i j a event is) [
        | inl p ↦ ap (λ (t : TransitionData). t.response) (own_transition index i j a event p)
        | inr e ↦ unspoken_response i event e ∙ sym (unspoken_response j event e)
      ]

-- a line that reaches the partition from another one makes the same in both
module _ (index : ℕ) (i j : Image) (a : Agree index i j) where
  abbrev Reaches : Image → Event → Type 0
  Reaches x event = reaches index (overview x).parts (transition x event) ≡ true

  no_line : (x : Image) (event : Event) → ((number : ℕ) (list_place : ListPlace) (request : Request) (heard : StoreReply) → event ≡ Line number list_place request heard → ⊥) → Reaches x event → ⊥
  no_line x event unlined r =
      let e : reaches index (overview x).parts (transition x event) ≡ false = others_stay index (overview x) (part_at (index_at x event) x.parts) x.shared.library (sender_in x.clients event) event unlined in
      let clash : true ≡ false = sym r ∙ e in cc

  -- what it makes in both, and what it reports
  abbrev IsOne : Event → Type 0
  IsOne event = (transition i event ≡ transition j event) × (report_at i event (transition i event) ≡ report_at j event (transition j event))

  line_reaches : (number : ℕ) (list_place : ListPlace) (request : Request) (heard : StoreReply)
      → Reaches i (Line number list_place request heard) → Reaches j (Line number list_place request heard) → IsOne (Line number list_place request heard)
  line_reaches number list_place request heard r q =
      let event : Event = Line number list_place request heard in
      let parts_i : Option Part = part_at (index_at i event) i.parts in
      let parts_j : Option Part = part_at (index_at j event) j.parts in
      let x : Reached (overview i) list_place request parts_i (client_of number i.clients) (transition i event) =
      reached index (overview i) i.shared.library parts_i (client_of number i.clients) list_place request heard r in
      let y : Reached (overview j) list_place request parts_j (client_of number j.clients) (transition j event) =
      reached index (overview j) j.shared.library parts_j (client_of number j.clients) list_place request heard q in
      let numbers : x.k.number ≡ y.k.number = found_number number i.clients x.k x.client_is ∙ sym (found_number number j.clients y.k y.client_is) in
      let owns : x.p.index ≡ y.p.index =
      found_index (overview i).openings (index_at i event) i.parts x.p x.part_is ∙ index_same index i j a event
      ∙ sym (found_index (overview j).openings (index_at j event) j.parts y.p y.part_is) in
      let both : Run x.name (command.Partitions x.it) ≡ Run y.name (command.Partitions y.it) = sym x.request_is ∙ y.request_is in
      let names : x.name ≡ y.name = cc in
      let its : x.it ≡ y.it = cc in
      let o : overview i ≡ overview j = overviews index i j a in
      let same : transition i event ≡ transition j event =
      x.is ∙ (λ z. planned (o z).parts (o z).clients (o z).openings (asked_by x.k (names z) list_place) (owns z) (its z))
      ∙ planned_alike (overview j).parts (overview j).clients (overview j).openings x.k y.k y.name list_place y.p.index y.it numbers
      ∙ sym y.is in (
        same,
        reached_silent (overview i) list_place request parts_i (client_of number i.clients) (transition i event) x i.shared.library.rate parts_i
            ∙ sym (reached_silent (overview j) list_place request parts_j (client_of number j.clients) (transition j event) y j.shared.library.rate parts_j),
      )

  pub reach : (event : Event) → Reaches i event → Reaches j event → IsOne event
  reach (Line number list_place request heard) r q = line_reaches number list_place request heard r q
  reach (Connect n) r q = absurd (no_line i (Connect n) (λ number list_place request heard e. cc) r)
  reach (Disconnect n) r q = absurd (no_line i (Disconnect n) (λ number list_place request heard e. cc) r)
  reach ScanQuestion r q = absurd (no_line i ScanQuestion (λ number list_place request heard e. cc) r)
  reach (ScanResult songs second) r q = absurd (no_line i (ScanResult songs second) (λ number list_place request heard e. cc) r)
  reach (Want at owes) r q = absurd (no_line i (Want at owes) (λ number list_place request heard e. cc) r)
  reach (Have at n frames) r q = absurd (no_line i (Have at n frames) (λ number list_place request heard e. cc) r)
  reach (Failed at n of_partner) r q = absurd (no_line i (Failed at n of_partner) (λ number list_place request heard e. cc) r)
  reach (OutputTurn output written discarded failed) r q = absurd (no_line i (OutputTurn output written discarded failed) (λ number list_place request heard e. cc) r)
  reach End r q = absurd (no_line i End (λ number list_place request heard e. cc) r)

  own_report : (event : Event) → index_at i event ≡ index → IsOne event
  own_report event p =
      let same : transition i event ≡ transition j event = own_transition index i j a event p in (
        same,
        λ x. report_in (libraries index i j a x).rate (own_part index i j a event p x) (same x).effect (same x).report,
      )

  -- an event that happens in the partition makes the same in both
  pub happening : (event : Event) → happens_in index i event ≡ true → IsOne event
  happening event e = own_report event (happens_there index i j a event e)

  -- and is within the limit of numbers in both, or in neither
  pub within : (event : Event) → happens_in index i event ≡ true → keeps_limits i event (transition i event) ≡ keeps_limits j event (transition j event)
  within event e =
      let p : index_at i event ≡ index = happens_there index i j a event e in
      let same : transition i event ≡ transition j event = own_transition index i j a event p in
      let part : part_at (index_at i event) i.parts ≡ part_at (index_at j event) j.parts = own_part index i j a event p in
      let library : i.shared.library ≡ j.shared.library = libraries index i j a in
      λ x. is_within_in (library x).rate (part x) (same x).effect
      && (not (begins_beyond (max_cut_in (part x)) (library x).scan (same x).scan) && not (crosses_beyond (max_cut_in (part x)) (same x).crossing (knowns index i j a x)))

  -- so does one that belongs to it in both
  pub belonging : (event : Event) → belongs index i event ≡ true → belongs index j event ≡ true → IsOne event
  belonging event b c =
      let here : Image → Bool = λ x. reaches index (overview x).parts (transition x event) in
      let cases : (h : Bool) → happens_in index i event ≡ h → IsOne event =
      λ h. elim h as (λ h. happens_in index i event ≡ h → IsOne event) [
        | true ↦ λ e. happening event e
        | false ↦ λ e.
            let f : happens_in index j event ≡ false = sym (happens_same index i j a event) ∙ e in
            reach event (sym (ap (λ x. x || here i) e) ∙ b) (sym (ap (λ x. x || here j) f) ∙ c)
      ] in
      cases (happens_in index i event) refl

-- a client that has come to the partition from another one
abbrev pub arrival : ℕ → ℕ → List TagName → Client
arrival m index tags = record { number = m; index = index; tags = tags; pending = everything }

abbrev pub HasCome : ℕ → ℕ → Move → List TagName → Option Client → Type 0
HasCome index m move tags o = (comes_to index move ≡ true) × (o ≡ Some (arrival m index tags))

at_index : (m : ℕ) (f : Pending → Pending) (k : Client) → (at m f k).index ≡ k.index
at_index m f k = elim (k.number == m) as (λ b. (if b then record k { pending = f k.pending } else k).index ≡ k.index) [ true ↦ refl | false ↦ refl ]

shown_index : (m : ℕ) (tags : List TagName) (k : Client) → (shown m tags k).index ≡ k.index
shown_index m tags k = elim (k.number == m) as (λ b. (if b then record k { tags = tags } else k).index ≡ k.index) [ true ↦ refl | false ↦ refl ]

module _ (index m : ℕ) (r : Client → Subsystems) (k : Client) (number : k.number ≡ m) (other : k.index ≢ index) where
  came : (move : Move) → index_of_client (does m move (Some (notified r k))) ≡ Some index → HasCome index m move k.tags (does m move (Some (notified r k)))
  came Stay e = absurd (other (ap index_from e))
  came (Wait names) e = absurd (other (sym (at_index m (waits names) (notified r k)) ∙ ap index_from e))
  came Learn e = absurd (other (sym (at_index m (λ p. fresh) (notified r k)) ∙ ap index_from e))
  came Resume e = absurd (other (sym (at_index m cancelled (notified r k)) ∙ ap index_from e))
  came Join e = absurd (other (ap index_from e))
  came (Show tags) e = absurd (other (sym (shown_index m tags (notified r k)) ∙ ap index_from e))
  came (Enter to) e =
      let x : Client = notified r k in
      let is : entered m to x ≡ record x { index = to; pending = everything } = ap (λ b. if b then record x { index = to; pending = everything } else x) (eq-eqb k.number m number) in
      let there : to ≡ index = sym (ap (λ (c : Client). c.index) is) ∙ ap index_from e in
      (eq-eqb to index there, ap Some (is ∙ (λ z. record { number = number z; index = there z; tags = k.tags; pending = everything })))

  pub arrived : (a : ResponseData) → index_of_client (does m (move_of a) (option_map (notified r) (if closes a.answer.next then None else Some k))) ≡ Some index
      → HasCome index m (move_of a) k.tags (does m (move_of a) (option_map (notified r) (if closes a.answer.next then None else Some k)))
  arrived a =
      elim (closes a.answer.next) as (λ b. index_of_client (does m (if b then Stay else a.move) (option_map (notified r) (if b then None else Some k))) ≡ Some index
      → HasCome index m (if b then Stay else a.move) k.tags (does m (if b then Stay else a.move) (option_map (notified r) (if b then None else Some k))))
      [ true ↦ λ e. cc | false ↦ λ e. came a.move e ]

-- a client that was nowhere and is somewhere now has just come
none_does : (m index : ℕ) (move : Move) → index_of_client (does m move None) ≡ Some index → does m move None ≡ Some (newcomer m)
none_does m index Stay e = cc
none_does m index (Wait names) e = cc
none_does m index Learn e = cc
none_does m index Resume e = cc
none_does m index Join e = refl
none_does m index (Show tags) e = cc
none_does m index (Enter to) e = cc

pub joins : (m index : ℕ) (r : Client → Subsystems) (a : ResponseData) → index_of_client (does m (move_of a) (option_map (notified r) (if closes a.answer.next then None else None))) ≡ Some index
    → does m (move_of a) (option_map (notified r) (if closes a.answer.next then None else None)) ≡ Some (newcomer m)
joins m index r a =
    elim (closes a.answer.next) as (λ b. index_of_client (does m (if b then Stay else a.move) (option_map (notified r) (if b then None else None))) ≡ Some index
    → does m (if b then Stay else a.move) (option_map (notified r) (if b then None else None)) ≡ Some (newcomer m))
    [ true ↦ λ e. cc | false ↦ λ e. none_does m index a.move e ]

no_moved_client : (m n : ℕ) (move : Move) → (m == n) ≡ false → is_this (entering m move) n ≡ false
no_moved_client m n Stay e = refl
no_moved_client m n (Wait names) e = refl
no_moved_client m n Learn e = refl
no_moved_client m n Resume e = refl
no_moved_client m n Join e = refl
no_moved_client m n (Show tags) e = refl
no_moved_client m n (Enter to) e = e

pub other_moved_client : (m n : ℕ) (a : ResponseData) → (m == n) ≡ false → is_this (moved_client m a) n ≡ false
other_moved_client m n a e = no_moved_client m n (move_of a) e

-- only a client goes to another partition
comes_of : (index : ℕ) (i : Image) (event : Event) → sender event ≡ None → comes_to index (move_of (transition i event).response) ≡ true → ⊥
comes_of index i event e c =
    let none : comes_to index (move_of (transition i event).response) ≡ false = ap (λ (r : ResponseData). comes_to index (move_of r)) (unspoken_response i event e) in
    let clash : true ≡ false = sym c ∙ none in cc

pub sender_number_is : (index : ℕ) (i : Image) (event : Event) → comes_to index (move_of (transition i event).response) ≡ true → sender_in i.clients event ≡ client_of (sender_number event) i.clients
sender_number_is index i (Connect number) c = refl
sender_number_is index i (Disconnect number) c = refl
sender_number_is index i (Line number list_place request heard) c = refl
sender_number_is index i ScanQuestion c = absurd (comes_of index i ScanQuestion refl c)
sender_number_is index i (ScanResult songs second) c = absurd (comes_of index i (ScanResult songs second) refl c)
sender_number_is index i (Want at owes) c = absurd (comes_of index i (Want at owes) refl c)
sender_number_is index i (Have at number frames) c = absurd (comes_of index i (Have at number frames) refl c)
sender_number_is index i (Failed at number of_partner) c = absurd (comes_of index i (Failed at number of_partner) refl c)
sender_number_is index i (OutputTurn output written discarded failed) c = absurd (comes_of index i (OutputTurn output written discarded failed) refl c)
sender_number_is index i End c = absurd (comes_of index i End refl c)

-- What follows where an event leaves alike what all share and the partition, makes the same of the shelf's
-- maps others, and brings no client with other tags
module _ (index : ℕ) (i j : Image) (event : Event) (a : Agree index i j)
    (commons : common (after i event) ≡ common (after j event))
    (part : part_at index (parts_next i event) ≡ part_at index (parts_next j event))
    (shelf : shelf_changes (transition i event).written ≡ shelf_changes (transition j event).written)
    (tags : tags_along index i event ≡ tags_along index j event) where
  abbrev m : ℕ
  m = sender_number event

  abbrev s : ResponseData
  s = (transition i event).response

  abbrev t : ResponseData
  t = (transition j event).response

  raised_same : (k : Client) → k.index ≡ index → is_this (moved_client m s) k.number ≡ is_this (moved_client m t) k.number → raised_next i event k ≡ raised_next j event k
  raised_same k e test =
      let library : library_after i.shared.library (transition i event).scan ≡ library_after j.shared.library (transition j event).scan = ap (λ (c : Common). c.library) commons in
      let afters : map known (parts_next i event) ≡ map known (parts_next j event) = ap (λ (c : Common). c.overview.parts) commons in
      raised_is index m (index_at i event) i.parts i.shared.library (transition i event) k e
      ∙ (λ x. spoken (test x) k.number (a.part x) (part x) (shelf x) (libraries index i j a x) (library x) (knowns index i j a x) (afters x))
      ∙ sym (raised_is index m (index_at j event) j.parts j.shared.library (transition j event) k e)

  is_in_by : (n : ℕ) (k : Client) → client_of n i.clients ≡ Some k → k.index ≡ index → IsIn index n i
  is_in_by n k e p = at_seat n i.clients ∙ ap index_of_client e ∙ ap Some p

  other_raised : (n : ℕ) (k : Client) → client_of n i.clients ≡ Some k → k.index ≡ index → (m == n) ≡ false → raised_next i event k ≡ raised_next j event k
  other_raised n k e p f =
      let apart : (m == k.number) ≡ false = ap (λ x. m == x) (found_number n i.clients k e) ∙ f in
      raised_same k p (other_moved_client m k.number s apart ∙ sym (other_moved_client m k.number t apart))

  own_raised : (k : Client) → client_of m i.clients ≡ Some k → k.index ≡ index → raised_next i event k ≡ raised_next j event k
  own_raised k e p = raised_same k p (ap (λ (x : ResponseData). is_this (moved_client m x) k.number) (own_response index i j event a (is_in_by m k e p)))

  -- the index of a client after the event, in both
  seat_after : (n : ℕ) (o : Option Client) → client_of n (clients_next i event) ≡ o → IsIn index n (after i event) → index_of_client o ≡ Some index
  seat_after n o e is = ap index_of_client (sym e) ∙ sym (at_seat n (clients_next i event)) ∙ is

  seat_after_too : (n : ℕ) (o : Option Client) → client_of n (clients_next j event) ≡ o → IsIn index n (after i event) → index_of_client o ≡ Some index
  seat_after_too n o e is =
      ap index_of_client (sym e) ∙ sym (at_seat n (clients_next j event)) ∙ ap (λ (c : Common). seat_of n c.overview.clients) (sym commons) ∙ is

  other_agrees : (n : ℕ) → (m == n) ≡ false → IsIn index n (after i event) → client_of n (clients_next i event) ≡ client_of n (clients_next j event)
  other_agrees n f is =
      let here : client_of n (clients_next i event) ≡ option_map (notified (raised_next i event)) (client_of n i.clients) = other_after m (raised_next i event) s i.clients n f in
      let too : client_of n (clients_next j event) ≡ option_map (notified (raised_next j event)) (client_of n j.clients) = other_after m (raised_next j event) t j.clients n f in
      let cases : (o : Option Client) → client_of n i.clients ≡ o → client_of n (clients_next i event) ≡ client_of n (clients_next j event) =
      λ o. elim o as (λ o. client_of n i.clients ≡ o → client_of n (clients_next i event) ≡ client_of n (clients_next j event)) [
        | None ↦ λ e. (let gone : None ≡ Some index = seat_after n None (here ∙ ap (option_map (notified (raised_next i event))) e) is in cc)
        | Some k ↦ λ e.
            let p : k.index ≡ index = ap index_from (seat_after n (Some (notified (raised_next i event) k)) (here ∙ ap (option_map (notified (raised_next i event))) e) is) in
            let r : raised_next i event k ≡ raised_next j event k = other_raised n k e p f in
            here ∙ ap (option_map (notified (raised_next i event))) e
            ∙ ap (λ (x : Subsystems). Some (record k { pending = up_to_date (noted x k.pending) })) r
            ∙ sym (too ∙ ap (option_map (notified (raised_next j event))) (sym (a.clients n (is_in_by n k e p)) ∙ e))
      ] in
      cases (client_of n i.clients) refl

  -- what becomes of the client of the event, by what it is answered and what is raised for it
  abbrev own_left : ResponseData → (Client → Subsystems) → Option Client → Option Client
  own_left x r o = does m (move_of x) (option_map (notified r) (if closes x.answer.next then None else o))

  abbrev own_by : ResponseData → Subsystems → Client → Option Client
  own_by x r k = does m (move_of x) (if closes x.answer.next then None else Some (record k { pending = up_to_date (noted r k.pending) }))

  own_is : (x : ResponseData) (r : Client → Subsystems) (k : Client) → own_left x r (Some k) ≡ own_by x (r k) k
  own_is x r k =
      ap (does m (move_of x))
      (elim (closes x.answer.next) as (λ b. option_map (notified r) (if b then None else Some k) ≡ (if b then None else Some (record k { pending = up_to_date (noted (r k) k.pending) }))) [ true ↦ refl | false ↦ refl ])

  left_i : (o : Option Client) → client_of m i.clients ≡ o → client_of m (clients_next i event) ≡ own_left s (raised_next i event) o
  left_i o e = own_after m (raised_next i event) s i.clients ∙ ap (own_left s (raised_next i event)) e

  left_j : (o : Option Client) → client_of m j.clients ≡ o → client_of m (clients_next j event) ≡ own_left t (raised_next j event) o
  left_j o e = own_after m (raised_next j event) t j.clients ∙ ap (own_left t (raised_next j event)) e

  own_same : (k : Client) → client_of m i.clients ≡ Some k → k.index ≡ index → client_of m (clients_next i event) ≡ client_of m (clients_next j event)
  own_same k e p =
      let is : IsIn index m i = is_in_by m k e p in
      let same : s ≡ t = own_response index i j event a is in
      let r : raised_next i event k ≡ raised_next j event k = own_raised k e p in
      left_i (Some k) e ∙ own_is s (raised_next i event) k ∙ (λ x. own_by (same x) (r x) k)
      ∙ sym (left_j (Some k) (sym (a.clients m is) ∙ e) ∙ own_is t (raised_next j event) k)

  foreign_same : (k l : Client) → client_of m i.clients ≡ Some k → client_of m j.clients ≡ Some l → k.index ≢ index → l.index ≢ index
      → IsIn index m (after i event) → client_of m (clients_next i event) ≡ client_of m (clients_next j event)
  foreign_same k l e f p q is =
      let ri : Client → Subsystems = raised_next i event in
      let rj : Client → Subsystems = raised_next j event in
      let x : HasCome index m (move_of s) k.tags (own_left s ri (Some k)) =
      arrived index m ri k (found_number m i.clients k e) p s (seat_after m (own_left s ri (Some k)) (left_i (Some k) e) is) in
      let y : HasCome index m (move_of t) l.tags (own_left t rj (Some l)) =
      arrived index m rj l (found_number m j.clients l f) q t (seat_after_too m (own_left t rj (Some l)) (left_j (Some l) f) is) in
      let shown_i : tags_along index i event ≡ Some k.tags =
      ap (λ b. if b then option_map (λ (c : Client). c.tags) (sender_in i.clients event) else None) x.0
      ∙ ap (option_map (λ (c : Client). c.tags)) (sender_number_is index i event x.0 ∙ e) in
      let shown_j : tags_along index j event ≡ Some l.tags =
      ap (λ b. if b then option_map (λ (c : Client). c.tags) (sender_in j.clients event) else None) y.0
      ∙ ap (option_map (λ (c : Client). c.tags)) (sender_number_is index j event y.0 ∙ f) in
      let both : Some k.tags ≡ Some l.tags = sym shown_i ∙ tags ∙ shown_j in
      let same : k.tags ≡ l.tags = cc in
      left_i (Some k) e ∙ x.1 ∙ ap (λ (names : List TagName). Some (arrival m index names)) same ∙ sym (left_j (Some l) f ∙ y.1)

  own_agrees : IsIn index m (after i event) → client_of m (clients_next i event) ≡ client_of m (clients_next j event)
  own_agrees is =
      let seat : index_of_client (client_of m i.clients) ≡ index_of_client (client_of m j.clients) = seat_is index i j a m in
      let cases : (o u : Option Client) → client_of m i.clients ≡ o → client_of m j.clients ≡ u → client_of m (clients_next i event) ≡ client_of m (clients_next j event) =
      λ o u. elim o as (λ o. client_of m i.clients ≡ o → client_of m j.clients ≡ u → client_of m (clients_next i event) ≡ client_of m (clients_next j event)) [
        | None ↦ λ e f.
            let none : client_of m j.clients ≡ None = none_of (client_of m j.clients) (sym seat ∙ ap index_of_client e) in
            let x : own_left s (raised_next i event) None ≡ Some (newcomer m) = joins m index (raised_next i event) s (seat_after m (own_left s (raised_next i event) None) (left_i None e) is) in
            let y : own_left t (raised_next j event) None ≡ Some (newcomer m) = joins m index (raised_next j event) t (seat_after_too m (own_left t (raised_next j event) None) (left_j None none) is) in
            left_i None e ∙ x ∙ sym (left_j None none ∙ y)
        | Some k ↦ λ e.
            elim u as (λ u. client_of m j.clients ≡ u → client_of m (clients_next i event) ≡ client_of m (clients_next j event)) [
              | None ↦ λ f. (let gone : Some k.index ≡ None = ap index_of_client (sym e) ∙ seat ∙ ap index_of_client f in cc)
              | Some l ↦ λ f.
                  let at : k.index ≡ l.index = ap index_from (ap index_of_client (sym e) ∙ seat ∙ ap index_of_client f) in
                  let decide : (b : Bool) → (k.index == index) ≡ b → client_of m (clients_next i event) ≡ client_of m (clients_next j event) =
                  λ b. elim b as (λ b. (k.index == index) ≡ b → client_of m (clients_next i event) ≡ client_of m (clients_next j event)) [
                    | true ↦ λ g. own_same k e (eqb-true k.index index g)
                    | false ↦ λ g.
                        let other : k.index ≢ index = λ same. (let clash : true ≡ false = sym (eq-eqb k.index index same) ∙ g in cc) in
                        foreign_same k l e f other (λ same. other (at ∙ same)) is
                  ] in
                  decide (k.index == index) refl
            ]
      ] in
      cases (client_of m i.clients) (client_of m j.clients) refl refl

  clients_agree : (n : ℕ) → IsIn index n (after i event) → client_of n (clients_next i event) ≡ client_of n (clients_next j event)
  clients_agree n is =
      let cases : (b : Bool) → (m == n) ≡ b → client_of n (clients_next i event) ≡ client_of n (clients_next j event) =
      λ b. elim b as (λ b. (m == n) ≡ b → client_of n (clients_next i event) ≡ client_of n (clients_next j event)) [
        | true ↦ λ e.
            let same : m ≡ n = eqb-true m n e in
            subst (λ x. IsIn index x (after i event) → client_of x (clients_next i event) ≡ client_of x (clients_next j event)) same own_agrees is
        | false ↦ λ e. other_agrees n e is
      ] in
      cases (m == n) refl

  pub agree_after : Agree index (after i event) (after j event)
  agree_after = record { common = commons; part = part; clients = clients_agree }

  abbrev told_of : ResponseData → Subsystems → Client → List Notice
  told_of x r k = if closes x.answer.next then [] else notice_to k.number (notice_of (noted r k.pending))

  own_told : (x : ResponseData) (r : Client → Subsystems) (k : Client) → notices_in r (if closes x.answer.next then None else Some k) ≡ told_of x (r k) k
  own_told x r k =
      elim (closes x.answer.next) as (λ b. notices_in r (if b then None else Some k) ≡ (if b then [] else notice_to k.number (notice_of (noted (r k) k.pending)))) [ true ↦ refl | false ↦ refl ]

  -- each client of the partition is told the same
  pub notices_same : Rising i.clients → Rising j.clients → (n : ℕ) → IsIn index n i → notices_to n (notices_next i event) ≡ notices_to n (notices_next j event)
  notices_same rises rises_too n is =
      let ri : Client → Subsystems = raised_next i event in
      let rj : Client → Subsystems = raised_next j event in
      let there : index_of_client (client_of n i.clients) ≡ Some index = sym (at_seat n i.clients) ∙ is in
      let Goal : ℕ → Type 0 = λ x. notices_to x (notices_next i event) ≡ notices_to x (notices_next j event) in
      let cases : (o : Option Client) → client_of n i.clients ≡ o → Goal n =
      λ o. elim o as (λ o. client_of n i.clients ≡ o → Goal n) [
        | None ↦ λ e. (let gone : None ≡ Some index = ap index_of_client (sym e) ∙ there in cc)
        | Some k ↦ λ e.
            let p : k.index ≡ index = ap index_from (ap index_of_client (sym e) ∙ there) in
            let too : client_of n j.clients ≡ Some k = sym (a.clients n is) ∙ e in
            let decide : (b : Bool) → (m == n) ≡ b → Goal n =
            λ b. elim b as (λ b. (m == n) ≡ b → Goal n) [
              | true ↦ λ f.
                  let name : n ≡ m = sym (eqb-true m n f) in
                  let here : client_of m i.clients ≡ Some k = ap (λ x. client_of x i.clients) (sym name) ∙ e in
                  let here_too : client_of m j.clients ≡ Some k = ap (λ x. client_of x j.clients) (sym name) ∙ too in
                  let same : s ≡ t = own_response index i j event a (is_in_by m k here p) in
                  let r : ri k ≡ rj k = own_raised k here p in
                  subst Goal (sym name)
                  (own_notices m ri s i.clients rises ∙ ap (λ (o : Option Client). notices_in ri (if closes s.answer.next then None else o)) here ∙ own_told s ri k
                  ∙ (λ x. told_of (same x) (r x) k)
                  ∙ sym (own_notices m rj t j.clients rises_too ∙ ap (λ (o : Option Client). notices_in rj (if closes t.answer.next then None else o)) here_too ∙ own_told t rj k))
              | false ↦ λ f.
                  let r : ri k ≡ rj k = other_raised n k e p f in
                  other_notices m ri s i.clients n f rises ∙ ap (notices_in ri) e
                  ∙ ap (λ (x : Subsystems). notice_to k.number (notice_of (noted x k.pending))) r
                  ∙ sym (other_notices m rj t j.clients n f rises_too ∙ ap (notices_in rj) too)
            ] in
            decide (m == n) refl
      ] in
      cases (client_of n i.clients) refl

-- where an event makes the same in both, it leaves alike what all share, and the partition
module _ (index : ℕ) (i j : Image) (event : Event) (a : Agree index i j) (same : transition i event ≡ transition j event) where
  same_known : map known (parts_next i event) ≡ map known (parts_next j event)
  same_known =
      known_after index i.parts j.parts (knowns index i j a) a.part i.shared.library.rate (index_at i event) (transition i event)
      ∙ (λ x. map known (parts_after (libraries index i j a x).rate (index_same index i j a event x) (same x) j.parts))

  pub same_part : part_at index (parts_next i event) ≡ part_at index (parts_next j event)
  same_part =
      part_after_same index i.parts j.parts (knowns index i j a) a.part i.shared.library.rate (index_at i event) (transition i event)
      ∙ (λ x. part_at index (parts_after (libraries index i j a x).rate (index_same index i j a event x) (same x) j.parts))

  same_seats : map seated (clients_next i event) ≡ map seated (clients_next j event)
  same_seats =
      seats_are (sender_number event) (raised_next i event) (transition i event).response i.clients
      ∙ (λ x. seats_after (sender_number event) (same x).response (seats index i j a x))
      ∙ sym (seats_are (sender_number event) (raised_next j event) (transition j event).response j.clients)

  pub same_common : common (after i event) ≡ common (after j event)
  same_common = λ x. record {
    overview = record { parts = same_known x; clients = same_seats x; ended = ended_after (a.common x).overview.ended event; openings = (a.common x).overview.openings };
    library = library_after (libraries index i j a x) (same x).scan;
  }
