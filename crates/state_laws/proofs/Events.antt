-- What a line of a client makes of a daemon.
use Rattle.std.proofs.Common.{◌≡◌, ℕ, suc, ◌+◌, ◌≤◌, ◌==◌, Bool, true, false, not, ◌&&◌, ◌||◌, nat_le, arith, subst, sym, List, [], ◌∷◌, map, Option, Some, None, is_some, option_map, refl, ap, ◌∙◌, if◌then◌else◌}
use Rattle.std.specs.Prelude.{slice_index_or, slice_set}
use Rattle.std.proofs.lemmas.Bool.{lt-leb}
use Rattle.connected_clients.specs.Clients.{client_of, clients_after, notified}
use Rattle.idle_notes.specs.Notes.{due, fresh, noted}
use Rattle.idle_notes.specs.Sets.{is_nonempty}
use Rattle.idle_notes.specs.declared.pending.Pending.{Pending}
use Rattle.idle_notes.specs.declared.sets.Subsystems.{Subsystems}
use Rattle.mpd_command.specs.declared.command.Command.{Command}
use Rattle.mpd_command.specs.declared.name.Name.{Name}
use Rattle.mpd_command.specs.declared.request.Request.TheVariants.{Run}
use Rattle.partition_table.specs.Parts.{changed, is_within_in, part_at}
use Rattle.partition_table.proofs.Looks.{own_changed}
use Rattle.partition.specs.Image.{Image, overview}
use Rattle.partition.specs.declared.partition.PartitionFault.TheVariants.{AtLimit, CutsAtLimit}
use Rattle.partition.specs.Step.{asked_by, counts_frames, keeps_limits, limit_by, limit_of, ends_waiting, next_image, once_written, index_at, index_in, raised_of, told, transition, transition_line, transition_of, transition_run, transition_there, transition_wished, written_transition}
use Rattle.player_events.specs.declared.event.Event.{Event}
use Rattle.player_core.specs.Player.{is_within}
use Rattle.player_state.specs.Effects.{begins_beyond, part_after, player_after}
use Rattle.player_state.specs.Outputs.{books_after, can_count_all}
use Rattle.player_state.specs.Libraries.{library_after}
use Rattle.player_state.specs.declared.effect.CommandEffect.{CommandEffect}
use Rattle.player_state.specs.declared.effect.Effect.TheVariants.{ByCommand}
use Rattle.player_state.specs.declared.scan.ScanMove.{ScanMove}
use Rattle.player_state.specs.declared.scan.ScanMove.TheVariants.{Stay}
use Rattle.player_state.specs.declared.state.Client.{Client}
use Rattle.player_state.specs.declared.state.Library.{Library}
use Rattle.player_state.specs.declared.state.Part.{Part}
use Rattle.status_commands.specs.Status.{wish_of}
use Rattle.transitions.specs.Answers.{Answer, stays}
use Rattle.transitions.specs.Shelves.{is_written}
use Rattle.transitions.specs.Transitions.{CommandResult, TransitionData, departs, keeps_all_numbers, max_cut_in, parts_after, report_of, transition_by}
use Rattle.transitions.specs.declared.asked.ListPlace.TheVariants.{Alone}
use Rattle.transitions.specs.declared.reply.Next.{Next}
use Rattle.transitions.specs.declared.reply.Next.TheVariants.{Goes}
use Rattle.transitions.specs.declared.shelf_calls.Read.TheVariants.{Nothing as NothingRead}
use Rattle.transitions.specs.declared.shelf_calls.ShelfWrite.TheVariants.{Nothing}
use Rattle.state_laws.specs.Limits.{HasLeft, IsFar}
use Rattle.state_laws.proofs.Limits.{IsSmall, Raises, one_more, raises, same_books, within}
use Rattle.state_laws.specs.Saying.{asking, is_refused}

-- each client hears of what was raised, and no client goes
pub client_mapped : (number : ℕ) (f : Client → Client) → ((k : Client) → (f k).number ≡ k.number) → (ks : List Client)
    → client_of number (map f ks) ≡ option_map f (client_of number ks)
client_mapped number f keeps [] = refl
client_mapped number f keeps (k ∷ ks) =
    let cases : (b : Bool) → (if b then Some (f k) else client_of number (map f ks)) ≡ option_map f (if b then Some k else client_of number ks) =
    λ b. elim b as (λ b. (if b then Some (f k) else client_of number (map f ks)) ≡ option_map f (if b then Some k else client_of number ks))
    [ true ↦ refl | false ↦ client_mapped number f keeps ks ] in
    ap (λ (n : ℕ). if n == number then Some (f k) else client_of number (map f ks)) (keeps k) ∙ cases (k.number == number)

clients_stay : (number : ℕ) (r : Client → Subsystems) (answer : Answer) (ks : List Client) → answer.next ≡ Goes → clients_after number r (stays answer) ks ≡ map (notified r) ks
clients_stay number r answer ks goes =
    ap (λ (next : Next). clients_after number r (stays (record answer { next = next })) ks) goes

pub own_client : (number : ℕ) (r : Client → Subsystems) (answer : Answer) (ks : List Client) (k : Client) → answer.next ≡ Goes → client_of number ks ≡ Some k
    → client_of number (clients_after number r (stays answer) ks) ≡ Some (notified r k)
own_client number r answer ks k goes there =
    ap (client_of number) (clients_stay number r answer ks goes) ∙ client_mapped number (notified r) (λ k. refl) ks ∙ ap (option_map (notified r)) there

-- a client that does not wait does not wait after that
pub still_listens : (r : Client → Subsystems) (k : Client) → k.pending.waiting ≡ None → (notified r k).pending.waiting ≡ None
still_listens r k free =
    let p : Pending = noted (r k) k.pending in
    elim (is_nonempty (due p)) as (λ b. (if b then fresh else p).waiting ≡ None) [ true ↦ refl | false ↦ free ]

pub one_client : (a b : Client) → ◌≡◌ {A = Option Client} (Some a) (Some b) → a ≡ b
one_client a b e = cc

pub one_part : (a b : Part) → ◌≡◌ {A = Option Part} (Some a) (Some b) → a ≡ b
one_part a b e = cc

-- what a line leaves of a daemon: its client is there and does not wait, its partition is as the result of the
-- command says, all others are as they were, and so are the library and what a partition is opened with
pub record Leaves (seat number : ℕ) (i : Image) (client : Client) (part : Part) (event : Event) (r : CommandResult) : Type 0 where
  pub library : (next_image seat i event).shared.library ≡ i.shared.library
  pub openings : (next_image seat i event).shared.openings ≡ i.shared.openings
  pub own : Client
  pub there : client_of number (next_image seat i event).clients ≡ Some own
  pub index : own.index ≡ client.index
  pub listens : own.pending.waiting ≡ None
  pub placed : part_at client.index (next_image seat i event).parts ≡ Some (part_after i.shared.library.rate part (ByCommand r.effect))
  pub parts : (next_image seat i event).parts ≡ changed i.shared.library.rate client.index (ByCommand r.effect) i.parts
  pub refused : is_refused i event ≡ r.answer.refused

-- what a line of a state changes of the partitions: the client's own one alone, as such a line does
pub record ChangesOwn (number : ℕ) (i j : Image) : Type 0 where
  pub openings : j.shared.openings ≡ i.shared.openings
  pub before : Client
  pub after : Client
  pub here : client_of number i.clients ≡ Some before
  pub there : client_of number j.clients ≡ Some after
  pub index : after.index ≡ before.index
  pub effect : CommandEffect
  pub small : IsSmall effect
  pub parts : j.parts ≡ changed i.shared.library.rate before.index (ByCommand effect) i.parts

-- the line of a client that does not wait, and what its command makes
module _ (seat number : ℕ) (i : Image) (client : Client) (part : Part) (name : Name) (it : Command) (t : TransitionData)
    (there : client_of number i.clients ≡ Some client) (listens : client.pending.waiting ≡ None) (placed : part_at client.index i.parts ≡ Some part)
    (no_wish : wish_of it ≡ None) (runs : transition_run (overview i) (asked_by client name Alone) part i.shared.library NothingRead it ≡ t)
    (written : t.written ≡ Nothing) where
  abbrev said : Event
  said = asking number (Run name it)

  abbrev own_library : Library
  own_library = i.shared.library

  line_makes : transition_line (overview i) (Some part) own_library (Some client) Alone (Run name it) NothingRead ≡ t
  line_makes =
      let there_run : TransitionData = transition_there (overview i) (asked_by client name Alone) (Some part) own_library NothingRead it in
      let whole : TransitionData = transition_wished (asked_by client name Alone) client there_run (wish_of it) in
      ap (λ (w : Option Subsystems). if is_some w && not (ends_waiting Alone (Run name it)) then departs client.number else whole) listens
      ∙ ap (transition_wished (asked_by client name Alone) client there_run) no_wish ∙ runs

  unwritten : is_written t.written ≡ false
  unwritten = ap is_written written

  pub event_makes : transition i said ≡ t
  event_makes =
      ap (λ (o : Option Client). transition_of (overview i) (part_at (index_in o) i.parts) own_library o said) there
      ∙ ap (λ (o : Option Part). transition_of (overview i) o own_library (Some client) said) placed
      ∙ ap (written_transition Alone (Run name it) None) line_makes
      ∙ ap (λ (b : Bool). if b then once_written Alone (Run name it) None t else t) unwritten

  pub index_made : index_at i said ≡ client.index
  index_made = ap index_in there

  pub parts_made : (next_image seat i said).parts ≡ parts_after own_library.rate client.index t i.parts
  unfolding next_image
  parts_made =
      ap (λ (t : TransitionData). parts_after own_library.rate (index_at i said) t i.parts) event_makes
      ∙ ap (λ (index : ℕ). parts_after own_library.rate index t i.parts) index_made

  pub library_made : (next_image seat i said).shared.library ≡ library_after own_library t.scan
  unfolding next_image
  library_made = ap (λ (t : TransitionData). library_after own_library t.scan) event_makes

  pub openings_stay : (next_image seat i said).shared.openings ≡ i.shared.openings
  unfolding next_image
  openings_stay = refl

  pub clients_made : (next_image seat i said).clients ≡ clients_after number (raised_of i said t) t.response i.clients
  unfolding next_image
  clients_made = ap (λ (t : TransitionData). clients_after number (raised_of i said t) t.response i.clients) event_makes

  pub refused_made : is_refused i said ≡ t.response.answer.refused
  unfolding told
  refused_made = ap (λ (t : TransitionData). t.response.answer.refused) event_makes

module _ (seat number : ℕ) (i : Image) (client : Client) (part : Part) (name : Name) (it : Command) (r : CommandResult)
    (there : client_of number i.clients ≡ Some client) (listens : client.pending.waiting ≡ None) (placed : part_at client.index i.parts ≡ Some part)
    (no_wish : wish_of it ≡ None)
    (runs : transition_run (overview i) (asked_by client name Alone) part i.shared.library NothingRead it ≡ transition_by r)
    (scan : r.scan ≡ Stay) (written : r.written ≡ Nothing) (goes : r.answer.next ≡ Goes) where
  abbrev event : Event
  event = asking number (Run name it)

  abbrev lib : Library
  lib = i.shared.library

  makes : transition i event ≡ transition_by r
  makes = event_makes seat number i client part name it (transition_by r) there listens placed no_wish runs written

  index_is : index_at i event ≡ client.index
  index_is = index_made seat number i client part name it (transition_by r) there listens placed no_wish runs written

  parts_are : (next_image seat i event).parts ≡ changed lib.rate client.index (ByCommand r.effect) i.parts
  parts_are = parts_made seat number i client part name it (transition_by r) there listens placed no_wish runs written

  library_is : (next_image seat i event).shared.library ≡ lib
  library_is =
      library_made seat number i client part name it (transition_by r) there listens placed no_wish runs written
      ∙ ap (library_after lib) scan

  clients_are : (next_image seat i event).clients ≡ clients_after number (raised_of i event (transition_by r)) (stays r.answer) i.clients
  clients_are = clients_made seat number i client part name it (transition_by r) there listens placed no_wish runs written

  refused_is : is_refused i event ≡ r.answer.refused
  refused_is = refused_made seat number i client part name it (transition_by r) there listens placed no_wish runs written

  pub leaves : Leaves seat number i client part event r
  leaves =
      let raised : Client → Subsystems = raised_of i event (transition_by r) in
      record {
        library = library_is;
        openings = openings_stay seat number i client part name it (transition_by r) there listens placed no_wish runs written;
        own = notified raised client;
        there = ap (client_of number) clients_are ∙ own_client number raised r.answer i.clients client goes there;
        index = refl;
        listens = still_listens raised client listens;
        parts = parts_are;
        placed = ap (part_at client.index) parts_are ∙ own_changed client.index lib.rate (ByCommand r.effect) i.parts ∙ ap (option_map (λ (p : Part). part_after lib.rate p (ByCommand r.effect))) placed;
        refused = refused_is;
      }

  -- a line passes no limit, where there is one left
  frames_count : can_count_all i.shared.books ≡ true → counts_frames i event (transition_by r) ≡ true
  frames_count books = same_books i.shared.books r.effect (report_of (index_at i event) i.parts lib (transition_by r)) ∙ books

  numbers_keep : is_within (player_after lib.rate part (ByCommand r.effect)) ≡ true → keeps_limits i event (transition_by r) ≡ true
  numbers_keep fine =
      ap (λ (index : ℕ). keeps_all_numbers index i.parts lib (transition_by r)) index_is
      ∙ ap (λ (o : Option Part). is_within_in lib.rate o (ByCommand r.effect) && (not (begins_beyond (max_cut_in o) lib.scan r.scan) && true)) placed
      ∙ ap (λ (move : ScanMove). is_within (player_after lib.rate part (ByCommand r.effect)) && (not (begins_beyond part.player.max_cut lib.scan move) && true)) scan
      ∙ ap (λ (b : Bool). b && true) fine

  no_limit : HasLeft seat 1 i part.player → IsSmall r.effect → limit_of seat i event ≡ None
  unfolding limit_of
  no_limit h tiny =
      let up : Raises part.player (player_after lib.rate part (ByCommand r.effect)) = raises lib.rate part r.effect tiny in
      let fine : is_within (player_after lib.rate part (ByCommand r.effect)) ≡ true = within (player_after lib.rate part (ByCommand r.effect))
      (omega (arith, up.cuts, up.max_cut, h.cuts)) (omega (arith, up.starts, up.max_cut, h.starts)) (omega (arith, up.jobs, up.max_cut, h.jobs)) in
      let counted : nat_le 9223372036854775807 (slice_index_or i.shared.made seat 0) ≡ false = lt-leb 9223372036854775807 (slice_index_or i.shared.made seat 0) (omega (arith, h.made)) in
      let t : TransitionData = transition_by r in
      ap (limit_by seat i event) makes
      ∙ ap (λ (b : Bool). if b || not (counts_frames i event t) then Some AtLimit else (if keeps_limits i event t then None else Some CutsAtLimit)) counted
      ∙ ap (λ (b : Bool). if not b then Some AtLimit else (if keeps_limits i event t then None else Some CutsAtLimit)) (frames_count h.books)
      ∙ ap (λ (b : Bool). if b then None else Some CutsAtLimit) (numbers_keep fine)

  made_is : (next_image seat i event).shared.made ≡ slice_set i.shared.made seat (slice_index_or i.shared.made seat 0 + 1)
  unfolding next_image
  made_is = refl

  books_are : can_count_all (next_image seat i event).shared.books ≡ can_count_all i.shared.books
  unfolding next_image
  books_are =
      ap (λ (t : TransitionData). can_count_all (books_after i.shared.books t.effect (report_of (index_at i event) i.parts lib t))) makes
      ∙ same_books i.shared.books r.effect (report_of (index_at i event) i.parts lib (transition_by r))

  left_after : (left : ℕ) → HasLeft seat (suc left) i part.player → IsSmall r.effect → HasLeft seat left (next_image seat i event) (player_after lib.rate part (ByCommand r.effect))
  left_after left h tiny =
      let up : Raises part.player (player_after lib.rate part (ByCommand r.effect)) = raises lib.rate part r.effect tiny in
      let more : slice_index_or (next_image seat i event).shared.made seat 0 ≤ slice_index_or i.shared.made seat 0 + 1 =
      subst (λ (xs : List ℕ). slice_index_or xs seat 0 ≤ slice_index_or i.shared.made seat 0 + 1) (sym made_is) (one_more i.shared.made seat) in
      record {
        made = omega (arith, h.made, more);
        books = books_are ∙ h.books;
        cuts = omega (arith, up.cuts, up.max_cut, h.cuts);
        starts = omega (arith, up.starts, up.max_cut, h.starts);
        jobs = omega (arith, up.jobs, up.max_cut, h.jobs);
      }

  pub stays_far : (left : ℕ) → IsSmall r.effect → IsFar seat number (suc left) i → (limit_of seat i event ≡ None) × IsFar seat number left (next_image seat i event)
  stays_far left tiny far =
      let same_client : client ≡ far.0 = one_client client far.0 (sym there ∙ far.2) in
      let same_part : part ≡ far.1 = one_part part far.1 (sym placed ∙ ap (λ (k : Client). part_at k.index i.parts) same_client ∙ far.3) in
      let h : HasLeft seat (suc left) i part.player = subst (λ (p : Part). HasLeft seat (suc left) i p.player) (sym same_part) far.4 in
      let one : HasLeft seat 1 i part.player = record { made = omega (arith, h.made); books = h.books; cuts = omega (arith, h.cuts); starts = omega (arith, h.starts); jobs = h.jobs } in
      let l : Leaves seat number i client part event r = leaves in (
        no_limit one tiny,
        (l.own, part_after lib.rate part (ByCommand r.effect), l.there, ap (λ (index : ℕ). part_at index (next_image seat i event).parts) l.index ∙ l.placed, left_after left h tiny),
      )
