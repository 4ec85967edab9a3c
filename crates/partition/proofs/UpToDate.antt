-- The clients of every player are up to date, so that an event that raises nothing leaves them as they are and
-- tells none.
use Rattle.std.proofs.Common.{◌≡◌, inl, inr, ℕ, zero, suc, ◌==◌, ◌≤◌, Bool, true, false, not, ◌&&◌, ◌||◌, nat_lt, List, [], ◌∷◌, ◌++◌, Option, Some, None, is_some, map, refl, ap, sym, subst, ◌∙◌, arith, if◌then◌else◌}
use Rattle.std.specs.Prelude.{filter, insert, count_by}
use Rattle.std.specs.List.{flat_map, position_or_len}
use Rattle.std.proofs.lemmas.Bool.{eqb-true}
use Rattle.idle_notes.specs.declared.pending.Pending.{Pending}
use Rattle.idle_notes.specs.declared.sets.Subsystems.{Subsystems}
use Rattle.idle_notes.specs.Sets.{none, union, meet, is_nonempty}
use Rattle.idle_notes.specs.Notes.{everything, fresh, noted, waits, cancelled, due, up_to_date, notice_of}
use Rattle.player_state.specs.declared.state.Library.{Library}
use Rattle.mpd_command.specs.declared.request.Request.TheVariants.{Run}
use Rattle.transitions.specs.declared.asked.Asked.{Asked}
use Rattle.player_events.specs.declared.event.Event.{Event}
use Rattle.transitions.specs.declared.asked.ListPlace.TheVariants.{Alone}
use Rattle.player_events.specs.declared.event.LogEntry.{LogEntry}
use Rattle.transitions.specs.declared.reply.Move.{Move}
use Rattle.transitions.specs.declared.reply.Move.TheVariants.{Stay, Wait, Learn, Resume, Join, Show, Enter}
use Rattle.player_state.specs.declared.state.Client.{Client}
use Rattle.player_state.specs.declared.state.Part.{Part}
use Rattle.transitions.specs.Answers.{ResponseData, closes}
use Rattle.connected_clients.specs.Clients.{entered, entering, names_of, notified, notice_for, notice_to, is_other, at, joined, moved, newcomer, raised, raised_for_all, raised_there, shown, staying, move_of, clients_after, same_names, watched_all, watched_at, watched_of, Rising}
use Rattle.mpd_text.specs.declared.songs.song.TagName.{TagName}
use Rattle.status_commands.specs.Status.{Wish, idles}
use Rattle.partition.specs.History.{replay}
use Rattle.player_state.specs.declared.effect.Effect.TheVariants.{ByCommand}
use Rattle.player_state.specs.declared.effect.CommandEffect.TheVariants.{Rests}
use Rattle.player_state.specs.declared.report.Report.{Report}
use Rattle.player_state.specs.declared.report.Report.TheVariants.{Nothing}
use Rattle.player_state.specs.declared.scan.ScanMove.TheVariants.{Stay as StayScan}
use Rattle.player_state.proofs.Songs.{same_songs-refl}
use Rattle.partition.specs.Image.{Image}
use Rattle.transitions.specs.Transitions.{TransitionData}
use Rattle.connected_clients.specs.Clients.{client_of}
use Rattle.partition.specs.Notices.{IsIn}
use Rattle.connected_clients.specs.Rooms.{is_waiting}
use Rattle.connected_clients.specs.UpToDate.{IsUpToDate, AllUpToDate, HasRoom, nothing}
use Rattle.transitions.specs.Shelves.{is_written}
use Rattle.transitions.specs.declared.shelf_calls.ShelfWrite.{ShelfWrite}
use Rattle.transitions.specs.declared.shelf_calls.ShelfWrite.TheVariants.{Nothing as Unwritten, Put, Create, Rename, Remove, SetSticker, DeleteSticker, DeleteStickers}
use Rattle.partition.specs.Applying.{GoesNowhere}
use Rattle.partition.specs.Image.{overview}
use Rattle.partition.specs.Step.{asked_by, ends_by, moved_client, sender_number, index_at, raised_by, raised_of, sender_in, transition, transition_line, transition_of, transition_there, transition_wished, next_image, written_transition}
use Rattle.partition_table.specs.Parts.{part_at}
use Rattle.partition_table.specs.declared.crossing.Crossing.TheVariants.{Stays}
use Rattle.partition.proofs.Raised.{same_between}
use Rattle.partition.proofs.Written.{rests_changed}
use Rattle.song_queue.specs.State.{differ}
use Rattle.player_state.specs.Libraries.{same_songs}
use Rattle.transitions.specs.Transitions.{departs, quiet}
use Rattle.connected_clients.proofs.Alike.{same_names-refl}
use Rattle.partition.proofs.Asking.{quiet_unwaiting, IsAsking, kind_of, transition_idle}
use Rattle.partition.proofs.Raised.{differ-self}
use Rattle.connected_clients.proofs.Rises.{rising_after}
use Rattle.partition.proofs.Sends.{found}
use Rattle.connected_clients.proofs.Tells.{fewer_wait}

or_false : (b : Bool) → (b || false) ≡ b
or_false true = refl
or_false false = refl

union_none : (s : Subsystems) → union s none ≡ s
union_none s = λ i. record {
  database = or_false s.database i;
  update = or_false s.update i;
  stored_playlist = or_false s.stored_playlist i;
  playlist = or_false s.playlist i;
  player = or_false s.player i;
  mixer = or_false s.mixer i;
  output = or_false s.output i;
  options = or_false s.options i;
  sticker = or_false s.sticker i;
  subscription = or_false s.subscription i;
  message = or_false s.message i;
  partition = or_false s.partition i;
}

pub unwritten : (w : ShelfWrite) → is_written w ≡ false → w ≡ Unwritten
unwritten Unwritten e = refl
unwritten (Put name uris changes) e = cc
unwritten (Create name uris) e = cc
unwritten (Rename name new has_stickers) e = cc
unwritten (Remove name has_stickers) e = cc
unwritten (SetSticker kind target name value changes) e = cc
unwritten (DeleteSticker kind target name) e = cc
unwritten (DeleteStickers kind target) e = cc

-- a client that goes nowhere
pub stays_put : (number : ℕ) (response : ResponseData) → GoesNowhere response.move → moved_client number response ≡ None
stays_put number response nowhere =
    elim (closes response.answer.next) as (λ b. entering number (if b then Stay else response.move) ≡ None) [ true ↦ refl | false ↦ nowhere number ]

-- what leaves the partitions and the scans as they are, and lets no client go, raises nothing
pub rest_raises : (number index : ℕ) (parts : List Part) (library : Library) (response : ResponseData) (report : Report) → moved_client number response ≡ None
    → raised_by number index parts library (record { effect = ByCommand Rests; scan = StayScan; written = Unwritten; response = response; report = report; crossing = Stays }) ≡ nothing
rest_raises number index parts library response report nobody =
    let common_is : raised_for_all Unwritten (watched_all library parts) (watched_all library parts) ≡ none =
    λ i. record none {
      database = not (same_songs-refl library.songs i);
      update = differ-self library.scan.runs i;
      partition = not (same_names-refl (names_of (map watched_of parts)) i);
    } in
    let there : (client : Client) → raised_there Unwritten (watched_all library parts) (watched_all library parts) client ≡ none =
    λ client.
    same_between client.number (not (same_songs library.songs library.songs)) (differ library.scan.runs library.scan.runs) false false (not (same_names (names_of (map watched_of parts)) (names_of (map watched_of parts))))
    (watched_at client.index (map watched_of parts)) ∙ common_is in
    ap (λ (ps : List Part). raised (moved_client number response) Unwritten (watched_all library parts) (watched_all library ps)) (rests_changed library.rate index parts)
    ∙ ap (λ (g : Option ℕ). raised g Unwritten (watched_all library parts) (watched_all library parts)) nobody
    ∙ (λ i client. there client i)

pub quiet_raises : (i : Image) (event : Event) (response : ResponseData) → moved_client (sender_number event) response ≡ None → raised_of i event (quiet response) ≡ nothing
quiet_raises i event response nobody = rest_raises (sender_number event) (index_at i event) i.parts i.shared.library response Nothing nobody

-- a client that heard is up to date
notified_up_to_date : (r : Client → Subsystems) (k : Client) → IsUpToDate (notified r k)
notified_up_to_date r k =
    let p : Pending = noted (r k) k.pending in
    let cases : (b : Bool) → is_nonempty (due p) ≡ b → is_nonempty (due (if b then fresh else p)) ≡ false =
    λ b. elim b as (λ b. is_nonempty (due p) ≡ b → is_nonempty (due (if b then fresh else p)) ≡ false) [ true ↦ λ e. refl | false ↦ λ e. e ] in
    cases (is_nonempty (due p)) refl

pub all_notified : (r : Client → Subsystems) (ks : List Client) → AllUpToDate (map (notified r) ks)
all_notified r [] = tt
all_notified r (k ∷ ks) = (notified_up_to_date r k, all_notified r ks)

pub up_to_date_map : (f : Client → Client) → ((k : Client) → IsUpToDate k → IsUpToDate (f k)) → (ks : List Client) → AllUpToDate ks → AllUpToDate (map f ks)
up_to_date_map f keeps [] all = tt
up_to_date_map f keeps (k ∷ ks) all = (keeps k all.0, up_to_date_map f keeps ks all.1)

pub up_to_date_filter : (p : Client → Bool) (ks : List Client) → AllUpToDate ks → AllUpToDate (filter p ks)
up_to_date_filter p [] all = tt
up_to_date_filter p (k ∷ ks) all =
    elim (p k) as (λ b. AllUpToDate (if b then k ∷ filter p ks else filter p ks)) [ true ↦ (all.0, up_to_date_filter p ks all.1) | false ↦ up_to_date_filter p ks all.1 ]

up_to_date_insert : (ks : List Client) (index : ℕ) (k : Client) → AllUpToDate ks → IsUpToDate k → AllUpToDate (insert ks index k)
up_to_date_insert [] zero k all one = (one, tt)
up_to_date_insert [] (suc index) k all one = (one, tt)
up_to_date_insert (c ∷ cs) zero k all one = (one, all)
up_to_date_insert (c ∷ cs) (suc index) k all one = (all.0, up_to_date_insert cs index k all.1 one)

pub at_up_to_date : (n : ℕ) (change : Pending → Pending) → ((p : Pending) → is_nonempty (due (change p)) ≡ false) → (k : Client) → IsUpToDate k → IsUpToDate (at n change k)
at_up_to_date n change makes k one =
    elim (k.number == n) as (λ b. is_nonempty (due (if b then record k { pending = change k.pending } else k).pending) ≡ false) [ true ↦ makes k.pending | false ↦ one ]

pub shown_up_to_date : (n : ℕ) (tags : List TagName) (k : Client) → IsUpToDate k → IsUpToDate (shown n tags k)
shown_up_to_date n tags k one =
    elim (k.number == n) as (λ b. is_nonempty (due (if b then record k { tags = tags } else k).pending) ≡ false) [ true ↦ one | false ↦ one ]

pub entered_up_to_date : (n index : ℕ) (k : Client) → IsUpToDate k → IsUpToDate (entered n index k)
entered_up_to_date n index k one =
    elim (k.number == n) as (λ b. is_nonempty (due (if b then record k { index = index; pending = everything } else k).pending) ≡ false) [ true ↦ refl | false ↦ one ]

pub up_to_date_joined : (n : ℕ) (ks : List Client) → AllUpToDate ks → AllUpToDate (joined n ks)
up_to_date_joined n ks all =
    let index : ℕ = position_or_len (λ c. nat_lt n c.number) ks in
    let new : Client = newcomer n in
    elim (is_some (client_of n ks)) as (λ b. AllUpToDate (if b then ks else insert ks index new)) [ true ↦ all | false ↦ up_to_date_insert ks index new all refl ]

-- a move other than to wait keeps each up to date
up_to_date_moved : (n : ℕ) (move : Move) (ks : List Client) → ((names : Subsystems) → move ≡ Wait names → AllUpToDate (map (at n (waits names)) ks))
    → AllUpToDate ks → AllUpToDate (moved n move ks)
up_to_date_moved n Stay ks waiting all = all
up_to_date_moved n (Wait names) ks waiting all = waiting names refl
up_to_date_moved n Learn ks waiting all = up_to_date_map (at n (λ p. fresh)) (at_up_to_date n (λ p. fresh) (λ p. refl)) ks all
up_to_date_moved n Resume ks waiting all = up_to_date_map (at n cancelled) (at_up_to_date n cancelled (λ p. refl)) ks all
up_to_date_moved n Join ks waiting all = up_to_date_joined n ks all
up_to_date_moved n (Show tags) ks waiting all = up_to_date_map (shown n tags) (shown_up_to_date n tags) ks all
up_to_date_moved n (Enter index) ks waiting all = up_to_date_map (entered n index) (entered_up_to_date n index) ks all

-- a client for which nothing of a set is pending may wait for it, once it has heard of nothing
nothing_due : (p : Pending) (named : Subsystems) → is_nonempty (meet p.changed named) ≡ false → is_nonempty (meet (up_to_date (noted none p)).changed named) ≡ false
nothing_due p named e =
    elim (is_nonempty (due (noted none p))) as (λ b. is_nonempty (meet (if b then fresh else noted none p).changed named) ≡ false)
    [ true ↦ refl | false ↦ ap (λ (s : Subsystems). is_nonempty (meet s named)) (union_none p.changed) ∙ e ]

one_waits : (n : ℕ) (named : Subsystems) (client : Client) (ks : List Client) → Rising ks → client_of n ks ≡ Some client
    → is_nonempty (meet client.pending.changed named) ≡ false → (k : Client) → IsIn k ks → IsUpToDate (at n (waits named) (notified nothing k))
one_waits n named client ks rising is unchanged k among =
    let heard : Client = notified nothing k in
    let cases : (b : Bool) → (k.number == n) ≡ b → is_nonempty (due (if b then record heard { pending = waits named heard.pending } else heard).pending) ≡ false =
    λ b. elim b as (λ b. (k.number == n) ≡ b → is_nonempty (due (if b then record heard { pending = waits named heard.pending } else heard).pending) ≡ false) [
      | true ↦ λ e.
          let both : Some k ≡ Some client = sym (found k ks rising among) ∙ ap (λ (x : ℕ). client_of x ks) (eqb-true k.number n e) ∙ is in
          let same : k ≡ client = cc in
          nothing_due k.pending named (ap (λ (c : Client). is_nonempty (meet c.pending.changed named)) same ∙ unchanged)
      | false ↦ λ e. notified_up_to_date nothing k
    ] in
    cases (k.number == n) refl

all_in : (f g : Client → Client) (ks : List Client) → ((k : Client) → IsIn k ks → IsUpToDate (f (g k))) → AllUpToDate (map f (map g ks))
all_in f g [] each = tt
all_in f g (k ∷ ks) each = (each k (inl refl), all_in f g ks (λ c among. each c (inr among)))

module _ (i : Image) (event : Event) (rising : Rising i.clients) where
  abbrev ks : List Client
  ks = i.clients

  abbrev t : TransitionData
  t = transition i event

  abbrev part : Option Part
  part = part_at (index_at i event) i.parts

  -- the clients once one of them waits, after the transition by which it does
  abbrev Waiting : ℕ → Subsystems → TransitionData → Type 0
  Waiting n names u = AllUpToDate (map (at n (waits names)) (map (notified (raised_of i event u)) (staying n u.response ks)))

  idle_is : (a : IsAsking ks event) → t ≡ transition_idle a.client a.named
  idle_is a =
      let once : TransitionData → TransitionData = λ u. written_transition Alone (Run a.name a.command) a.heard.refused u in
      let asked : Asked = asked_by a.client a.name Alone in
      ap (transition_of (overview i) part i.shared.library (sender_in ks event)) a.is
      ∙ ap (λ (o : Option Client). once (transition_line (overview i) part i.shared.library o Alone (Run a.name a.command) a.heard.read)) (ap (sender_in ks) a.is ∙ a.found)
      ∙ ap (λ (o : Option Wish). once (if is_some a.client.pending.waiting && not (ends_by Alone o) then departs a.client.number else transition_wished asked a.client (transition_there (overview i) asked part i.shared.library a.heard.read a.command) o)) a.wish
      ∙ ap (λ (w : Option Subsystems). once (if is_some w && true then departs a.client.number else transition_idle a.client a.named)) a.free

  -- a client waits only where nothing of what it names is pending for it
  asked : (a : IsAsking ks event) (names : Subsystems) → move_of t.response ≡ Wait names → Waiting (sender_number event) names t
  asked a names moves =
      let d : Subsystems = meet a.client.pending.changed a.named in
      let answers : Bool → TransitionData = λ b. quiet (idles a.named (if b then Some d else None)) in
      let cases : (b : Bool) → is_nonempty d ≡ b → t ≡ answers b → Waiting (sender_number event) names t =
      λ b. elim b as (λ b. is_nonempty d ≡ b → t ≡ answers b → Waiting (sender_number event) names t) [
        | true ↦ λ e is. (let clash : Learn ≡ Wait names = sym (ap (λ (u : TransitionData). move_of u.response) is) ∙ moves in cc)
        | false ↦ λ e is.
            let named : Wait a.named ≡ Wait names = sym (ap (λ (u : TransitionData). move_of u.response) is) ∙ moves in
            let same : a.named ≡ names = cc in
            let number : a.number ≡ sender_number event = sym (ap sender_number a.is) in
            let each : AllUpToDate (map (at a.number (waits a.named)) (map (notified nothing) ks)) =
            all_in (at a.number (waits a.named)) (notified nothing) ks (one_waits a.number a.named a.client ks rising a.found e) in
            let heard : Waiting a.number a.named (answers false) =
            subst (λ (r : Client → Subsystems). AllUpToDate (map (at a.number (waits a.named)) (map (notified r) ks))) (sym (quiet_raises i event (idles a.named None) refl)) each in
            subst (Waiting (sender_number event) names) (sym is)
            (subst (λ (x : ℕ). Waiting x names (answers false)) number (subst (λ (s : Subsystems). Waiting a.number s (answers false)) same heard))
      ] in
      cases (is_nonempty d) refl (idle_is a)

  pub up_to_date_after : AllUpToDate (clients_after (sender_number event) (raised_of i event t) t.response ks)
  up_to_date_after =
      up_to_date_moved (sender_number event) (move_of t.response) (map (notified (raised_of i event t)) (staying (sender_number event) t.response ks))
      (λ names moves. elim (kind_of (overview i) part i.shared.library ks event) [ inl quiet ↦ absurd (quiet_unwaiting (move_of t.response) names quiet moves) | inr a ↦ asked a names moves ])
      (all_notified (raised_of i event t) (staying (sender_number event) t.response ks))

next_up_to_date : (seat : ℕ) (i : Image) (event : Event) → Rising i.clients → Rising (next_image seat i event).clients × AllUpToDate (next_image seat i event).clients
unfolding next_image
next_up_to_date seat i event rising =
    let t : TransitionData = transition i event in
    (rising_after (sender_number event) (raised_of i event t) t.response i.clients rising, up_to_date_after i event rising)

-- over every history
pub replay_up_to_date : (hs : List LogEntry) (i : Image) → Rising i.clients → AllUpToDate i.clients → AllUpToDate (replay i hs).clients
replay_up_to_date [] i rising all = all
replay_up_to_date (h ∷ hs) i rising all =
    let next = next_up_to_date h.seat i h.event rising in
    replay_up_to_date hs (next_image h.seat i h.event) next.0 next.1

pub noted_none : (p : Pending) → noted none p ≡ p
noted_none p = ap (λ (s : Subsystems). record p { changed = s }) (union_none p.changed)

same_one : (k : Client) → IsUpToDate k → notified nothing k ≡ k
same_one k one =
    ap (λ (p : Pending). record k { pending = up_to_date p }) (noted_none k.pending)
    ∙ ap (λ (b : Bool). record k { pending = if b then fresh else k.pending }) one

-- where nothing is raised, clients that are up to date are as they were
pub same_clients : (ks : List Client) → AllUpToDate ks → map (notified nothing) ks ≡ ks
same_clients [] all = refl
same_clients (k ∷ ks) all = λ i. same_one k all.0 i ∷ same_clients ks all.1 i

unheard_one : (k : Client) → IsUpToDate k → notice_for nothing k ≡ []
unheard_one k one =
    ap (λ (p : Pending). notice_to k.number (notice_of p)) (noted_none k.pending)
    ∙ ap (λ (b : Bool). notice_to k.number (if b then Some (due k.pending) else None)) one

-- and none of them is told
pub no_notices : (ks : List Client) → AllUpToDate ks → flat_map (notice_for nothing) ks ≡ []
no_notices [] all = refl
no_notices (k ∷ ks) all = ap (λ l. l ++ flat_map (notice_for nothing) ks) (unheard_one k all.0) ∙ no_notices ks all.1

-- where fewer wait there are no more notices
pub fewer_waiting : (raised : Client → Subsystems) (number : ℕ) (ks : List Client) (room : ℕ) → HasRoom raised ks room → HasRoom raised (filter (is_other number) ks) room
fewer_waiting raised number ks room (inl e) = inl e
fewer_waiting raised number ks room (inr e) =
    let less : count_by is_waiting (filter (is_other number) ks) ≤ count_by is_waiting ks = fewer_wait number ks in
    inr (omega (arith, less, e))
