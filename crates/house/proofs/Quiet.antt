-- How many notices a command list gives: a client that is told waits no more, and in a list none begins to
-- wait.
use Rattle.std.proofs.Common.{◌≡◌, ℕ, zero, suc, ◌+◌, ◌≤◌, ◌==◌, true, false, ◌&&◌, List, [], ◌∷◌, length, map, take, Option, Some, None, is_some, refl, ap, ◌∙◌, length-append, arith, if◌then◌else◌}
use Rattle.std.specs.Prelude.{count_by, filter, not}
use Rattle.std.specs.List.{flat_map}
use Rattle.std.proofs.lemmas.List.Sums.{sum_by-append}
use Rattle.command_lists.specs.declared.word.ListForm.{ListForm}
use Rattle.idle_notes.specs.declared.sets.Subsystems.{Subsystems}
use Rattle.idle_notes.specs.declared.pending.Pending.{Pending}
use Rattle.idle_notes.specs.Notes.{due, everything, fresh, noted}
use Rattle.idle_notes.specs.Sets.{is_nonempty}
use Rattle.mpd_text.specs.declared.songs.song.TagName.{TagName}
use Rattle.mpd_command.specs.declared.command.Command.{Command}
use Rattle.mpd_command.specs.declared.command.Command.TheVariants as asked_for
use Rattle.mpd_command.specs.declared.name.Name.{Name}
use Rattle.mpd_command.specs.declared.request.Request.{Request}
use Rattle.mpd_command.specs.declared.request.Request.TheVariants as asks
use Rattle.shelf.specs.declared.faults.ShelfFault.{ShelfFault}
use Rattle.player_events.specs.declared.event.Event.{Event}
use Rattle.player_events.specs.declared.event.Event.TheVariants.{Line}
use Rattle.transitions.specs.declared.reply.Move.{Move}
use Rattle.transitions.specs.declared.reply.Move.TheVariants.{Stay, Wait, Learn, Resume, Join, Show, Enter}
use Rattle.transitions.specs.declared.asked.Asked.{Asked}
use Rattle.transitions.specs.declared.asked.ListPlace.TheVariants.{InList}
use Rattle.transitions.specs.declared.shelf_calls.StoreReply.{StoreReply}
use Rattle.transitions.specs.declared.shelf_calls.Read.{Read}
use Rattle.player_state.specs.declared.state.Client.{Client}
use Rattle.player_state.specs.declared.state.Library.{Library}
use Rattle.player_state.specs.declared.state.Part.{Part}
use Rattle.player_events.specs.declared.event.LogEntry.{LogEntry}
use Rattle.transitions.specs.Answers.{ResponseData, closes}
use Rattle.connected_clients.specs.Clients.{clients_after, entered, is_other, move_of, moved, notice_for, notice_to, notified, shown, staying}
use Rattle.status_commands.specs.Status.{Wish, ToWait, ToGoOn, ToShow, wish_of}
use Rattle.transitions.specs.Transitions.{TransitionData, departs}
use Rattle.partition_table.specs.Parts.{part_at}
use Rattle.partition.specs.Image.{Image, Overview, overview}
use Rattle.partition.specs.Lists.{Answered, entries_of}
use Rattle.player_events.specs.Events.{ends_list}
use Rattle.connected_clients.specs.Rooms.{is_waiting, room_for}
use Rattle.transitions.specs.Shelves.{is_written}
use Rattle.partition.specs.Step.{asked_by, ends_waiting, sender_number, next_image, once_written, index_at, raised_of, sender_in, told, transition, transition_line, transition_of, transition_request, transition_run, transition_there, transition_wished, written_transition}
use Rattle.house.proofs.Plans.{planned_is}
use Rattle.connected_clients.proofs.Tells.{fewer_wait}
use Rattle.house.specs.Lists.{notices_in}
use Rattle.house.proofs.Few.{told_notices}

-- a move by which no client begins to wait
abbrev IsQuiet : Move → Type 0
IsQuiet Stay = Unit {0}
IsQuiet (Enter index) = Unit {0}
IsQuiet (Show tags) = Unit {0}
IsQuiet _ = ⊥

abbrev Stays : TransitionData → Type 0
Stays t = IsQuiet t.response.move

run : (o : Overview) (asked : Asked) (part : Part) (library : Library) (read : Read) (command : Command) → Stays (transition_run o asked part library read command)
run o asked part library read (asked_for.Status command) = tt
run o asked part library read (asked_for.Options command) = tt
run o asked part library read (asked_for.Playback command) = tt
run o asked part library read (asked_for.Queue command) = tt
run o asked part library read (asked_for.Playlists command) = tt
run o asked part library read (asked_for.Database command) = tt
run o asked part library read (asked_for.Stickers command) = tt
run o asked part library read (asked_for.Connection command) = tt
run o asked part library read (asked_for.Outputs command) = tt
run o asked part library read (asked_for.Messages command) = tt
run o asked part library read (asked_for.Partitions command) = planned_is Stays (λ r. tt) (λ asked crossing. tt) (λ asked index. tt) o.parts o.clients o.openings asked part.index command

there : (o : Overview) (asked : Asked) (part : Option Part) (library : Library) (read : Read) (command : Command) → Stays (transition_there o asked part library read command)
there o asked None library read command = tt
there o asked (Some part) library read command = run o asked part library read command

module _ (form : ListForm) (place : ℕ) where
  wished : (name : Name) (client : Client) (t : TransitionData) (wish : Option Wish) → Stays t → Stays (transition_wished (asked_by client name (InList form place)) client t wish)
  wished name client t (Some (ToWait named)) e = tt
  wished name client t (Some ToGoOn) e = tt
  wished name client t (Some (ToShow choice)) e = tt
  wished name client t None e = e

  requested : (o : Overview) (part : Option Part) (library : Library) (client : Client) (request : Request) (read : Read) → Stays (transition_request o part library client (InList form place) request read)
  requested o part library client (asks.Run name command) read =
      let asked : Asked = asked_by client name (InList form place) in
      wished name client (transition_there o asked part library read command) (wish_of command) (there o asked part library read command)
  requested o part library client (asks.Refused ack) read = tt

  response : (o : Overview) (part : Option Part) (library : Library) (client : Option Client) (request : Request) (read : Read) → Stays (transition_line o part library client (InList form place) request read)
  response o part library None request read = tt
  response o part library (Some client) request read =
      elim (is_some client.pending.waiting && not (ends_waiting (InList form place) request))
      as (λ b. Stays (if b then departs client.number else transition_request o part library client (InList form place) request read))
      [ true ↦ tt | false ↦ requested o part library client request read ]

  once : (request : Request) (refused : Option ShelfFault) (t : TransitionData) → Stays t → Stays (once_written (InList form place) request refused t)
  once request None t e = e
  once request (Some fault) t e = tt

  written : (request : Request) (refused : Option ShelfFault) (t : TransitionData) → Stays t → Stays (written_transition (InList form place) request refused t)
  written request refused t e =
      elim (is_written t.written) as (λ b. Stays (if b then once_written (InList form place) request refused t else t)) [ true ↦ once request refused t e | false ↦ e ]

  -- a command of a list makes its client neither wait nor go on
  line_stays : (o : Overview) (part : Option Part) (library : Library) (client : Option Client) (number : ℕ) (request : Request) (heard : StoreReply)
      → Stays (transition_of o part library client (Line number (InList form place) request heard))
  line_stays o part library client number request heard =
      written request heard.refused (transition_line o part library client (InList form place) request heard.read)
      (response o part library client request heard.read)

one_more : (client : Client) (clients : List Client) → count_by is_waiting (client ∷ clients) ≡ room_for client + count_by is_waiting clients
one_more client clients =
    sum_by-append (λ (k : Client). if is_waiting k then 1 else 0) (client ∷ []) clients ∙ ap (λ n. n + count_by is_waiting clients) (omega arith)

-- a client that is told waits no more
one_less_at : (raised : Subsystems) (number index : ℕ) (tags : List TagName) (waiting : Option Subsystems) (changed : Subsystems)
    → length (notice_for (λ k. raised) (record { number = number; index = index; tags = tags; pending = record { waiting = waiting; changed = changed } }))
    + room_for (notified (λ k. raised) (record { number = number; index = index; tags = tags; pending = record { waiting = waiting; changed = changed } }))
    ≤ room_for (record { number = number; index = index; tags = tags; pending = record { waiting = waiting; changed = changed } })
one_less_at raised number index tags None changed = omega arith
one_less_at raised number index tags (Some names) changed =
    let p : Pending = noted raised (record { waiting = Some names; changed = changed }) in
    elim (is_nonempty (due p))
    as (λ b. length (notice_to number (if b then Some (due p) else None)) + room_for (record { number = number; index = index; tags = tags; pending = if b then fresh else p }) ≤ 1)
    [ true ↦ omega arith | false ↦ omega arith ]

one_less : (raised : Client → Subsystems) (client : Client) → length (notice_for raised client) + room_for (notified raised client) ≤ room_for client
one_less raised client = one_less_at (raised client) client.number client.index client.tags client.pending.waiting client.pending.changed

all_less : (raised : Client → Subsystems) (clients : List Client)
    → length (flat_map (notice_for raised) clients) + count_by is_waiting (map (notified raised) clients) ≤ count_by is_waiting clients
all_less raised [] = omega arith
all_less raised (k ∷ ks) =
    let first : length (notice_for raised k) + room_for (notified raised k) ≤ room_for k = one_less raised k in
    let rest : length (flat_map (notice_for raised) ks) + count_by is_waiting (map (notified raised) ks) ≤ count_by is_waiting ks = all_less raised ks in
    let before = one_more k ks in
    let after = one_more (notified raised k) (map (notified raised) ks) in
    let long = length-append (notice_for raised k) (flat_map (notice_for raised) ks) in
    omega (arith, first, rest, before, after, long)

at_most : (n : ℕ) → n ≤ n
at_most n = omega arith

entered_less : (number index : ℕ) (client : Client) → room_for (entered number index client) ≤ room_for client
entered_less number index client =
    elim (client.number == number) as (λ b. room_for (if b then record client { index = index; pending = everything } else client) ≤ room_for client)
    [ true ↦ omega arith | false ↦ at_most (room_for client) ]

-- no client begins to wait where one goes to another partition
all_entered : (number index : ℕ) (clients : List Client) → count_by is_waiting (map (entered number index) clients) ≤ count_by is_waiting clients
all_entered number index [] = omega arith
all_entered number index (k ∷ ks) =
    let first = entered_less number index k in
    let rest = all_entered number index ks in
    let before = one_more k ks in
    let after = one_more (entered number index k) (map (entered number index) ks) in
    omega (arith, first, rest, before, after)

shown_less : (number : ℕ) (tags : List TagName) (client : Client) → room_for (shown number tags client) ≤ room_for client
shown_less number tags client =
    elim (client.number == number) as (λ b. room_for (if b then record client { tags = tags } else client) ≤ room_for client)
    [ true ↦ at_most (room_for client) | false ↦ at_most (room_for client) ]

-- nor where one is shown other tags
all_shown : (number : ℕ) (tags : List TagName) (clients : List Client) → count_by is_waiting (map (shown number tags) clients) ≤ count_by is_waiting clients
all_shown number tags [] = omega arith
all_shown number tags (k ∷ ks) =
    let first = shown_less number tags k in
    let rest = all_shown number tags ks in
    let before = one_more k ks in
    let after = one_more (shown number tags k) (map (shown number tags) ks) in
    omega (arith, first, rest, before, after)

moved_less : (number : ℕ) (move : Move) (clients : List Client) → IsQuiet move → count_by is_waiting (moved number move clients) ≤ count_by is_waiting clients
moved_less number Stay clients quiet = omega arith
moved_less number (Enter index) clients quiet = all_entered number index clients
moved_less number (Wait names) clients quiet = absurd quiet
moved_less number Learn clients quiet = absurd quiet
moved_less number Resume clients quiet = absurd quiet
moved_less number Join clients quiet = absurd quiet
moved_less number (Show tags) clients quiet = all_shown number tags clients

quiet_so : (response : ResponseData) → IsQuiet response.move → IsQuiet (move_of response)
quiet_so response quiet = elim (closes response.answer.next) as (λ b. IsQuiet (if b then Stay else response.move)) [ true ↦ tt | false ↦ quiet ]

fewer_stay : (number : ℕ) (response : ResponseData) (clients : List Client) → count_by is_waiting (staying number response clients) ≤ count_by is_waiting clients
fewer_stay number response clients =
    let less = fewer_wait number clients in
    elim (closes response.answer.next) as (λ b. count_by is_waiting (if b then filter (is_other number) clients else clients) ≤ count_by is_waiting clients)
    [ true ↦ less | false ↦ omega arith ]

next_clients : (seat : ℕ) (i : Image) (e : Event) → (next_image seat i e).clients ≡ clients_after (sender_number e) (raised_of i e (transition i e)) (transition i e).response i.clients
unfolding next_image
next_clients seat i e = refl

-- each notice of an event that makes no client wait ends a client's waiting
told_less : (seat : ℕ) (i : Image) (e : Event) → Stays (transition i e)
    → length (told i e).notices + count_by is_waiting (next_image seat i e).clients ≤ count_by is_waiting i.clients
told_less seat i e quiet =
    let raised : Client → Subsystems = raised_of i e (transition i e) in
    let there : List Client = staying (sender_number e) (transition i e).response i.clients in
    let notices : length (told i e).notices ≡ length (flat_map (notice_for raised) there) = ap length (told_notices i e) in
    let waiting : count_by is_waiting (next_image seat i e).clients ≡ count_by is_waiting (moved (sender_number e) (move_of (transition i e).response) (map (notified raised) there)) =
    ap (count_by is_waiting) (next_clients seat i e) in
    let went = moved_less (sender_number e) (move_of (transition i e).response) (map (notified raised) there) (quiet_so (transition i e).response quiet) in
    let less = all_less raised there in
    let fewer = fewer_stay (sender_number e) (transition i e).response i.clients in
    omega (arith, notices, waiting, went, less, fewer)

none_of : (n m : ℕ) → length (notices_in (map (λ (h : LogEntry). h.told) (take n []))) ≤ m
none_of zero m = omega arith
none_of (suc n) m = omega arith

-- the notices of the first entries of a list
pub few_entries : (seat client : ℕ) (form : ListForm) (n place : ℕ) (i : Image) (answered : List Answered)
    → length (notices_in (map (λ (h : LogEntry). h.told) (take n (entries_of seat i client form place answered)))) ≤ count_by is_waiting i.clients
unfolding entries_of
few_entries seat client form zero place i answered = omega arith
few_entries seat client form (suc n) place i [] = omega arith
few_entries seat client form (suc n) place i (a ∷ more) =
    let event : Event = Line client (InList form place) a.0 a.1 in
    let next : Image = next_image seat i event in
    let less = told_less seat i event (line_stays form place (overview i) (part_at (index_at i event) i.parts) i.shared.library (sender_in i.clients event) client a.0 a.1) in
    let rest : List LogEntry = if ends_list (told i event) then [] else entries_of seat next client form (place + 1) more in
    let few : length (notices_in (map (λ (h : LogEntry). h.told) (take n rest))) ≤ count_by is_waiting next.clients =
    elim (ends_list (told i event))
    as (λ b. length (notices_in (map (λ (h : LogEntry). h.told) (take n (if b then [] else entries_of seat next client form (place + 1) more)))) ≤ count_by is_waiting next.clients)
    [ true ↦ none_of n (count_by is_waiting next.clients) | false ↦ few_entries seat client form n (place + 1) next more ] in
    let long = length-append (told i event).notices (notices_in (map (λ (h : LogEntry). h.told) (take n rest))) in
    omega (arith, less, few, long)

-- those that wait are no more than all
pub few_wait : (clients : List Client) → count_by is_waiting clients ≤ length clients
few_wait [] = omega arith
few_wait (k ∷ ks) =
    let rest = few_wait ks in
    let more = one_more k ks in
    let first : room_for k ≤ 1 = elim (is_waiting k) as (λ b. (if b then 1 else 0) ≤ 1) [ true ↦ omega arith | false ↦ omega arith ] in
    omega (arith, rest, more, first)
