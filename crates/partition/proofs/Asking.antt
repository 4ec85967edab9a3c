-- Which events make a client wait, or tell it what changed: `idle` alone.
use Rattle.std.proofs.Common.{◌≡◌, ◌⊎◌, inl, inr, ℕ, zero, suc, ◌==◌, Bool, true, false, not, ◌&&◌, codes, nat_lt, nat_le, List, [], ◌∷◌, Option, Some, None, is_some, option_map, length, refl, ap, sym, ◌∙◌, if◌then◌else◌}
use Rattle.std.specs.Prelude.{insert}
use Rattle.std.specs.List.{list_any, position_or_len}
use Rattle.std.proofs.lemmas.Bool.{eqb-true}
use Rattle.idle_notes.specs.declared.sets.Subsystems.{Subsystems}
use Rattle.idle_notes.specs.Notes.{everything, fresh, waits, cancelled, noted, notice_of, due}
use Rattle.mpd_text.specs.declared.songs.song.TagName.{TagName}
use Rattle.idle_notes.specs.Sets.{is_nonempty}
use Rattle.player_state.specs.declared.state.Library.{Library}
use Rattle.mpd_command.specs.declared.command.Command.{Command}
use Rattle.mpd_command.specs.declared.command.Command.TheVariants as command_group
use Rattle.mpd_command.specs.declared.status.StatusCommand.TheVariants as status_command
use Rattle.mpd_command.specs.declared.name.Name.{Name}
use Rattle.mpd_command.specs.declared.request.Request.{Request}
use Rattle.mpd_command.specs.declared.request.Request.TheVariants.{Run, Refused}
use Rattle.player_events.specs.declared.event.Event.{Event}
use Rattle.player_events.specs.declared.event.Event.TheVariants.{Connect, Disconnect, Line, ScanQuestion, ScanResult, Want, Have, Failed, OutputTurn, End}
use Rattle.player_state.specs.declared.effect.AudioStep.TheVariants.{Settles}
use Rattle.player_state.specs.Outputs.{is_output}
use Rattle.transitions.specs.declared.reply.Move.{Move}
use Rattle.transitions.specs.declared.reply.Move.TheVariants.{Stay, Wait, Learn, Resume, Join, Show, Enter}
use Rattle.transitions.specs.declared.asked.ListPlace.{ListPlace}
use Rattle.transitions.specs.declared.asked.ListPlace.TheVariants.{Alone, InList}
use Rattle.player_state.specs.declared.state.Client.{Client}
use Rattle.player_state.specs.declared.state.Part.{Part}
use Rattle.transitions.specs.Answers.{Answer, ResponseData, refused_by_shelf, refuses, disconnects, stays, succeeds, tells, closes}
use Rattle.transitions.specs.Shelves.{is_written}
use Rattle.transitions.specs.declared.shelf_calls.StoreReply.{StoreReply}
use Rattle.shelf.specs.declared.faults.ShelfFault.{ShelfFault}
use Rattle.connected_clients.specs.Clients.{entered, notified, at, moved, move_of, newcomer, shown}
use Rattle.status_commands.specs.Connection.{choice_of}
use Rattle.status_commands.specs.Status.{Wish, ToWait, ToGoOn, ToShow, idles, resumes, wish_of}
use Rattle.transitions.specs.Transitions.{TransitionData}
use Rattle.connected_clients.specs.Clients.{client_of}
use Rattle.partition.specs.Image.{Overview}
use Rattle.partition.specs.Step.{absent, asked_by, ends_by, failure, greeting, have, once_written, output_turn, response_to_new, sender_in, transition_of, transition_line, transition_run, transition_there, transition_wished, want, written_transition}
use Rattle.mpd_command.specs.declared.partitions.PartitionCommand.{PartitionCommand}
use Rattle.mpd_command.specs.declared.partitions.PartitionCommand.TheVariants.{DelPartition, ListPartitions, MoveOutput, NewPartition, Partition}
use Rattle.mpd_text.specs.declared.answers.answer.ErrorNumber.TheVariants.{Argument, Exist, System}
use Rattle.partition_table.specs.Openings.{OpeningsData}
use Rattle.partition_table.specs.Parts.{Known, free_index, holder, named}
use Rattle.partition_table.specs.declared.crossing.Crossing.TheVariants.{Closes, Brings}
use Rattle.partition_commands.specs.Partitions.{Seated, begins, brings, by_name, done, ends, goes, is_partition_name, is_used, lines_of_names, moves, names_in, output_named, planned, refused}
use Rattle.transitions.specs.CommandResults.{bad_name, shows}
use Rattle.transitions.specs.declared.asked.Asked.{Asked}
use Rattle.transitions.specs.declared.shelf_calls.Read.{Read}
use Rattle.status_commands.specs.Connection.{result_of as connection_result}
use Rattle.library_commands.specs.Database.{result_of as database_result}
use Rattle.status_commands.specs.Options.{result_of as options_result}
use Rattle.queue_commands.specs.Playback.{result_of as playback_result}
use Rattle.status_commands.specs.Outputs.{result_of as outputs_result}
use Rattle.queue_commands.specs.Queue.{result_of as queue_result}
use Rattle.status_commands.specs.Messages.{result_of as messages_result}
use Rattle.library_commands.specs.Playlists.{result_of as playlists_result}
use Rattle.library_commands.specs.Stickers.{result_of as stickers_result}
use Rattle.status_commands.specs.Status.{result_of as status_result}
use Rattle.player_events.specs.Events.{name_of}
use Rattle.transitions.specs.Transitions.{acts, crosses, departs, enters, quiet, transition_by}
use Rattle.partition.specs.World.{is_learning}
use Rattle.partition.specs.Notices.{IsIn}
use Rattle.partition.proofs.Members.{of_map}
use Rattle.partition.proofs.Sends.{does}

-- a move by which a client neither begins to wait nor is told
abbrev pub Quiet : Move → Type 0
Quiet Stay = Unit {0}
Quiet (Wait names) = ⊥
Quiet Learn = ⊥
Quiet Resume = Unit {0}
Quiet Join = Unit {0}
Quiet (Show tags) = Unit {0}
Quiet (Enter index) = Unit {0}

pub quiet_unheard : (move : Move) → Quiet move → is_learning move ≡ true → ⊥
quiet_unheard Stay q e = cc
quiet_unheard (Wait names) q e = q
quiet_unheard Learn q e = q
quiet_unheard Resume q e = cc
quiet_unheard Join q e = cc
quiet_unheard (Show tags) q e = cc
quiet_unheard (Enter index) q e = cc

pub quiet_unwaiting : (move : Move) (names : Subsystems) → Quiet move → move ≡ Wait names → ⊥
quiet_unwaiting Stay names q e = cc
quiet_unwaiting (Wait more) names q e = q
quiet_unwaiting Learn names q e = q
quiet_unwaiting Resume names q e = cc
quiet_unwaiting Join names q e = cc
quiet_unwaiting (Show tags) names q e = cc
quiet_unwaiting (Enter index) names q e = cc

-- an answer to a client that makes no move
quiet_stays : (answer : Answer) → Quiet (move_of (stays answer))
quiet_stays answer = elim (closes answer.next) as (λ b. Quiet (if b then Stay else Stay)) [ true ↦ tt | false ↦ tt ]

-- nor does one that is shown other tags
quiet_shown : (answer : Answer) (tags : List TagName) → Quiet (move_of (record { answer = answer; move = Show tags }))
quiet_shown answer tags = elim (closes answer.next) as (λ b. Quiet (if b then Stay else Show tags)) [ true ↦ tt | false ↦ tt ]

quiet_if : (b : Bool) (x y : TransitionData) → Quiet (move_of x.response) → Quiet (move_of y.response) → Quiet (move_of (if b then x else y).response)
quiet_if true x y p q = p
quiet_if false x y p q = q

quiet_response : (b : Bool) (x y : ResponseData) → Quiet (move_of x) → Quiet (move_of y) → Quiet (move_of (if b then x else y))
quiet_response true x y p q = p
quiet_response false x y p q = q

quiet_resumes : (client : Client) → Quiet (move_of (resumes client))
quiet_resumes client = quiet_response (is_some client.pending.waiting) (record { answer = tells (codes "OK\n"); move = Resume }) (stays (tells (codes ""))) tt tt

quiet_refusal : (list_place : ListPlace) (name : Option Name) (fault : ShelfFault) → Quiet (move_of (stays (refused_by_shelf list_place name fault)))
quiet_refusal list_place name fault = quiet_stays (refused_by_shelf list_place name fault)

-- a transition that writes to the shelf is as quiet as it would be else
quiet_written : (list_place : ListPlace) (request : Request) (refused : Option ShelfFault) (t : TransitionData) → Quiet (move_of t.response) → Quiet (move_of (written_transition list_place request refused t).response)
quiet_written list_place request refused t q =
    elim (is_written t.written) as (λ b. Quiet (move_of (if b then once_written list_place request refused t else t).response)) [
      | true ↦ elim refused as (λ r. Quiet (move_of (once_written list_place request r t).response)) [ None ↦ q | Some fault ↦ quiet_refusal list_place (name_of request) fault ]
      | false ↦ q
    ]

-- a client that is there and does not wait asks by `idle`, alone in its line
pub record IsAsking (clients : List Client) (event : Event) : Type 0 where
  pub number : ℕ
  pub named : Subsystems
  pub name : Name
  pub command : Command
  pub client : Client
  pub heard : StoreReply
  pub is : event ≡ Line number Alone (Run name command) heard
  pub wish : wish_of command ≡ Some (ToWait named)
  pub found : client_of number clients ≡ Some client
  pub free : client.pending.waiting ≡ None

-- of all commands `idle` alone is a wish to wait
pub wish_is : (command : Command) (named : Subsystems) → wish_of command ≡ Some (ToWait named) → command ≡ command_group.Status (status_command.Idle named)
wish_is (command_group.Status (status_command.Idle more)) named e = cc
wish_is (command_group.Connection it) named e =
    let cases : (o : Option (List TagName → List TagName)) → option_map ToShow o ≡ Some (ToWait named) → ⊥ =
    λ o. elim o as (λ o. option_map ToShow o ≡ Some (ToWait named) → ⊥) [ None ↦ λ h. cc | Some choice ↦ λ h. cc ] in
    absurd (cases (choice_of it) e)
wish_is _ named e = cc

-- what a client that does not wait is answered when it asks
abbrev pub transition_idle : Client → Subsystems → TransitionData
transition_idle client named = quiet (idles named (notice_of (waits named client.pending)))

-- a command of partitions makes a client go at most
quiet_named : (asked : Asked) (name : List ℕ) (t : TransitionData) → Quiet (move_of t.response) → Quiet (move_of (by_name asked name t).response)
quiet_named asked name t q = quiet_if (is_partition_name name) t (transition_by (bad_name asked name)) q (quiet_stays (bad_name asked name).answer)

quiet_goes : (asked : Asked) (own : ℕ) (found : Option ℕ) → Quiet (move_of (goes asked own found).response)
quiet_goes asked own None = tt
quiet_goes asked own (Some to) = quiet_if (to == own) (done asked) (enters asked to) tt tt

quiet_begins : (fs : List Known) (openings : OpeningsData) (asked : Asked) (name : List ℕ) (index : Option ℕ) → Quiet (move_of (begins fs openings asked name index).response)
quiet_begins fs openings asked name None = tt
quiet_begins fs openings asked name (Some index) = tt

quiet_ends : (fs : List Known) (ks : List Seated) (asked : Asked) (found : Option ℕ) → Quiet (move_of (ends fs ks asked found).response)
quiet_ends fs ks asked None = tt
quiet_ends fs ks asked (Some index) =
    let used : TransitionData = refused asked System (codes "partition is in use") in
    let closes_it : TransitionData = crosses asked (Closes index) in
    quiet_if (index == 0) (refused asked Argument (codes "partition is the default")) (if is_used fs ks index then used else closes_it) tt
    (quiet_if (is_used fs ks index) used closes_it tt tt)

quiet_brings : (asked : Asked) (output own : ℕ) (found : Option ℕ) → Quiet (move_of (brings asked output own found).response)
quiet_brings asked output own None = tt
quiet_brings asked output own (Some index) = quiet_if (index == own) (done asked) (crosses asked (Brings output own)) tt tt

quiet_moves : (fs : List Known) (asked : Asked) (own : ℕ) (found : Option ℕ) → Quiet (move_of (moves fs asked own found).response)
quiet_moves fs asked own None = tt
quiet_moves fs asked own (Some output) = quiet_brings asked output own (holder output fs)

quiet_planned : (fs : List Known) (ks : List Seated) (openings : OpeningsData) (asked : Asked) (own : ℕ) (command : PartitionCommand)
    → Quiet (move_of (planned fs ks openings asked own command).response)
unfolding planned
quiet_planned fs ks openings asked own (DelPartition name) = quiet_named asked name (ends fs ks asked (named name fs)) (quiet_ends fs ks asked (named name fs))
quiet_planned fs ks openings asked own ListPartitions = quiet_stays (shows asked (lines_of_names (names_in fs))).answer
quiet_planned fs ks openings asked own (MoveOutput name) = quiet_moves fs asked own (output_named name fs)
quiet_planned fs ks openings asked own (NewPartition name) =
    let index : Option ℕ = if nat_le 16 (length fs) then None else free_index fs in
    let exists : TransitionData = refused asked Exist (codes "partition exists") in
    let new : TransitionData = begins fs openings asked name index in
    quiet_named asked name (if is_some (named name fs) then exists else new) (quiet_if (is_some (named name fs)) exists new tt (quiet_begins fs openings asked name index))
quiet_planned fs ks openings asked own (Partition name) = quiet_named asked name (goes asked own (named name fs)) (quiet_goes asked own (named name fs))

-- every command that is run, except for the wishes, makes a client go at most
quiet_run : (o : Overview) (asked : Asked) (part : Part) (library : Library) (read : Read) (command : Command) → Quiet (move_of (transition_run o asked part library read command).response)
quiet_run o asked part library read (command_group.Status command) = quiet_stays (status_result asked part library command).answer
quiet_run o asked part library read (command_group.Options command) = quiet_stays (options_result asked part command).answer
quiet_run o asked part library read (command_group.Playback command) = quiet_stays (playback_result asked part library command).answer
quiet_run o asked part library read (command_group.Queue command) = quiet_stays (queue_result asked part library command).answer
quiet_run o asked part library read (command_group.Playlists command) = quiet_stays (playlists_result asked part library read command).answer
quiet_run o asked part library read (command_group.Database command) = quiet_stays (database_result asked part library read command).answer
quiet_run o asked part library read (command_group.Stickers command) = quiet_stays (stickers_result asked library read command).answer
quiet_run o asked part library read (command_group.Connection command) = quiet_stays (connection_result asked command).answer
quiet_run o asked part library read (command_group.Outputs command) = quiet_stays (outputs_result asked part command).answer
quiet_run o asked part library read (command_group.Messages command) = quiet_stays (messages_result asked part command).answer
quiet_run o asked part library read (command_group.Partitions command) = quiet_planned o.parts o.clients o.openings asked part.index command

quiet_there : (o : Overview) (asked : Asked) (part : Option Part) (library : Library) (read : Read) (command : Command) → Quiet (move_of (transition_there o asked part library read command).response)
quiet_there o asked None library read command = tt
quiet_there o asked (Some part) library read command = quiet_run o asked part library read command

module _ (o : Overview) (part : Option Part) (library : Library) (heard : StoreReply) (clients : List Client) (number : ℕ) (k : Client) (is_there : client_of number clients ≡ Some k) where
  -- a line of a client that is there: it is closed, or this is done
  abbrev line : Bool → TransitionData → TransitionData
  line ends done = if is_some k.pending.waiting && not ends then departs k.number else done

  quiet_line : (ends : Bool) (done : TransitionData) → Quiet (move_of done.response) → Quiet (move_of (line ends done).response)
  quiet_line ends done q = quiet_if (is_some k.pending.waiting && not ends) (departs k.number) done tt q

  module _ (name : Name) (command : Command) where
    abbrev run : ListPlace → Option Wish → TransitionData
    run list_place wish = transition_wished (asked_by k name list_place) k (transition_there o (asked_by k name list_place) part library heard.read command) wish

    abbrev Kind : ListPlace → Option Wish → Type 0
    Kind list_place wish = Quiet (move_of (line (ends_by list_place wish) (run list_place wish)).response) ⊎ IsAsking clients (Line number list_place (Run name command) heard)

    asking : (named : Subsystems) → wish_of command ≡ Some (ToWait named) → Kind Alone (Some (ToWait named))
    asking named e =
        let cases : (w : Option Subsystems) → k.pending.waiting ≡ w → Kind Alone (Some (ToWait named)) =
        λ w. elim w as (λ w. k.pending.waiting ≡ w → Kind Alone (Some (ToWait named))) [
          | None ↦ λ free. inr (record { number = number; named = named; name = name; command = command; client = k; heard = heard; is = refl; wish = e; found = is_there; free = free })
          | Some more ↦ λ waits_more. inl (rw waits_more tt)
        ] in
        cases k.pending.waiting refl

    shows_quietly : (list_place : ListPlace) (choice : List TagName → List TagName) → Quiet (move_of (run list_place (Some (ToShow choice))).response)
    shows_quietly list_place choice = quiet_shown (succeeds list_place (codes "")) (choice k.tags)

    kind_of_wish : (list_place : ListPlace) (wish : Option Wish) → wish_of command ≡ wish → Kind list_place wish
    kind_of_wish list_place None e = inl (quiet_line (ends_by list_place None) (run list_place None) (quiet_there o (asked_by k name list_place) part library heard.read command))
    kind_of_wish Alone (Some (ToWait named)) e = asking named e
    kind_of_wish Alone (Some ToGoOn) e = inl (quiet_line true (run Alone (Some ToGoOn)) (quiet_resumes k))
    kind_of_wish Alone (Some (ToShow choice)) e = inl (quiet_line false (run Alone (Some (ToShow choice))) (shows_quietly Alone choice))
    kind_of_wish (InList form number_in_list) (Some (ToWait named)) e = inl (quiet_line false (run (InList form number_in_list) (Some (ToWait named))) tt)
    kind_of_wish (InList form number_in_list) (Some ToGoOn) e = inl (quiet_line false (run (InList form number_in_list) (Some ToGoOn)) tt)
    kind_of_wish (InList form number_in_list) (Some (ToShow choice)) e =
        inl (quiet_line false (run (InList form number_in_list) (Some (ToShow choice))) (shows_quietly (InList form number_in_list) choice))

  kind_of_line : (list_place : ListPlace) (request : Request) → Quiet (move_of (transition_line o part library (Some k) list_place request heard.read).response) ⊎ IsAsking clients (Line number list_place request heard)
  kind_of_line Alone (Run name command) = kind_of_wish name command Alone (wish_of command) refl
  kind_of_line (InList form number_in_list) (Run name command) = kind_of_wish name command (InList form number_in_list) (wish_of command) refl
  kind_of_line Alone (Refused ack) = inl (quiet_line false (quiet (stays (refuses Alone ack.command ack.number ack.text))) tt)
  kind_of_line (InList form number_in_list) (Refused ack) = inl (quiet_line false (quiet (stays (refuses (InList form number_in_list) ack.command ack.number ack.text))) tt)

quiet_turn : (part : Option Part) (output written discarded : ℕ) (failed : Bool) → Quiet (move_of (output_turn part output (Settles output written discarded failed)).response)
quiet_turn None output written discarded failed = tt
quiet_turn (Some part) output written discarded failed = quiet_if (is_output part.outputs output) (acts (Settles output written discarded failed)) absent tt tt

quiet_want : (ended : Bool) (part : Option Part) (owes : List Bool) → Quiet (move_of (want ended part owes).response)
quiet_want ended None owes = tt
quiet_want ended (Some part) owes = tt

quiet_have : (ended : Bool) (part : Option Part) (number frames : ℕ) → Quiet (move_of (have ended part number frames).response)
quiet_have ended None number frames = tt
quiet_have ended (Some part) number frames = tt

quiet_failure : (part : Option Part) (number : ℕ) (of_partner : Bool) → Quiet (move_of (failure part number of_partner).response)
quiet_failure None number of_partner = tt
quiet_failure (Some part) number of_partner = tt

quiet_new : (clients : List Seated) (client : Option Client) → Quiet (move_of (response_to_new clients client))
quiet_new clients None = quiet_response (nat_le 64 (length clients)) (stays disconnects) greeting tt tt
quiet_new clients (Some client) = tt

-- each event makes a quiet move, or is `idle`
pub kind_of : (o : Overview) (part : Option Part) (library : Library) (clients : List Client) (event : Event)
    → Quiet (move_of (transition_of o part library (sender_in clients event) event).response) ⊎ IsAsking clients event
kind_of o part library clients (Connect number) = inl (quiet_new o.clients (client_of number clients))
kind_of o part library clients (Disconnect number) = inl tt
kind_of o part library clients ScanQuestion = inl tt
kind_of o part library clients (ScanResult songs second) = inl tt
kind_of o part library clients (Want index owes) = inl (quiet_want o.ended part owes)
kind_of o part library clients (Have index number frames) = inl (quiet_have o.ended part number frames)
kind_of o part library clients (Failed index number of_partner) = inl (quiet_failure part number of_partner)
kind_of o part library clients End = inl tt
kind_of o part library clients (OutputTurn output written discarded failed) = inl (quiet_turn part output written discarded failed)
kind_of o part library clients (Line number list_place request heard) =
    let Kind : Option Client → Type 0 = λ c. Quiet (move_of (transition_line o part library c list_place request heard.read).response) ⊎ IsAsking clients (Line number list_place request heard) in
    let cases : (c : Option Client) → client_of number clients ≡ c → Kind c =
    λ c. elim c as (λ c. client_of number clients ≡ c → Kind c) [ None ↦ λ e. inl tt | Some k ↦ λ e. kind_of_line o part library heard clients number k e list_place request ] in
    elim (cases (client_of number clients) refl) [
      | inl q ↦ inl (quiet_written list_place request heard.refused (transition_line o part library (client_of number clients) list_place request heard.read) q)
      | inr a ↦ inr a
    ]

-- a client that is found is one of them, and has the number
pub is_found : (number : ℕ) (k : Client) (ks : List Client) → client_of number ks ≡ Some k → IsIn k ks × (k.number ≡ number)
is_found number k [] e = cc
is_found number k (c ∷ cs) e =
    let cases : (b : Bool) → (c.number == number) ≡ b → (if b then Some c else client_of number cs) ≡ Some k → IsIn k (c ∷ cs) × (k.number ≡ number) =
    λ b. elim b as (λ b. (c.number == number) ≡ b → (if b then Some c else client_of number cs) ≡ Some k → IsIn k (c ∷ cs) × (k.number ≡ number)) [
      | true ↦ λ t h. (let same : c ≡ k = cc in (inl same, ap (λ (x : Client). x.number) (sym same) ∙ eqb-true c.number number t))
      | false ↦ λ t h. (let rest = is_found number k cs h in (inr rest.0, rest.1))
    ] in
    cases (c.number == number) refl e

pub of_any : {A : Type 0} (p : A → Bool) (xs : List A) → list_any p xs ≡ true → (x : A) × IsIn x xs × (p x ≡ true)
of_any p [] e = cc
of_any p (z ∷ zs) e =
    let cases : (b : Bool) → p z ≡ b → list_any p (z ∷ zs) ≡ true → (x : _) × IsIn x (z ∷ zs) × (p x ≡ true) =
    λ b. elim b as (λ b. p z ≡ b → list_any p (z ∷ zs) ≡ true → (x : _) × IsIn x (z ∷ zs) × (p x ≡ true)) [
      | true ↦ λ t h. (z, inl refl, t)
      | false ↦ λ t h. (let rest = of_any p zs (rw t at h) in (rest.0, inr rest.1, rest.2))
    ] in
    cases (p z) refl e

module _ (n : ℕ) (r : Client → Subsystems) where
  pub notified_some : (k : Client) (named : Subsystems) → (notified r k).pending.waiting ≡ Some named → k.pending.waiting ≡ Some named
  notified_some k named =
      elim (is_nonempty (due (noted (r k) k.pending))) as (λ b. (if b then fresh else noted (r k) k.pending).waiting ≡ Some named → k.pending.waiting ≡ Some named)
      [ true ↦ λ e. cc | false ↦ λ e. e ]

  -- a client that waits after its move waited before it, or begins to
  pub does_some : (move : Move) (k : Client) (named : Subsystems) → (does n r move k).pending.waiting ≡ Some named
      → (k.pending.waiting ≡ Some named) ⊎ ((move ≡ Wait named) × (k.number ≡ n))
  does_some Stay k named e = inl e
  does_some (Wait names) k named e =
      let cases : (b : Bool) → (k.number == n) ≡ b → (if b then record k { pending = waits names k.pending } else k).pending.waiting ≡ Some named
      → (k.pending.waiting ≡ Some named) ⊎ ((Wait names ≡ Wait named) × (k.number ≡ n)) =
      λ b. elim b as (λ b. (k.number == n) ≡ b → (if b then record k { pending = waits names k.pending } else k).pending.waiting ≡ Some named
      → (k.pending.waiting ≡ Some named) ⊎ ((Wait names ≡ Wait named) × (k.number ≡ n))) [
        | true ↦ λ t h. (let same : names ≡ named = cc in inr (ap Wait same, eqb-true k.number n t))
        | false ↦ λ t h. inl h
      ] in
      cases (k.number == n) refl e
  does_some Learn k named e =
      elim (k.number == n) as (λ b. (if b then record k { pending = fresh } else k).pending.waiting ≡ Some named → (k.pending.waiting ≡ Some named) ⊎ ((Learn ≡ Wait named) × (k.number ≡ n)))
      [ true ↦ λ h. cc | false ↦ λ h. inl h ] e
  does_some Resume k named e =
      elim (k.number == n) as (λ b. (if b then record k { pending = cancelled k.pending } else k).pending.waiting ≡ Some named → (k.pending.waiting ≡ Some named) ⊎ ((Resume ≡ Wait named) × (k.number ≡ n)))
      [ true ↦ λ h. cc | false ↦ λ h. inl h ] e
  does_some Join k named e = inl e
  does_some (Show tags) k named e =
      elim (k.number == n) as (λ b. (if b then record k { tags = tags } else k).pending.waiting ≡ Some named → (k.pending.waiting ≡ Some named) ⊎ ((Show tags ≡ Wait named) × (k.number ≡ n)))
      [ true ↦ λ h. inl h | false ↦ λ h. inl h ] e
  does_some (Enter index) k named e =
      elim (k.number == n) as (λ b. (if b then record k { index = index; pending = everything } else k).pending.waiting ≡ Some named → (k.pending.waiting ≡ Some named) ⊎ ((Enter index ≡ Wait named) × (k.number ≡ n)))
      [ true ↦ λ h. cc | false ↦ λ h. inl h ] e

  of_insert : (k new : Client) (xs : List Client) (index : ℕ) → IsIn k (insert xs index new) → IsIn k xs ⊎ (new ≡ k)
  of_insert k new [] zero (inl e) = inr e
  of_insert k new [] zero (inr e) = absurd e
  of_insert k new [] (suc index) (inl e) = inr e
  of_insert k new [] (suc index) (inr e) = absurd e
  of_insert k new (x ∷ xs) zero (inl e) = inr e
  of_insert k new (x ∷ xs) zero (inr e) = inl e
  of_insert k new (x ∷ xs) (suc index) (inl e) = inl (inl e)
  of_insert k new (x ∷ xs) (suc index) (inr e) = elim (of_insert k new xs index e) [ inl l ↦ inl (inr l) | inr l ↦ inr l ]

  -- a client that waits after a move is one of those before it
  pub of_moved : (move : Move) (k : Client) (ks : List Client) (named : Subsystems) → IsIn k (moved n move ks) → k.pending.waiting ≡ Some named
      → (c : Client) × IsIn c ks × (does n r move c ≡ k)
  of_moved Stay k ks named e w = (k, e, refl)
  of_moved (Wait names) k ks named e w = of_map (at n (waits names)) k ks e
  of_moved Learn k ks named e w = of_map (at n (λ p. fresh)) k ks e
  of_moved Resume k ks named e w = of_map (at n cancelled) k ks e
  of_moved (Show tags) k ks named e w = of_map (shown n tags) k ks e
  of_moved (Enter index) k ks named e w = of_map (entered n index) k ks e
  of_moved Join k ks named e w =
      let index : ℕ = position_or_len (λ c. nat_lt n c.number) ks in
      let new : Client = newcomer n in
      elim (is_some (client_of n ks)) as (λ b. IsIn k (if b then ks else insert ks index new) → (c : Client) × IsIn c ks × (c ≡ k)) [
        | true ↦ λ h. (k, h, refl)
        | false ↦ λ h. elim (of_insert k new ks index h) [
          | inl old ↦ (k, old, refl)
          | inr same ↦ (let clash : None ≡ Some named = ap (λ (c : Client). c.pending.waiting) same ∙ w in cc)
        ]
      ] e
