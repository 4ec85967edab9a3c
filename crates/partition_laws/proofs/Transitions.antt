-- What an event can make: an answer alone, a wish of its client, or what passes between partitions.
use Rattle.std.proofs.Common.{◌≡◌, ◌⊎◌, inl, inr, ℕ, ◌==◌, Bool, true, false, not, ◌&&◌, ◌||◌, codes, nat_le, List, [], ◌∷◌, length, Option, Some, None, is_some, refl, ap, sym, ◌∙◌, subst, if◌then◌else◌}
use Rattle.idle_notes.specs.declared.sets.Subsystems.{Subsystems}
use Rattle.idle_notes.specs.Notes.{notice_of, waits}
use Rattle.mpd_text.specs.declared.answers.answer.ErrorNumber.{ErrorNumber}
use Rattle.mpd_text.specs.declared.answers.answer.ErrorNumber.TheVariants.{Argument, Exist, NoExist, System}
use Rattle.mpd_text.specs.declared.songs.song.TagName.{TagName}
use Rattle.mpd_command.specs.declared.command.Command.{Command}
use Rattle.mpd_command.specs.declared.command.Command.TheVariants as command
use Rattle.mpd_command.specs.declared.name.Name.{Name}
use Rattle.mpd_command.specs.declared.partitions.PartitionCommand.{PartitionCommand}
use Rattle.mpd_command.specs.declared.partitions.PartitionCommand.TheVariants.{DelPartition, ListPartitions, MoveOutput, NewPartition, Partition}
use Rattle.mpd_command.specs.declared.request.Request.{Request}
use Rattle.mpd_command.specs.declared.request.Request.TheVariants.{Run, Refused}
use Rattle.shelf.specs.declared.faults.ShelfFault.{ShelfFault}
use Rattle.player_state.specs.Outputs.{OutputsData, is_output}
use Rattle.player_state.specs.declared.effect.AudioStep.TheVariants.{Settles}
use Rattle.player_state.specs.declared.effect.Effect.TheVariants.{ByCommand}
use Rattle.player_state.specs.declared.effect.CommandEffect.TheVariants.{Rests, Leaves}
use Rattle.player_state.specs.declared.report.Report.TheVariants.{Nothing}
use Rattle.player_state.specs.declared.state.Client.{Client}
use Rattle.player_state.specs.declared.state.Library.{Library}
use Rattle.player_state.specs.declared.state.Part.{Part}
use Rattle.partition_table.specs.Openings.{OpeningsData}
use Rattle.partition_table.specs.Parts.{Known, free_index, holder, named, opening_part, report_in, shown_outputs}
use Rattle.partition_table.specs.declared.crossing.Crossing.{Crossing}
use Rattle.partition_table.specs.declared.crossing.Crossing.TheVariants.{Stays, Opens, Closes, Brings}
use Rattle.transitions.specs.Answers.{Answer, ResponseData, closes, refused_by_shelf, refuses, refuses_command, disconnects, stays, succeeds, tells}
use Rattle.transitions.specs.CommandResults.{bad_name, only}
use Rattle.transitions.specs.Shelves.{is_written}
use Rattle.transitions.specs.Transitions.{CommandResult, TransitionData, acts, crosses, departs, enters, no_response, or_ended, quiet, transition_by}
use Rattle.transitions.specs.declared.asked.Asked.{Asked}
use Rattle.transitions.specs.declared.asked.ListPlace.{ListPlace}
use Rattle.transitions.specs.declared.asked.ListPlace.TheVariants.{Alone, InList}
use Rattle.transitions.specs.declared.reply.Move.{Move}
use Rattle.transitions.specs.declared.reply.Move.TheVariants.{Stay, Wait, Resume}
use Rattle.transitions.specs.declared.shelf_calls.Read.{Read}
use Rattle.transitions.specs.declared.shelf_calls.StoreReply.{StoreReply}
use Rattle.partition_commands.specs.Partitions.{Seated, begins, brings, by_name, done, ends, goes, is_partition_name, is_used, lines_of_names, moves, names_in, output_named, outputs_elsewhere, planned, refused}
use Rattle.connected_clients.specs.Clients.{move_of}
use Rattle.player_events.specs.Events.{name_of}
use Rattle.player_events.specs.declared.event.Event.{Event}
use Rattle.player_events.specs.declared.event.Event.TheVariants.{Connect, Disconnect, Line, ScanQuestion, ScanResult, Want, Have, Failed, OutputTurn, End}
use Rattle.status_commands.specs.Connection.{result_of as connection_result}
use Rattle.library_commands.specs.Database.{result_of as database_result}
use Rattle.status_commands.specs.Options.{result_of as options_result}
use Rattle.queue_commands.specs.Playback.{result_of as playback_result}
use Rattle.status_commands.specs.Outputs.{result_of as outputs_result}
use Rattle.queue_commands.specs.Queue.{result_of as queue_result}
use Rattle.status_commands.specs.Messages.{result_of as messages_result}
use Rattle.library_commands.specs.Playlists.{result_of as playlists_result}
use Rattle.library_commands.specs.Stickers.{result_of as stickers_result}
use Rattle.status_commands.specs.Status.{Wish, ToWait, ToGoOn, ToShow, idles, resumes, wish_of, wished, result_of as status_result}
use Rattle.partition.specs.Image.{Overview}
use Rattle.partition.specs.Step.{absent, asked_by, ends_waiting, greeting, once_written, sender, transition_line, transition_of, transition_request, transition_run, transition_there, transition_wished, written_transition}
use Rattle.partition_laws.specs.Apart.{comes_to, is_of_none, passes, reaches}

-- a crossing of an event of a partition: what comes is as at its opening, and an output comes to this one
abbrev pub IsProper : OpeningsData → ℕ → Crossing → Type 0
IsProper openings own Stays = Unit {0}
IsProper openings own (Opens new) = new ≡ opening_part openings new.index new.name (shown_outputs new.outputs)
IsProper openings own (Closes gone) = Unit {0}
IsProper openings own (Brings output to) = to ≡ own

-- a move by which no client begins to wait
abbrev pub IsCalm : Move → Type 0
IsCalm (Wait names) = ⊥
IsCalm _ = Unit {0}

stays_put : (answer : Answer) → move_of (stays answer) ≡ Stay
stays_put answer = elim (closes answer.next) as (λ b. (if b then Stay else Stay) ≡ Stay) [ true ↦ refl | false ↦ refl ]

calm_stay : (move : Move) → move ≡ Stay → IsCalm move
calm_stay move e = subst IsCalm (sym e) tt

-- what the five commands of partitions make
pub record IsPlain (openings : OpeningsData) (own : ℕ) (t : TransitionData) : Type 0 where
  pub proper : IsProper openings own t.crossing
  pub unwritten : is_written t.written ≡ false
  pub calm : IsCalm (move_of t.response)
  pub silent : (rate : ℕ) (part : Option Part) → report_in rate part t.effect t.report ≡ Nothing

silent_rests : (rate : ℕ) (part : Option Part) → report_in rate part (ByCommand Rests) Nothing ≡ Nothing
silent_rests rate None = refl
silent_rests rate (Some part) = refl

silent_leaves : (client rate : ℕ) (part : Option Part) → report_in rate part (ByCommand (Leaves client)) Nothing ≡ Nothing
silent_leaves client rate None = refl
silent_leaves client rate (Some part) = refl

nothing_here : (fs : List Known) → shown_outputs (outputs_elsewhere fs) ≡ outputs_elsewhere fs
nothing_here [] = refl
nothing_here (f ∷ fs) = refl

module _ (fs : List Known) (ks : List Seated) (openings : OpeningsData) (asked : Asked) (own : ℕ) where
  abbrev Plain : TransitionData → Type 0
  Plain t = IsPlain openings own t

  plain_only : (answer : Answer) → Plain (transition_by (only answer))
  plain_only answer = record { proper = tt; unwritten = refl; calm = calm_stay (move_of (stays answer)) (stays_put answer); silent = silent_rests }

  plain_refused : (number : ErrorNumber) (text : List ℕ) → Plain (refused asked number text)
  plain_refused number text = plain_only (refuses_command asked number text)

  plain_done : Plain (done asked)
  plain_done = plain_only (succeeds asked.list_place (codes ""))

  plain_crosses : (crossing : Crossing) → IsProper openings own crossing → Plain (crosses asked crossing)
  plain_crosses crossing proper = record { proper = proper; unwritten = refl; calm = tt; silent = silent_rests }

  plain_enters : (to : ℕ) → Plain (enters asked to)
  plain_enters to = record { proper = tt; unwritten = refl; calm = tt; silent = silent_leaves asked.client }

  plain_if : (b : Bool) (x y : TransitionData) → Plain x → Plain y → Plain (if b then x else y)
  plain_if true x y p q = p
  plain_if false x y p q = q

  plain_named : (name : List ℕ) (t : TransitionData) → Plain t → Plain (by_name asked name t)
  plain_named name t p = plain_if (is_partition_name name) t (transition_by (bad_name asked name)) p (plain_only (bad_name asked name).answer)

  plain_ends : (o : Option ℕ) → Plain (ends fs ks asked o)
  plain_ends None = plain_refused NoExist (codes "no such partition")
  plain_ends (Some index) =
      let a : TransitionData = refused asked Argument (codes "partition is the default") in
      let b : TransitionData = refused asked System (codes "partition is in use") in
      let c : TransitionData = crosses asked (Closes index) in
      plain_if (index == 0) a (if is_used fs ks index then b else c) (plain_refused Argument (codes "partition is the default"))
      (plain_if (is_used fs ks index) b c (plain_refused System (codes "partition is in use")) (plain_crosses (Closes index) tt))

  plain_brings : (output : ℕ) (o : Option ℕ) → Plain (brings asked output own o)
  plain_brings output None = plain_refused NoExist (codes "no such output")
  plain_brings output (Some index) = plain_if (index == own) (done asked) (crosses asked (Brings output own)) plain_done (plain_crosses (Brings output own) refl)

  plain_moves : (o : Option ℕ) → Plain (moves fs asked own o)
  plain_moves None = plain_refused NoExist (codes "no such output")
  plain_moves (Some output) = plain_brings output (holder output fs)

  plain_begins : (name : List ℕ) (o : Option ℕ) → Plain (begins fs openings asked name o)
  plain_begins name None = plain_refused System (codes "too many partitions")
  plain_begins name (Some index) =
      plain_crosses (Opens (opening_part openings index name (outputs_elsewhere fs)))
      (ap (λ (outputs : OutputsData). opening_part openings index name outputs) (sym (nothing_here fs)))

  plain_goes : (o : Option ℕ) → Plain (goes asked own o)
  plain_goes None = plain_refused NoExist (codes "no such partition")
  plain_goes (Some to) = plain_if (to == own) (done asked) (enters asked to) plain_done (plain_enters to)

  pub plain : (it : PartitionCommand) → Plain (planned fs ks openings asked own it)
  unfolding planned
  plain (DelPartition name) = plain_named name (ends fs ks asked (named name fs)) (plain_ends (named name fs))
  plain ListPartitions = plain_only (succeeds asked.list_place (lines_of_names (names_in fs)))
  plain (MoveOutput name) = plain_moves (output_named name fs)
  plain (NewPartition name) =
      let there : Bool = is_some (named name fs) in
      let at : Option ℕ = if nat_le 16 (length fs) then None else free_index fs in
      let a : TransitionData = refused asked Exist (codes "partition exists") in
      plain_named name (if there then a else begins fs openings asked name at)
      (plain_if there a (begins fs openings asked name at) (plain_refused Exist (codes "partition exists")) (plain_begins name at))
  plain (Partition name) = plain_named name (goes asked own (named name fs)) (plain_goes (named name fs))

-- of who asks, these commands read the number alone, and how the line comes
module _ (fs : List Known) (ks : List Seated) (openings : OpeningsData) (client : ℕ) (name : Name) (list_place : ListPlace) (x y : List TagName) (own : ℕ) where
  abbrev one : Asked
  one = record { client = client; tags = x; name = name; list_place = list_place }

  abbrev two : Asked
  two = record { client = client; tags = y; name = name; list_place = list_place }

  ends_same : (o : Option ℕ) → ends fs ks one o ≡ ends fs ks two o
  ends_same None = refl
  ends_same (Some index) = refl

  brings_same : (output : ℕ) (o : Option ℕ) → brings one output own o ≡ brings two output own o
  brings_same output None = refl
  brings_same output (Some index) = refl

  moves_same : (o : Option ℕ) → moves fs one own o ≡ moves fs two own o
  moves_same None = refl
  moves_same (Some output) = brings_same output (holder output fs)

  begins_same : (own_name : List ℕ) (o : Option ℕ) → begins fs openings one own_name o ≡ begins fs openings two own_name o
  begins_same own_name None = refl
  begins_same own_name (Some index) = refl

  goes_same : (o : Option ℕ) → goes one own o ≡ goes two own o
  goes_same None = refl
  goes_same (Some to) = refl

  planned_same : (it : PartitionCommand) → planned fs ks openings one own it ≡ planned fs ks openings two own it
  unfolding planned
  planned_same (DelPartition of) = ap (λ (t : TransitionData). if is_partition_name of then t else transition_by (bad_name one of)) (ends_same (named of fs))
  planned_same ListPartitions = refl
  planned_same (MoveOutput of) = moves_same (output_named of fs)
  planned_same (NewPartition of) =
      let there : Bool = is_some (named of fs) in
      let at : Option ℕ = if nat_le 16 (length fs) then None else free_index fs in
      ap (λ (t : TransitionData). if is_partition_name of then (if there then refused one Exist (codes "partition exists") else t) else transition_by (bad_name one of)) (begins_same of at)
  planned_same (Partition of) = ap (λ (t : TransitionData). if is_partition_name of then t else transition_by (bad_name one of)) (goes_same (named of fs))

pub planned_alike : (fs : List Known) (ks : List Seated) (openings : OpeningsData) (k l : Client) (name : Name) (list_place : ListPlace) (own : ℕ) (it : PartitionCommand)
    → k.number ≡ l.number → planned fs ks openings (asked_by k name list_place) own it ≡ planned fs ks openings (asked_by l name list_place) own it
planned_alike fs ks openings k l name list_place own it e =
    ap (λ n. planned fs ks openings (record { client = n; tags = k.tags; name = name; list_place = list_place }) own it) e
    ∙ planned_same fs ks openings l.number name list_place k.tags l.tags own it

-- an answer and nothing that passes between partitions
abbrev pub Answers : TransitionData → Type 0
Answers t = (t.crossing ≡ Stays) × (move_of t.response ≡ Stay)

-- a wish of the client
abbrev pub Wishes : Client → ListPlace → TransitionData → Type 0
Wishes k list_place t = (name : Name) × (wish : Wish) × (t ≡ quiet (wished (asked_by k name list_place) k wish))

-- one of the five commands of partitions
abbrev pub Plans : Overview → Client → Part → ListPlace → Request → TransitionData → Type 0
Plans o k part list_place request t =
    (name : Name) × (it : PartitionCommand) × (request ≡ Run name (command.Partitions it)) × (t ≡ planned o.parts o.clients o.openings (asked_by k name list_place) part.index it)

-- a line of a client that is there, in a partition that is
module _ (o : Overview) (library : Library) (k : Client) (part : Part) (list_place : ListPlace) (read : Read) where
  abbrev pub Kind : Request → TransitionData → Type 0
  Kind request t = Answers t ⊎ (Wishes k list_place t ⊎ Plans o k part list_place request t)

  by_result : (r : CommandResult) → Answers (transition_by r)
  by_result r = (refl, stays_put r.answer)

  run_kind : (name : Name) (c : Command) → Kind (Run name c) (transition_run o (asked_by k name list_place) part library read c)
  run_kind name (command.Status it) = inl (by_result (status_result (asked_by k name list_place) part library it))
  run_kind name (command.Options it) = inl (by_result (options_result (asked_by k name list_place) part it))
  run_kind name (command.Playback it) = inl (by_result (playback_result (asked_by k name list_place) part library it))
  run_kind name (command.Queue it) = inl (by_result (queue_result (asked_by k name list_place) part library it))
  run_kind name (command.Playlists it) = inl (by_result (playlists_result (asked_by k name list_place) part library read it))
  run_kind name (command.Database it) = inl (by_result (database_result (asked_by k name list_place) part library read it))
  run_kind name (command.Stickers it) = inl (by_result (stickers_result (asked_by k name list_place) library read it))
  run_kind name (command.Connection it) = inl (by_result (connection_result (asked_by k name list_place) it))
  run_kind name (command.Outputs it) = inl (by_result (outputs_result (asked_by k name list_place) part it))
  run_kind name (command.Messages it) = inl (by_result (messages_result (asked_by k name list_place) part it))
  run_kind name (command.Partitions it) = inr (inr (name, it, refl, refl))

  wished_kind : (name : Name) (c : Command) (w : Option Wish) → Kind (Run name c) (transition_wished (asked_by k name list_place) k (transition_there o (asked_by k name list_place) (Some part) library read c) w)
  wished_kind name c None = run_kind name c
  wished_kind name c (Some wish) = inr (inl (name, wish, refl))

  request_kind : (request : Request) → Kind request (transition_request o (Some part) library k list_place request read)
  request_kind (Run name c) = wished_kind name c (wish_of c)
  request_kind (Refused ack) = inl (refl, stays_put (refuses list_place ack.command ack.number ack.text))

  in_kind : (request : Request) → Kind request (transition_line o (Some part) library (Some k) list_place request read)
  in_kind request =
      let line : TransitionData = transition_request o (Some part) library k list_place request read in
      elim (is_some k.pending.waiting && not (ends_waiting list_place request)) as (λ b. Kind request (if b then departs k.number else line))
      [ true ↦ inl (refl, refl) | false ↦ request_kind request ]

  written_answers : (request : Request) (fault : Option ShelfFault) (t : TransitionData) → Answers t → Answers (written_transition list_place request fault t)
  written_answers request fault t a =
      elim (is_written t.written) as (λ b. Answers (if b then once_written list_place request fault t else t)) [
        | true ↦ elim fault as (λ f. Answers (once_written list_place request f t)) [ None ↦ (refl, a.1) | Some f ↦ (refl, stays_put (refused_by_shelf list_place (name_of request) f)) ]
        | false ↦ a
      ]

  written_kind : (request : Request) (fault : Option ShelfFault) (t : TransitionData) → Kind request t → Kind request (written_transition list_place request fault t)
  written_kind request fault t (inl a) = inl (written_answers request fault t a)
  written_kind request fault t (inr (inl w)) = inr (inl (w.0, w.1, ap (written_transition list_place request fault) w.2))
  written_kind request fault t (inr (inr p)) =
      let u : TransitionData = planned o.parts o.clients o.openings (asked_by k p.0 list_place) part.index p.1 in
      let unwritten : is_written u.written ≡ false = (plain o.parts o.clients o.openings (asked_by k p.0 list_place) part.index p.1).unwritten in
      inr (inr (p.0, p.1, p.2, ap (written_transition list_place request fault) p.3 ∙ ap (λ b. if b then once_written list_place request fault u else u) unwritten))

  pub line_kind : (request : Request) (fault : Option ShelfFault) → Kind request (written_transition list_place request fault (transition_line o (Some part) library (Some k) list_place request read))
  line_kind request fault = written_kind request fault (transition_line o (Some part) library (Some k) list_place request read) (in_kind request)

-- a line of a client that is there, whose partition is not
module _ (o : Overview) (library : Library) (k : Client) (list_place : ListPlace) (read : Read) where
  abbrev pub Nowhere : TransitionData → Type 0
  Nowhere t = Answers t ⊎ Wishes k list_place t

  wished_nowhere : (name : Name) (w : Option Wish) → Nowhere (transition_wished (asked_by k name list_place) k (quiet (stays disconnects)) w)
  wished_nowhere name None = inl (refl, stays_put disconnects)
  wished_nowhere name (Some wish) = inr (name, wish, refl)

  request_nowhere : (request : Request) → Nowhere (transition_request o None library k list_place request read)
  request_nowhere (Run name c) = wished_nowhere name (wish_of c)
  request_nowhere (Refused ack) = inl (refl, stays_put (refuses list_place ack.command ack.number ack.text))

  in_nowhere : (request : Request) → Nowhere (transition_line o None library (Some k) list_place request read)
  in_nowhere request =
      let line : TransitionData = transition_request o None library k list_place request read in
      elim (is_some k.pending.waiting && not (ends_waiting list_place request)) as (λ b. Nowhere (if b then departs k.number else line))
      [ true ↦ inl (refl, refl) | false ↦ request_nowhere request ]

  answers_nowhere : (request : Request) (fault : Option ShelfFault) (t : TransitionData) → Answers t → Answers (written_transition list_place request fault t)
  answers_nowhere request fault t a =
      elim (is_written t.written) as (λ b. Answers (if b then once_written list_place request fault t else t)) [
        | true ↦ elim fault as (λ f. Answers (once_written list_place request f t)) [ None ↦ (refl, a.1) | Some f ↦ (refl, stays_put (refused_by_shelf list_place (name_of request) f)) ]
        | false ↦ a
      ]

  written_nowhere : (request : Request) (fault : Option ShelfFault) (t : TransitionData) → Nowhere t → Nowhere (written_transition list_place request fault t)
  written_nowhere request fault t (inl a) = inl (answers_nowhere request fault t a)
  written_nowhere request fault t (inr w) = inr (w.0, w.1, ap (written_transition list_place request fault) w.2)

  pub line_nowhere : (request : Request) (fault : Option ShelfFault) → Nowhere (written_transition list_place request fault (transition_line o None library (Some k) list_place request read))
  line_nowhere request fault = written_nowhere request fault (transition_line o None library (Some k) list_place request read) (in_nowhere request)

-- a wish leads to no other partition
idles_comes : (index : ℕ) (named : Subsystems) (o : Option Subsystems) → comes_to index (move_of (idles named o)) ≡ false
idles_comes index named None = refl
idles_comes index named (Some names) = refl

resumes_comes : (index : ℕ) (k : Client) → comes_to index (move_of (resumes k)) ≡ false
resumes_comes index k =
    elim (is_some k.pending.waiting) as (λ b. comes_to index (move_of (if b then record { answer = tells (codes "OK\n"); move = Resume } else stays (tells (codes "")))) ≡ false)
    [ true ↦ refl | false ↦ refl ]

wish_comes : (index : ℕ) (k : Client) (name : Name) (list_place : ListPlace) (wish : Wish) → comes_to index (move_of (wished (asked_by k name list_place) k wish)) ≡ false
wish_comes index k name Alone (ToWait names) = idles_comes index names (notice_of (waits names k.pending))
wish_comes index k name Alone ToGoOn = resumes_comes index k
wish_comes index k name Alone (ToShow choice) = refl
wish_comes index k name (InList form at) (ToWait names) = refl
wish_comes index k name (InList form at) ToGoOn = refl
wish_comes index k name (InList form at) (ToShow choice) = refl

unreached : (index : ℕ) (fs : List Known) (t : TransitionData) → t.crossing ≡ Stays → comes_to index (move_of t.response) ≡ false → reaches index fs t ≡ false
unreached index fs t stays comes =
    ap (λ b. b || passes index fs t.crossing) comes ∙ ap (passes index fs) stays

-- a line that reaches a partition is one of the five commands
pub record Reached (o : Overview) (list_place : ListPlace) (request : Request) (part : Option Part) (client : Option Client) (t : TransitionData) : Type 0 where
  pub k : Client
  pub p : Part
  pub name : Name
  pub it : PartitionCommand
  pub client_is : client ≡ Some k
  pub part_is : part ≡ Some p
  pub request_is : request ≡ Run name (command.Partitions it)
  pub is : t ≡ planned o.parts o.clients o.openings (asked_by k name list_place) p.index it

pub reached : (index : ℕ) (o : Overview) (library : Library) (part : Option Part) (client : Option Client) (list_place : ListPlace) (request : Request) (heard : StoreReply)
    → reaches index o.parts (written_transition list_place request heard.refused (transition_line o part library client list_place request heard.read)) ≡ true
    → Reached o list_place request part client (written_transition list_place request heard.refused (transition_line o part library client list_place request heard.read))
reached index o library part None list_place request heard r = cc
reached index o library None (Some k) list_place request heard r =
    let t : TransitionData = written_transition list_place request heard.refused (transition_line o None library (Some k) list_place request heard.read) in
    let R : Type 0 = Reached o list_place request None (Some k) t in
    let none : reaches index o.parts t ≡ false → R = λ e. (let clash : true ≡ false = sym r ∙ e in cc) in
    elim (line_nowhere o library k list_place heard.read request heard.refused) [
      | inl a ↦ none (unreached index o.parts t a.0 (ap (comes_to index) a.1))
      | inr w ↦ none (unreached index o.parts t (ap (λ (u : TransitionData). u.crossing) w.2) (ap (λ (u : TransitionData). comes_to index (move_of u.response)) w.2 ∙ wish_comes index k w.0 list_place w.1))
    ]
reached index o library (Some p) (Some k) list_place request heard r =
    let t : TransitionData = written_transition list_place request heard.refused (transition_line o (Some p) library (Some k) list_place request heard.read) in
    let R : Type 0 = Reached o list_place request (Some p) (Some k) t in
    let none : reaches index o.parts t ≡ false → R = λ e. (let clash : true ≡ false = sym r ∙ e in cc) in
    elim (line_kind o library k p list_place heard.read request heard.refused) [
      | inl a ↦ none (unreached index o.parts t a.0 (ap (comes_to index) a.1))
      | inr (inl w) ↦ none (unreached index o.parts t (ap (λ (u : TransitionData). u.crossing) w.2) (ap (λ (u : TransitionData). comes_to index (move_of u.response)) w.2 ∙ wish_comes index k w.0 list_place w.1))
      | inr (inr q) ↦ record { k = k; p = p; name = q.0; it = q.1; client_is = refl; part_is = refl; request_is = q.2; is = q.3 }
    ]

-- events that are no line reach no other partition
pub others_stay : (index : ℕ) (o : Overview) (part : Option Part) (library : Library) (client : Option Client) (event : Event)
    → ((number : ℕ) (list_place : ListPlace) (request : Request) (heard : StoreReply) → event ≡ Line number list_place request heard → ⊥)
    → reaches index o.parts (transition_of o part library client event) ≡ false
others_stay index o part library (Some k) (Connect number) unlined = refl
others_stay index o part library None (Connect number) unlined =
    let full : Bool = nat_le 64 (length o.clients) in
    elim full as (λ b. reaches index o.parts (quiet (if b then stays disconnects else greeting)) ≡ false) [ true ↦ refl | false ↦ refl ]
others_stay index o part library client (Disconnect number) unlined = refl
others_stay index o part library client (Line number list_place request heard) unlined = absurd (unlined number list_place request heard refl)
others_stay index o part library client ScanQuestion unlined = refl
others_stay index o part library client (ScanResult songs second) unlined = refl
others_stay index o None library client (Want at owes) unlined = refl
others_stay index o (Some part) library client (Want at owes) unlined = refl
others_stay index o None library client (Have at number frames) unlined = refl
others_stay index o (Some part) library client (Have at number frames) unlined = refl
others_stay index o None library client (Failed at number of_partner) unlined = refl
others_stay index o (Some part) library client (Failed at number of_partner) unlined = refl
others_stay index o None library client (OutputTurn output written discarded failed) unlined = refl
others_stay index o (Some part) library client (OutputTurn output written discarded failed) unlined =
    elim (is_output part.outputs output) as (λ b. reaches index o.parts (or_ended o.ended (if b then acts (Settles output written discarded failed) else absent)) ≡ false) [ true ↦ refl | false ↦ refl ]
others_stay index o part library client End unlined = refl

-- an event that comes from no client answers none
pub speechless : (o : Overview) (part : Option Part) (library : Library) (client : Option Client) (event : Event) → sender event ≡ None → (transition_of o part library client event).response ≡ no_response
speechless o part library client (Connect number) e = cc
speechless o part library client (Disconnect number) e = cc
speechless o part library client (Line number list_place request heard) e = cc
speechless o part library client ScanQuestion e = refl
speechless o part library client (ScanResult songs second) e = refl
speechless o None library client (Want at owes) e = refl
speechless o (Some part) library client (Want at owes) e = refl
speechless o None library client (Have at number frames) e = refl
speechless o (Some part) library client (Have at number frames) e = refl
speechless o None library client (Failed at number of_partner) e = refl
speechless o (Some part) library client (Failed at number of_partner) e = refl
speechless o None library client (OutputTurn output written discarded failed) e = refl
speechless o (Some part) library client (OutputTurn output written discarded failed) e =
    elim (is_output part.outputs output) as (λ b. (or_ended o.ended (if b then acts (Settles output written discarded failed) else absent)).response ≡ no_response) [ true ↦ refl | false ↦ refl ]
speechless o part library client End e = refl

-- what passes between partitions is proper
proper_line : (o : Overview) (part : Option Part) (library : Library) (client : Option Client) (own : ℕ) (list_place : ListPlace) (request : Request) (heard : StoreReply)
    → ((p : Part) → part ≡ Some p → p.index ≡ own)
    → IsProper o.openings own (written_transition list_place request heard.refused (transition_line o part library client list_place request heard.read)).crossing
proper_line o part library None own list_place request heard has = tt
proper_line o None library (Some k) own list_place request heard has =
    let t : TransitionData = written_transition list_place request heard.refused (transition_line o None library (Some k) list_place request heard.read) in
    let by : t.crossing ≡ Stays → IsProper o.openings own t.crossing = λ e. subst (IsProper o.openings own) (sym e) tt in
    elim (line_nowhere o library k list_place heard.read request heard.refused) [ inl a ↦ by a.0 | inr w ↦ by (ap (λ (u : TransitionData). u.crossing) w.2) ]
proper_line o (Some p) library (Some k) own list_place request heard has =
    let t : TransitionData = written_transition list_place request heard.refused (transition_line o (Some p) library (Some k) list_place request heard.read) in
    let by : (c : Crossing) → t.crossing ≡ c → IsProper o.openings own c → IsProper o.openings own t.crossing = λ c e proper. subst (IsProper o.openings own) (sym e) proper in
    elim (line_kind o library k p list_place heard.read request heard.refused) [
      | inl a ↦ by Stays a.0 tt
      | inr (inl w) ↦ by Stays (ap (λ (u : TransitionData). u.crossing) w.2) tt
      | inr (inr q) ↦ (
          let u : TransitionData = planned o.parts o.clients o.openings (asked_by k q.0 list_place) p.index q.1 in
          let proper : IsProper o.openings p.index u.crossing = (plain o.parts o.clients o.openings (asked_by k q.0 list_place) p.index q.1).proper in
          by u.crossing (ap (λ (u : TransitionData). u.crossing) q.3) (subst (λ n. IsProper o.openings n u.crossing) (has p refl) proper)
          )
    ]

pub proper : (o : Overview) (part : Option Part) (library : Library) (client : Option Client) (own : ℕ) (event : Event) → ((p : Part) → part ≡ Some p → p.index ≡ own)
    → IsProper o.openings own (transition_of o part library client event).crossing
proper o part library client own (Connect number) has = tt
proper o part library client own (Disconnect number) has = tt
proper o part library client own (Line number list_place request heard) has = proper_line o part library client own list_place request heard has
proper o part library client own ScanQuestion has = tt
proper o part library client own (ScanResult songs second) has = tt
proper o None library client own (Want at owes) has = tt
proper o (Some part) library client own (Want at owes) has = tt
proper o None library client own (Have at number frames) has = tt
proper o (Some part) library client own (Have at number frames) has = tt
proper o None library client own (Failed at number of_partner) has = tt
proper o (Some part) library client own (Failed at number of_partner) has = tt
proper o None library client own (OutputTurn output written discarded failed) has = tt
proper o (Some part) library client own (OutputTurn output written discarded failed) has =
    elim (is_output part.outputs output) as (λ b. IsProper o.openings own (or_ended o.ended (if b then acts (Settles output written discarded failed) else absent)).crossing) [ true ↦ tt | false ↦ tt ]
proper o part library client own End has = tt

-- events of no partition do nothing to one
pub free : (o : Overview) (part : Option Part) (library : Library) (client : Option Client) (event : Event) → is_of_none event ≡ true
    → ((transition_of o part library client event).crossing ≡ Stays) × ((transition_of o part library client event).effect ≡ ByCommand Rests)
free o part library client (Connect number) e = cc
free o part library client (Disconnect number) e = cc
free o part library client (Line number list_place request heard) e = cc
free o part library client ScanQuestion e = (refl, refl)
free o part library client (ScanResult songs second) e = (refl, refl)
free o part library client (Want at owes) e = cc
free o part library client (Have at number frames) e = cc
free o part library client (Failed at number of_partner) e = cc
free o part library client (OutputTurn output written discarded failed) e = cc
free o part library client End e = (refl, refl)

-- the one event by which a client begins to wait: it asks to, and nothing that it names is pending for it
abbrev pub Idles : Option Client → TransitionData → Type 0
Idles client t = (k : Client) × (names : Subsystems) × (client ≡ Some k) × (t ≡ quiet (idles names (notice_of (waits names k.pending))))

calm_wish : (k : Client) (name : Name) (list_place : ListPlace) (wish : Wish) (t : TransitionData) → t ≡ quiet (wished (asked_by k name list_place) k wish) → IsCalm (move_of t.response) ⊎ Idles (Some k) t
calm_wish k name Alone (ToWait names) t e = inr (k, names, refl, e)
calm_wish k name Alone ToGoOn t e =
    let calm : IsCalm (move_of (resumes k)) =
    elim (is_some k.pending.waiting) as (λ b. IsCalm (move_of (if b then record { answer = tells (codes "OK\n"); move = Resume } else stays (tells (codes ""))))) [ true ↦ tt | false ↦ tt ] in
    inl (subst (λ (u : TransitionData). IsCalm (move_of u.response)) (sym e) calm)
calm_wish k name Alone (ToShow choice) t e = inl (subst (λ (u : TransitionData). IsCalm (move_of u.response)) (sym e) tt)
calm_wish k name (InList form at) (ToWait names) t e = inl (subst (λ (u : TransitionData). IsCalm (move_of u.response)) (sym e) tt)
calm_wish k name (InList form at) ToGoOn t e = inl (subst (λ (u : TransitionData). IsCalm (move_of u.response)) (sym e) tt)
calm_wish k name (InList form at) (ToShow choice) t e = inl (subst (λ (u : TransitionData). IsCalm (move_of u.response)) (sym e) tt)

calm_line : (o : Overview) (part : Option Part) (library : Library) (client : Option Client) (list_place : ListPlace) (request : Request) (heard : StoreReply)
    → IsCalm (move_of (written_transition list_place request heard.refused (transition_line o part library client list_place request heard.read)).response)
    ⊎ Idles client (written_transition list_place request heard.refused (transition_line o part library client list_place request heard.read))
calm_line o part library None list_place request heard = inl tt
calm_line o None library (Some k) list_place request heard =
    let t : TransitionData = written_transition list_place request heard.refused (transition_line o None library (Some k) list_place request heard.read) in
    elim (line_nowhere o library k list_place heard.read request heard.refused) [ inl a ↦ inl (calm_stay (move_of t.response) a.1) | inr w ↦ calm_wish k w.0 list_place w.1 t w.2 ]
calm_line o (Some p) library (Some k) list_place request heard =
    let t : TransitionData = written_transition list_place request heard.refused (transition_line o (Some p) library (Some k) list_place request heard.read) in
    elim (line_kind o library k p list_place heard.read request heard.refused) [
      | inl a ↦ inl (calm_stay (move_of t.response) a.1)
      | inr (inl w) ↦ calm_wish k w.0 list_place w.1 t w.2
      | inr (inr q) ↦ inl (subst (λ (u : TransitionData). IsCalm (move_of u.response)) (sym q.3) (plain o.parts o.clients o.openings (asked_by k q.0 list_place) p.index q.1).calm)
    ]

calm_by : (t : TransitionData) → t.response ≡ no_response → IsCalm (move_of t.response)
calm_by t e = subst (λ (r : ResponseData). IsCalm (move_of r)) (sym e) tt

pub calm_or_idles : (o : Overview) (part : Option Part) (library : Library) (client : Option Client) (event : Event)
    → IsCalm (move_of (transition_of o part library client event).response) ⊎ Idles client (transition_of o part library client event)
calm_or_idles o part library (Some k) (Connect number) = inl tt
calm_or_idles o part library None (Connect number) =
    inl (elim (nat_le 64 (length o.clients)) as (λ b. IsCalm (move_of (if b then stays disconnects else greeting))) [ true ↦ tt | false ↦ tt ])
calm_or_idles o part library client (Disconnect number) = inl tt
calm_or_idles o part library client (Line number list_place request heard) = calm_line o part library client list_place request heard
calm_or_idles o part library client ScanQuestion = inl tt
calm_or_idles o part library client (ScanResult songs second) = inl tt
calm_or_idles o part library client (Want at owes) = inl (calm_by (transition_of o part library client (Want at owes)) (speechless o part library client (Want at owes) refl))
calm_or_idles o part library client (Have at number frames) = inl (calm_by (transition_of o part library client (Have at number frames)) (speechless o part library client (Have at number frames) refl))
calm_or_idles o part library client (Failed at number of_partner) = inl (calm_by (transition_of o part library client (Failed at number of_partner)) (speechless o part library client (Failed at number of_partner) refl))
calm_or_idles o part library client (OutputTurn output written discarded failed) =
    inl (calm_by (transition_of o part library client (OutputTurn output written discarded failed)) (speechless o part library client (OutputTurn output written discarded failed) refl))
calm_or_idles o part library client End = inl tt

-- it reports nothing
pub reached_silent : (o : Overview) (list_place : ListPlace) (request : Request) (part : Option Part) (client : Option Client) (t : TransitionData) → Reached o list_place request part client t
    → (rate : ℕ) (own : Option Part) → report_in rate own t.effect t.report ≡ Nothing
reached_silent o list_place request part client t r rate own =
    subst (λ (u : TransitionData). report_in rate own u.effect u.report ≡ Nothing) (sym r.is) ((plain o.parts o.clients o.openings (asked_by r.k r.name list_place) r.p.index r.it).silent rate own)
