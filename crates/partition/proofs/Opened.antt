-- A partition that an event opens is opened as the daemon's openings say.
use Rattle.std.proofs.Common.{◌≡◌, ℕ, ◌==◌, Bool, true, false, not, ◌&&◌, List, Option, Some, None, is_some, codes, length, nat_le, refl, if◌then◌else◌}
use Rattle.mpd_command.specs.declared.command.Command.{Command}
use Rattle.mpd_command.specs.declared.command.Command.TheVariants as command_group
use Rattle.mpd_command.specs.declared.partitions.PartitionCommand.{PartitionCommand}
use Rattle.mpd_command.specs.declared.partitions.PartitionCommand.TheVariants.{DelPartition, ListPartitions, MoveOutput, NewPartition, Partition}
use Rattle.mpd_command.specs.declared.request.Request.{Request}
use Rattle.mpd_command.specs.declared.request.Request.TheVariants.{Run, Refused}
use Rattle.mpd_text.specs.declared.answers.answer.ErrorNumber.TheVariants.{Argument, Exist, System}
use Rattle.partition_table.specs.Openings.{OpeningsData}
use Rattle.partition_table.specs.Parts.{Known, free_index, holder, named, opening_part}
use Rattle.partition_table.specs.declared.crossing.Crossing.{Crossing}
use Rattle.partition_table.specs.declared.crossing.Crossing.TheVariants.{Opens, Closes, Brings}
use Rattle.partition_commands.specs.Partitions.{Seated, begins, brings, by_name, done, ends, goes, is_partition_name, is_used, moves, output_named, outputs_elsewhere, planned, refused}
use Rattle.player_events.specs.declared.event.Event.{Event}
use Rattle.player_events.specs.declared.event.Event.TheVariants.{Connect, Disconnect, Line, ScanQuestion, ScanResult, Want, Have, Failed, OutputTurn, End}
use Rattle.player_state.specs.Outputs.{OutputsData, is_output}
use Rattle.player_state.specs.declared.effect.AudioStep.TheVariants.{Settles}
use Rattle.player_state.specs.declared.state.Client.{Client}
use Rattle.player_state.specs.declared.state.Library.{Library}
use Rattle.player_state.specs.declared.state.Part.{Part}
use Rattle.shelf.specs.declared.faults.ShelfFault.{ShelfFault}
use Rattle.status_commands.specs.Status.{Wish, wish_of}
use Rattle.transitions.specs.CommandResults.{bad_name}
use Rattle.transitions.specs.Shelves.{is_written}
use Rattle.transitions.specs.Transitions.{TransitionData, acts, crosses, departs, enters, transition_by}
use Rattle.transitions.specs.declared.asked.Asked.{Asked}
use Rattle.transitions.specs.declared.asked.ListPlace.{ListPlace}
use Rattle.transitions.specs.declared.shelf_calls.Read.{Read}
use Rattle.partition.specs.Image.{Overview}
use Rattle.partition.specs.Step.{absent, asked_by, ends_waiting, failure, have, once_written, output_turn, transition_line, transition_of, transition_request, transition_run, transition_there, transition_wished, want, written_transition}

-- what comes between the partitions is a partition to which nothing happened
abbrev pub IsOpenedBy : OpeningsData → Crossing → Type 0
IsOpenedBy openings (Opens part) = (index : ℕ) × (name : List ℕ) × (outputs : OutputsData) × (part ≡ opening_part openings index name outputs)
IsOpenedBy openings _ = Unit {0}

module _ (openings : OpeningsData) where
  abbrev Fair : TransitionData → Type 0
  Fair t = IsOpenedBy openings t.crossing

  fair_if : (b : Bool) (x y : TransitionData) → Fair x → Fair y → Fair (if b then x else y)
  fair_if true x y p q = p
  fair_if false x y p q = q

  fair_named : (asked : Asked) (name : List ℕ) (t : TransitionData) → Fair t → Fair (by_name asked name t)
  fair_named asked name t f = fair_if (is_partition_name name) t (transition_by (bad_name asked name)) f tt

  fair_goes : (asked : Asked) (own : ℕ) (found : Option ℕ) → Fair (goes asked own found)
  fair_goes asked own None = tt
  fair_goes asked own (Some to) = fair_if (to == own) (done asked) (enters asked to) tt tt

  fair_begins : (fs : List Known) (asked : Asked) (name : List ℕ) (index : Option ℕ) → Fair (begins fs openings asked name index)
  fair_begins fs asked name None = tt
  fair_begins fs asked name (Some index) = (index, name, outputs_elsewhere fs, refl)

  fair_ends : (fs : List Known) (ks : List Seated) (asked : Asked) (found : Option ℕ) → Fair (ends fs ks asked found)
  fair_ends fs ks asked None = tt
  fair_ends fs ks asked (Some index) =
      let used : TransitionData = refused asked System (codes "partition is in use") in
      let closes_it : TransitionData = crosses asked (Closes index) in
      fair_if (index == 0) (refused asked Argument (codes "partition is the default")) (if is_used fs ks index then used else closes_it) tt
      (fair_if (is_used fs ks index) used closes_it tt tt)

  fair_brings : (asked : Asked) (output own : ℕ) (found : Option ℕ) → Fair (brings asked output own found)
  fair_brings asked output own None = tt
  fair_brings asked output own (Some index) = fair_if (index == own) (done asked) (crosses asked (Brings output own)) tt tt

  fair_moves : (fs : List Known) (asked : Asked) (own : ℕ) (found : Option ℕ) → Fair (moves fs asked own found)
  fair_moves fs asked own None = tt
  fair_moves fs asked own (Some output) = fair_brings asked output own (holder output fs)

  fair_planned : (fs : List Known) (ks : List Seated) (asked : Asked) (own : ℕ) (command : PartitionCommand) → Fair (planned fs ks openings asked own command)
  unfolding planned
  fair_planned fs ks asked own (DelPartition name) = fair_named asked name (ends fs ks asked (named name fs)) (fair_ends fs ks asked (named name fs))
  fair_planned fs ks asked own ListPartitions = tt
  fair_planned fs ks asked own (MoveOutput name) = fair_moves fs asked own (output_named name fs)
  fair_planned fs ks asked own (NewPartition name) =
      let index : Option ℕ = if nat_le 16 (length fs) then None else free_index fs in
      let exists : TransitionData = refused asked Exist (codes "partition exists") in
      let new : TransitionData = begins fs openings asked name index in
      fair_named asked name (if is_some (named name fs) then exists else new) (fair_if (is_some (named name fs)) exists new tt (fair_begins fs asked name index))
  fair_planned fs ks asked own (Partition name) = fair_named asked name (goes asked own (named name fs)) (fair_goes asked own (named name fs))

module _ (o : Overview) (library : Library) where
  abbrev Fairly : TransitionData → Type 0
  Fairly t = Fair o.openings t

  fair_run : (asked : Asked) (part : Part) (read : Read) (command : Command) → Fairly (transition_run o asked part library read command)
  fair_run asked part read (command_group.Status command) = tt
  fair_run asked part read (command_group.Options command) = tt
  fair_run asked part read (command_group.Playback command) = tt
  fair_run asked part read (command_group.Queue command) = tt
  fair_run asked part read (command_group.Playlists command) = tt
  fair_run asked part read (command_group.Database command) = tt
  fair_run asked part read (command_group.Stickers command) = tt
  fair_run asked part read (command_group.Connection command) = tt
  fair_run asked part read (command_group.Outputs command) = tt
  fair_run asked part read (command_group.Messages command) = tt
  fair_run asked part read (command_group.Partitions command) = fair_planned o.openings o.parts o.clients asked part.index command

  fair_there : (asked : Asked) (part : Option Part) (read : Read) (command : Command) → Fairly (transition_there o asked part library read command)
  fair_there asked None read command = tt
  fair_there asked (Some part) read command = fair_run asked part read command

  fair_wished : (asked : Asked) (client : Client) (t : TransitionData) (wish : Option Wish) → Fairly t → Fairly (transition_wished asked client t wish)
  fair_wished asked client t (Some wish) f = tt
  fair_wished asked client t None f = f

  fair_request : (part : Option Part) (client : Client) (list_place : ListPlace) (request : Request) (read : Read) → Fairly (transition_request o part library client list_place request read)
  fair_request part client list_place (Run name command) read =
      fair_wished (asked_by client name list_place) client (transition_there o (asked_by client name list_place) part library read command) (wish_of command)
      (fair_there (asked_by client name list_place) part read command)
  fair_request part client list_place (Refused ack) read = tt

  fair_line : (part : Option Part) (client : Option Client) (list_place : ListPlace) (request : Request) (read : Read) → Fairly (transition_line o part library client list_place request read)
  fair_line part None list_place request read = tt
  fair_line part (Some client) list_place request read =
      fair_if o.openings (is_some client.pending.waiting && not (ends_waiting list_place request)) (departs client.number) (transition_request o part library client list_place request read) tt
      (fair_request part client list_place request read)

  fair_written : (list_place : ListPlace) (request : Request) (refused : Option ShelfFault) (t : TransitionData) → Fairly t → Fairly (written_transition list_place request refused t)
  fair_written list_place request refused t f =
      fair_if o.openings (is_written t.written) (once_written list_place request refused t) t
      (elim refused as (λ r. Fairly (once_written list_place request r t)) [ None ↦ tt | Some fault ↦ tt ]) f

  fair_turn : (part : Option Part) (output written discarded : ℕ) (failed : Bool) → Fairly (output_turn part output (Settles output written discarded failed))
  fair_turn None output written discarded failed = tt
  fair_turn (Some part) output written discarded failed =
      fair_if o.openings (is_output part.outputs output) (acts (Settles output written discarded failed)) absent tt tt

  fair_want : (part : Option Part) (owes : List Bool) → Fairly (want o.ended part owes)
  fair_want None owes = tt
  fair_want (Some part) owes = tt

  fair_have : (part : Option Part) (number frames : ℕ) → Fairly (have o.ended part number frames)
  fair_have None number frames = tt
  fair_have (Some part) number frames = tt

  fair_failure : (part : Option Part) (number : ℕ) (of_partner : Bool) → Fairly (failure part number of_partner)
  fair_failure None number of_partner = tt
  fair_failure (Some part) number of_partner = tt

-- of every event
pub opened_by : (o : Overview) (part : Option Part) (library : Library) (client : Option Client) (event : Event)
    → IsOpenedBy o.openings (transition_of o part library client event).crossing
opened_by o part library client (Connect number) = tt
opened_by o part library client (Disconnect number) = tt
opened_by o part library client (Line number list_place request heard) =
    fair_written o library list_place request heard.refused (transition_line o part library client list_place request heard.read)
    (fair_line o library part client list_place request heard.read)
opened_by o part library client ScanQuestion = tt
opened_by o part library client (ScanResult songs second) = tt
opened_by o part library client (Want index owes) = fair_want o library part owes
opened_by o part library client (Have index number frames) = fair_have o library part number frames
opened_by o part library client (Failed index number of_partner) = fair_failure o library part number of_partner
opened_by o part library client (OutputTurn output written discarded failed) = fair_turn o library part output written discarded failed
opened_by o part library client End = tt
