-- A line brings no frames: no output is given any, and none has its turn. What a command does is no step of
-- the decoder or of an output.
use Rattle.std.proofs.Common.{◌≡◌, ℕ, Bool, true, false, ◌&&◌, Option, Some, None, refl, if◌then◌else◌}
use Rattle.std.specs.Prelude.{not, is_some}
use Rattle.mpd_command.specs.declared.command.Command.{Command}
use Rattle.mpd_command.specs.declared.command.Command.TheVariants as asked_for
use Rattle.mpd_command.specs.declared.request.Request.{Request}
use Rattle.mpd_command.specs.declared.request.Request.TheVariants as asks
use Rattle.shelf.specs.declared.faults.ShelfFault.{ShelfFault}
use Rattle.player_state.specs.declared.effect.Effect.{Effect}
use Rattle.player_state.specs.declared.effect.Effect.TheVariants.{ByAudio}
use Rattle.player_state.specs.declared.effect.AudioStep.TheVariants.{Accepts, Settles}
use Rattle.player_state.specs.declared.state.Client.{Client}
use Rattle.player_state.specs.declared.state.Library.{Library}
use Rattle.player_state.specs.declared.state.Part.{Part}
use Rattle.transitions.specs.declared.asked.Asked.{Asked}
use Rattle.transitions.specs.declared.asked.ListPlace.{ListPlace}
use Rattle.transitions.specs.declared.shelf_calls.StoreReply.{StoreReply}
use Rattle.transitions.specs.declared.shelf_calls.Read.{Read}
use Rattle.transitions.specs.Shelves.{is_written}
use Rattle.transitions.specs.Transitions.{TransitionData, departs}
use Rattle.status_commands.specs.Status.{Wish, wish_of}
use Rattle.partition.specs.Image.{Overview}
use Rattle.player_events.specs.declared.event.Event.TheVariants.{Line}
use Rattle.partition.specs.Step.{asked_by, ends_waiting, once_written, transition_line, transition_of, transition_request, transition_run, transition_there, transition_wished, written_transition}
use Rattle.house.proofs.Plans.{planned_is}

-- neither frames that are fed nor a turn of an output
abbrev pub is_frameless : Effect → Bool
is_frameless (ByAudio (Accepts number frames)) = false
is_frameless (ByAudio (Settles output written discarded failed)) = false
is_frameless _ = true

abbrev IsFrameless : TransitionData → Type 0
IsFrameless t = is_frameless t.effect ≡ true

run : (o : Overview) (asked : Asked) (part : Part) (library : Library) (read : Read) (command : Command) → IsFrameless (transition_run o asked part library read command)
run o asked part library read (asked_for.Status command) = refl
run o asked part library read (asked_for.Options command) = refl
run o asked part library read (asked_for.Playback command) = refl
run o asked part library read (asked_for.Queue command) = refl
run o asked part library read (asked_for.Playlists command) = refl
run o asked part library read (asked_for.Database command) = refl
run o asked part library read (asked_for.Stickers command) = refl
run o asked part library read (asked_for.Connection command) = refl
run o asked part library read (asked_for.Outputs command) = refl
run o asked part library read (asked_for.Messages command) = refl
run o asked part library read (asked_for.Partitions command) = planned_is IsFrameless (λ r. refl) (λ asked crossing. refl) (λ asked index. refl) o.parts o.clients o.openings asked part.index command

there : (o : Overview) (asked : Asked) (part : Option Part) (library : Library) (read : Read) (command : Command) → IsFrameless (transition_there o asked part library read command)
there o asked None library read command = refl
there o asked (Some part) library read command = run o asked part library read command

wished : (asked : Asked) (client : Client) (t : TransitionData) (wish : Option Wish) → IsFrameless t → IsFrameless (transition_wished asked client t wish)
wished asked client t (Some wish) p = refl
wished asked client t None p = p

requested : (o : Overview) (part : Option Part) (library : Library) (client : Client) (list_place : ListPlace) (request : Request) (read : Read) → IsFrameless (transition_request o part library client list_place request read)
requested o part library client list_place (asks.Run name command) read =
    let asked : Asked = asked_by client name list_place in
    wished asked client (transition_there o asked part library read command) (wish_of command) (there o asked part library read command)
requested o part library client list_place (asks.Refused ack) read = refl

response : (o : Overview) (part : Option Part) (library : Library) (client : Option Client) (list_place : ListPlace) (request : Request) (read : Read) → IsFrameless (transition_line o part library client list_place request read)
response o part library None list_place request read = refl
response o part library (Some client) list_place request read =
    elim (is_some client.pending.waiting && not (ends_waiting list_place request))
    as (λ b. IsFrameless (if b then departs client.number else transition_request o part library client list_place request read))
    [ true ↦ refl | false ↦ requested o part library client list_place request read ]

once : (list_place : ListPlace) (request : Request) (refused : Option ShelfFault) (t : TransitionData) → IsFrameless (once_written list_place request refused t)
once list_place request None t = refl
once list_place request (Some fault) t = refl

written : (list_place : ListPlace) (request : Request) (refused : Option ShelfFault) (t : TransitionData) → IsFrameless t → IsFrameless (written_transition list_place request refused t)
written list_place request refused t p =
    elim (is_written t.written) as (λ b. IsFrameless (if b then once_written list_place request refused t else t)) [ true ↦ once list_place request refused t | false ↦ p ]

-- a line
pub line_frameless : (o : Overview) (part : Option Part) (library : Library) (client : Option Client) (number : ℕ) (list_place : ListPlace) (request : Request) (heard : StoreReply)
    → is_frameless (transition_of o part library client (Line number list_place request heard)).effect ≡ true
line_frameless o part library client number list_place request heard =
    written list_place request heard.refused (transition_line o part library client list_place request heard.read)
    (response o part library client list_place request heard.read)
