-- Events that are no line: they hear nothing, ask nothing and write nothing.
use Rattle.std.proofs.Common.{◌≡◌, ℕ, Bool, true, false, List, Option, Some, None, refl, if◌then◌else◌}
use Rattle.player_state.specs.declared.effect.AudioStep.TheVariants.{Settles}
use Rattle.player_events.specs.declared.event.Event.{Event}
use Rattle.player_events.specs.declared.event.Event.TheVariants.{Connect, Disconnect, Line, ScanQuestion, ScanResult, Want, Have, Failed, OutputTurn, End}
use Rattle.transitions.specs.declared.shelf_calls.StoreReply.{StoreReply}
use Rattle.player_state.specs.declared.state.Client.{Client}
use Rattle.player_state.specs.declared.state.Library.{Library}
use Rattle.player_state.specs.declared.state.Part.{Part}
use Rattle.player_state.specs.Outputs.{is_output}
use Rattle.transitions.specs.Shelves.{is_written}
use Rattle.transitions.specs.Transitions.{acts}
use Rattle.partition_table.specs.Parts.{part_at}
use Rattle.partition.specs.Image.{Image, Overview, overview}
use Rattle.partition.specs.Step.{absent, failure, have, output_turn, index_at, sender_in, transition, transition_of, want}
use Rattle.player_events.specs.Events.{with_store_reply}
use Rattle.player_events.specs.Events.{is_line}

-- a step hears nothing
pub hears_nothing : (event : Event) (heard : StoreReply) → is_line event ≡ false → with_store_reply event heard ≡ event
hears_nothing (Line number list_place request before) heard step = cc
hears_nothing (Connect number) heard step = refl
hears_nothing (Disconnect number) heard step = refl
hears_nothing ScanQuestion heard step = refl
hears_nothing (ScanResult songs second) heard step = refl
hears_nothing (Want index owes) heard step = refl
hears_nothing (Have index number frames) heard step = refl
hears_nothing (Failed index number of_partner) heard step = refl
hears_nothing (OutputTurn output written discarded failed) heard step = refl
hears_nothing End heard step = refl

turn_writes : (part : Option Part) (output written discarded : ℕ) (failed : Bool) → is_written (output_turn part output (Settles output written discarded failed)).written ≡ false
turn_writes None output written discarded failed = refl
turn_writes (Some part) output written discarded failed =
    elim (is_output part.outputs output) as (λ b. is_written (if b then acts (Settles output written discarded failed) else absent).written ≡ false) [ true ↦ refl | false ↦ refl ]

want_writes : (ended : Bool) (part : Option Part) (owes : List Bool) → is_written (want ended part owes).written ≡ false
want_writes ended None owes = refl
want_writes ended (Some part) owes = refl

have_writes : (ended : Bool) (part : Option Part) (number frames : ℕ) → is_written (have ended part number frames).written ≡ false
have_writes ended None number frames = refl
have_writes ended (Some part) number frames = refl

failure_writes : (part : Option Part) (number : ℕ) (of_partner : Bool) → is_written (failure part number of_partner).written ≡ false
failure_writes None number of_partner = refl
failure_writes (Some part) number of_partner = refl

-- it writes nothing
pub steps_write_nothing : (o : Overview) (part : Option Part) (library : Library) (client : Option Client) (event : Event) → is_line event ≡ false
    → is_written (transition_of o part library client event).written ≡ false
steps_write_nothing o part library client (Line number list_place request before) step = cc
steps_write_nothing o part library client (Connect number) step = refl
steps_write_nothing o part library client (Disconnect number) step = refl
steps_write_nothing o part library client ScanQuestion step = refl
steps_write_nothing o part library client (ScanResult songs second) step = refl
steps_write_nothing o part library client (Want index owes) step = want_writes o.ended part owes
steps_write_nothing o part library client (Have index number frames) step = have_writes o.ended part number frames
steps_write_nothing o part library client (Failed index number of_partner) step = failure_writes part number of_partner
steps_write_nothing o part library client (OutputTurn output written discarded failed) step = turn_writes part output written discarded failed
steps_write_nothing o part library client End step = refl

pub writes_nothing : (i : Image) (event : Event) → is_line event ≡ false → is_written (transition i event).written ≡ false
writes_nothing i event step = steps_write_nothing (overview i) (part_at (index_at i event) i.parts) i.shared.library (sender_in i.clients event) event step
