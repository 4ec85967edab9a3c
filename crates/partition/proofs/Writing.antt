-- Events that write to the shelf.
use Rattle.std.proofs.Common.{◌≡◌, Bool, true, false, Option, Some, None, refl, ap, sym, ◌∙◌, if◌then◌else◌}
use Rattle.mpd_command.specs.declared.request.Request.{Request}
use Rattle.shelf.specs.declared.faults.ShelfFault.{ShelfFault}
use Rattle.player_events.specs.declared.event.Event.{Event}
use Rattle.player_events.specs.declared.event.Event.TheVariants.{Connect, Disconnect, Line, ScanQuestion, ScanResult, Want, Have, Failed, OutputTurn, End}
use Rattle.transitions.specs.declared.asked.ListPlace.{ListPlace}
use Rattle.transitions.specs.declared.shelf_calls.StoreReply.{StoreReply}
use Rattle.player_state.specs.declared.state.Client.{Client}
use Rattle.transitions.specs.Answers.{refused_by_shelf, stays}
use Rattle.transitions.specs.Transitions.{TransitionData}
use Rattle.connected_clients.specs.Clients.{client_of}
use Rattle.transitions.specs.Shelves.{is_written}
use Rattle.partition_table.specs.Parts.{part_at}
use Rattle.partition.specs.Image.{Image, overview}
use Rattle.partition.specs.Step.{once_written, index_in, transition, transition_line, written_transition}
use Rattle.player_events.specs.Events.{store_reply_at, with_store_reply, name_at, name_of, list_place_of}
use Rattle.transitions.specs.Transitions.{quiet}
use Rattle.player_events.specs.Events.{is_line}
use Rattle.partition.proofs.Stepping.{writes_nothing}

-- an event hears what it heard
pub same_hearing : (event : Event) → event ≡ with_store_reply event (store_reply_at event)
same_hearing (Line number list_place request heard) = refl
same_hearing (Connect number) = refl
same_hearing (Disconnect number) = refl
same_hearing ScanQuestion = refl
same_hearing (ScanResult songs second) = refl
same_hearing (Want index owes) = refl
same_hearing (Have index number frames) = refl
same_hearing (Failed index number of_partner) = refl
same_hearing (OutputTurn output written discarded failed) = refl
same_hearing End = refl

pub hears_last : (event : Event) (first last : StoreReply) → with_store_reply (with_store_reply event first) last ≡ with_store_reply event last
hears_last (Line number list_place request heard) first last = refl
hears_last (Connect number) first last = refl
hears_last (Disconnect number) first last = refl
hears_last ScanQuestion first last = refl
hears_last (ScanResult songs second) first last = refl
hears_last (Want index owes) first last = refl
hears_last (Have index number frames) first last = refl
hears_last (Failed index number of_partner) first last = refl
hears_last (OutputTurn output written discarded failed) first last = refl
hears_last End first last = refl

pub hears_so : (event : Event) (heard : StoreReply) → with_store_reply event heard ≡ with_store_reply event (store_reply_at (with_store_reply event heard))
hears_so (Line number list_place request before) heard = refl
hears_so (Connect number) heard = refl
hears_so (Disconnect number) heard = refl
hears_so ScanQuestion heard = refl
hears_so (ScanResult songs second) heard = refl
hears_so (Want index owes) heard = refl
hears_so (Have index number frames) heard = refl
hears_so (Failed index number of_partner) heard = refl
hears_so (OutputTurn output written discarded failed) heard = refl
hears_so End heard = refl

never : (t : TransitionData) → is_written t.written ≡ false → is_written t.written ≡ true → ⊥
never t e w = (let clash : true ≡ false = sym w ∙ e in cc)

-- only a line writes
writes_line : (i : Image) (event : Event) → is_written (transition i event).written ≡ true → is_line event ≡ true
writes_line i event w =
    let cases : (b : Bool) → is_line event ≡ b → is_line event ≡ true =
    λ b. elim b as (λ b. is_line event ≡ b → is_line event ≡ true) [ true ↦ λ e. e | false ↦ λ e. absurd (never (transition i event) (writes_nothing i event e) w) ] in
    cases (is_line event) refl

line_hears : (event : Event) → is_line event ≡ true → (heard : StoreReply) → store_reply_at (with_store_reply event heard) ≡ heard
line_hears (Line number list_place request before) e heard = refl
line_hears (Connect number) e heard = cc
line_hears (Disconnect number) e heard = cc
line_hears ScanQuestion e heard = cc
line_hears (ScanResult songs second) e heard = cc
line_hears (Want index owes) e heard = cc
line_hears (Have index number frames) e heard = cc
line_hears (Failed index number of_partner) e heard = cc
line_hears (OutputTurn output written discarded failed) e heard = cc
line_hears End e heard = cc

-- and it hears what it is told
pub hears : (i : Image) (event : Event) → is_written (transition i event).written ≡ true → (heard : StoreReply) → store_reply_at (with_store_reply event heard) ≡ heard
hears i event w = line_hears event (writes_line i event w)

refused_line : (list_place : ListPlace) (request : Request) (t : TransitionData) (fault : ShelfFault) → is_written (written_transition list_place request None t).written ≡ true
    → written_transition list_place request (Some fault) t ≡ quiet (stays (refused_by_shelf list_place (name_of request) fault))
refused_line list_place request t fault w =
    let cases : (b : Bool) → is_written t.written ≡ b → is_written (if b then once_written list_place request None t else t).written ≡ true
    → (if b then once_written list_place request (Some fault) t else t) ≡ quiet (stays (refused_by_shelf list_place (name_of request) fault)) =
    λ b. elim b as (λ b. is_written t.written ≡ b → is_written (if b then once_written list_place request None t else t).written ≡ true
    → (if b then once_written list_place request (Some fault) t else t) ≡ quiet (stays (refused_by_shelf list_place (name_of request) fault))) [
      | true ↦ λ e h. refl
      | false ↦ λ e h. (let clash : true ≡ false = sym h ∙ e in cc)
    ] in
    cases (is_written t.written) refl w

-- a line whose write the shelf refuses is answered so, and does nothing
line_refused : (i : Image) (event : Event) (fault : ShelfFault) → is_line event ≡ true → is_written (transition i event).written ≡ true → (store_reply_at event).refused ≡ None
    → transition i (with_store_reply event (record (store_reply_at event) { refused = Some fault })) ≡ quiet (stays (refused_by_shelf (list_place_of event) (name_at event) fault))
line_refused i (Line number list_place request heard) fault e w none =
    let client : Option Client = client_of number i.clients in
    let t : TransitionData = transition_line (overview i) (part_at (index_in client) i.parts) i.shared.library client list_place request heard.read in
    refused_line list_place request t fault (ap (λ (r : Option ShelfFault). is_written (written_transition list_place request r t).written) (sym none) ∙ w)
line_refused i (Connect number) fault e w none = cc
line_refused i (Disconnect number) fault e w none = cc
line_refused i ScanQuestion fault e w none = cc
line_refused i (ScanResult songs second) fault e w none = cc
line_refused i (Want index owes) fault e w none = cc
line_refused i (Have index number frames) fault e w none = cc
line_refused i (Failed index number of_partner) fault e w none = cc
line_refused i (OutputTurn output written discarded failed) fault e w none = cc
line_refused i End fault e w none = cc

-- an event whose write the shelf refuses is answered so, and does nothing
pub refused_transition : (i : Image) (event : Event) (fault : ShelfFault) → is_written (transition i event).written ≡ true → (store_reply_at event).refused ≡ None
    → transition i (with_store_reply event (record (store_reply_at event) { refused = Some fault })) ≡ quiet (stays (refused_by_shelf (list_place_of event) (name_at event) fault))
refused_transition i event fault w none = line_refused i event fault (writes_line i event w) w none
