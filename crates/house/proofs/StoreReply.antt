-- What becomes of a line, which is lent a shelf.
use Rattle.std.proofs.Common.{◌≡◌, inl, inr, ℕ, true, ap, ◌∙◌}
use Rattle.std.specs.Prelude.{Result, Ok, Err, IfErr, IfOk, OnErr}
use Rattle.shelf.specs.Calls.{Call}
use Rattle.shelf.specs.Maps.{Standing}
use Rattle.mpd_command.specs.declared.request.Request.{Request}
use Rattle.player_events.specs.declared.event.Event.{Event}
use Rattle.player_events.specs.declared.event.Event.TheVariants.{Line}
use Rattle.transitions.specs.declared.asked.ListPlace.TheVariants.{Alone}
use Rattle.partition.specs.declared.partition.PartitionFault.{PartitionFault}
use Rattle.transitions.specs.declared.shelf_calls.StoreReply.{StoreReply}
use Rattle.player_events.specs.Outcomes.{OutcomeData}
use Rattle.partition.specs.History.{Chronicle, with_room}
use Rattle.partition_table.specs.Parts.{part_at}
use Rattle.partition.specs.Image.{Image, overview}
use Rattle.partition.specs.Lent.{Records}
use Rattle.player_state.specs.Outputs.{FrameBooks}
use Rattle.player_events.specs.Events.{with_store_reply}
use Rattle.partition.specs.Step.{index_at, sender_in, transition}
use Rattle.house.specs.Views.{IsUnchangedOrFolded, IsUnwritten, Stops}
use Rattle.house.proofs.Booked.{HasEight, all_stay}
use Rattle.house.proofs.Frameless.{is_frameless, line_frameless}
use Rattle.house.proofs.ListEntries.{room_keeps}

-- a line that stands alone brings no frames
pub lines_frameless : (i : Image) (client : ℕ) (request : Request) (heard : StoreReply) → is_frameless (transition i (Line client Alone request heard)).effect ≡ true
lines_frameless i client request heard =
    let line : Event = Line client Alone request heard in
    line_frameless (overview i) (part_at (index_at i line) i.parts) i.shared.library (sender_in i.clients line) client Alone request heard

module _ {S : Type 0} (standing : S → Standing) (failed : S → S → Call → Type 0) (before after : Chronicle) (old new : S) (seat : ℕ) (event : Event) (r : Result OutcomeData PartitionFault) where
  abbrev pub Joined : Type 0
  Joined = IfOk r (λ outcome. Records standing failed before.present after.present (with_room before).window after.window old new seat event outcome)

  abbrev pub Stopped : Type 0
  Stopped = IfErr r (λ fault. Stops standing failed before after old new seat event fault)

module _ {S : Type 0} (standing : S → Standing) (failed : S → S → Call → Type 0) (before after : Chronicle) (old new : S) (seat : ℕ) (event : Event) where
  -- a fault changes nothing but a fold
  pub unchanged : (r : Result OutcomeData PartitionFault) → Stopped standing failed before after old new seat event r → OnErr r (IsUnchangedOrFolded before after)
  unchanged (Ok outcome) stopped = tt
  unchanged (Err fault) (inl none) = inl none.1.0
  unchanged (Err fault) (inr (inl full)) = inl full.1.1.0
  unchanged (Err fault) (inr (inr roomy)) = inr roomy.0

  pub unwritten : (r : Result OutcomeData PartitionFault) → Stopped standing failed before after old new seat event r → OnErr r (IsUnwritten standing failed old new)
  unwritten (Ok outcome) stopped = tt
  unwritten (Err fault) (inl none) = inl none.1.1
  unwritten (Err fault) (inr (inl full)) = inl full.1.1.1
  unwritten (Err fault) (inr (inr roomy)) = inr roomy.1.unchanged

  unchanged_keeps : IsUnchangedOrFolded before after → after.present ≡ before.present
  unchanged_keeps (inl same) = ap (λ (c : Chronicle). c.present) same
  unchanged_keeps (inr folded) = ap (λ (c : Chronicle). c.present) folded ∙ room_keeps before

  stopped_keeps : (fault : PartitionFault) → Stops standing failed before after old new seat event fault → after.present ≡ before.present
  stopped_keeps fault stops = unchanged_keeps (unchanged (Err fault) stops)

  abbrev pub books_of : Chronicle → FrameBooks
  books_of c = c.present.shared.books

  module _ (eight : HasEight before.present.shared.books) where
    -- an event that brings no frames leaves the books of frames
    pub books_stay : (r : Result OutcomeData PartitionFault) → ((heard : StoreReply) → is_frameless (transition before.present (with_store_reply event heard)).effect ≡ true)
        → Joined standing failed before after old new seat event r → Stopped standing failed before after old new seat event r → books_of after ≡ books_of before
    books_stay (Ok outcome) frameless joined stopped = all_stay seat before.present after.present (with_store_reply event joined.heard) eight joined.present (frameless joined.heard)
    books_stay (Err fault) frameless joined stopped = ap (λ (i : Image). i.shared.books) (stopped_keeps fault stopped)
