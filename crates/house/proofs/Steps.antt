-- What becomes of an event that is no line.
use Rattle.std.proofs.Common.{◌≡◌, inl, inr, ℕ, ◌+◌, ◌<◌, ◌≤◌, ◌^◌, true, false, Option, None, Some, length, refl, ap, ◌∙◌, Bool, List, arith}
use Rattle.std.specs.Prelude.{Result, Ok, Err, IfErr, IfOk, OnErr, OnOk, sum}
use Rattle.player_events.specs.declared.event.Event.{Event}
use Rattle.player_events.specs.declared.event.Event.TheVariants.{Connect, Disconnect, Line, ScanQuestion, ScanResult, Want, Have, Failed, OutputTurn, End}
use Rattle.partition.specs.declared.partition.PartitionFault.{PartitionFault}
use Rattle.player_events.specs.Outcomes.{OutcomeData}
use Rattle.partition.specs.History.{Chronicle, joined_by}
use Rattle.partition_table.specs.Parts.{part_at}
use Rattle.partition.specs.Image.{Image, Overview, overview}
use Rattle.partition.specs.Legal.{IsPast}
use Rattle.partition.specs.Step.{failure, limit_of, next_image, index_at, sender_in, told, transition, transition_of, want}
use Rattle.partition.specs.Steps.{RefusesStep}
use Rattle.player_events.specs.Events.{is_line}
use Rattle.player_state.specs.Outputs.{FrameBooks}
use Rattle.player_state.specs.declared.state.Client.{Client}
use Rattle.player_state.specs.declared.state.Library.{Library}
use Rattle.player_state.specs.declared.state.Part.{Part}
use Rattle.house.specs.declared.news.News.{News}
use Rattle.house.specs.declared.news.News.TheVariants as news
use Rattle.house.specs.News.{event_of}
use Rattle.house.specs.Player.{BooksFollow, CanCount}
use Rattle.house.specs.Views.{IsRefusedFor, IsUnchangedOrFolded, entry}
use Rattle.house.proofs.Booked.{HasEight, all_stay, decoded_grows, discarded_grows, few_after, has_eight, have_fates, turn_decoded, written_grows}
use Rattle.house.proofs.Frameless.{is_frameless}
use Rattle.house.proofs.ListEntries.{room_keeps}
use Rattle.house.proofs.Few.{few_notices}

-- no piece of news is a line, or brings frames
pub news_steps : (piece : News) → is_line (event_of piece) ≡ false
news_steps (news.Comes client) = refl
news_steps (news.Goes client) = refl
news_steps news.AsksToScan = refl
news_steps (news.Scanned songs second) = refl
news_steps (news.Wants index owes) = refl
news_steps (news.Failed index number of_partner) = refl

want_frameless : (ended : Bool) (part : Option Part) (owes : List Bool) → is_frameless (want ended part owes).effect ≡ true
want_frameless ended None owes = refl
want_frameless true (Some part) owes = refl
want_frameless false (Some part) owes = refl

failure_frameless : (part : Option Part) (number : ℕ) (of_partner : Bool) → is_frameless (failure part number of_partner).effect ≡ true
failure_frameless None number of_partner = refl
failure_frameless (Some part) number of_partner = refl

news_frameless : (o : Overview) (part : Option Part) (library : Library) (client : Option Client) (piece : News) → is_frameless (transition_of o part library client (event_of piece)).effect ≡ true
news_frameless o part library client (news.Comes number) = refl
news_frameless o part library client (news.Goes number) = refl
news_frameless o part library client news.AsksToScan = refl
news_frameless o part library client (news.Scanned songs second) = refl
news_frameless o part library client (news.Wants index owes) = want_frameless o.ended part owes
news_frameless o part library client (news.Failed index number of_partner) = failure_frameless part number of_partner

-- the same of the whole image
quiet_frameless : (i : Image) (piece : News) → is_frameless (transition i (event_of piece)).effect ≡ true
quiet_frameless i piece =
    news_frameless (overview i) (part_at (index_at i (event_of piece)) i.parts) i.shared.library (sender_in i.clients (event_of piece)) piece

-- it gives no more notices than there are clients
pub few_told : (i : Image) (event : Event) (outcome : OutcomeData) → outcome ≡ told i event → length outcome.notices ≤ length i.clients
few_told i event outcome is =
    let few = few_notices i event in
    let same : length outcome.notices ≡ length (told i event).notices = ap (λ (t : OutcomeData). length t.notices) is in
    omega (arith, few, same)

at_most : (n : ℕ) → n ≤ n
at_most n = omega arith

no_line : true ≡ false → ⊥
no_line e = cc

abbrev books_of : Chronicle → FrameBooks
books_of c = c.present.shared.books

module _ (before after : Chronicle) (seat : ℕ) (event : Event) where
  -- why it is refused, and what that leaves
  pub refused_for : (r : Result OutcomeData PartitionFault) → IfErr r (λ fault. RefusesStep before after seat event fault) → IfErr r (λ fault. IsRefusedFor before seat event fault)
  refused_for (Ok outcome) stops = tt
  refused_for (Err fault) (inl full) = inl (full.0, full.1.0)
  refused_for (Err fault) (inr roomy) = inr roomy.1

  pub step_leaves_unchanged : (r : Result OutcomeData PartitionFault) → IfErr r (λ fault. RefusesStep before after seat event fault) → OnErr r (IsUnchangedOrFolded before after)
  step_leaves_unchanged (Ok outcome) stops = tt
  step_leaves_unchanged (Err fault) (inl full) = inl full.1.1
  step_leaves_unchanged (Err fault) (inr roomy) = inr roomy.0

  abbrev Joins : Result OutcomeData PartitionFault → Type 0
  Joins r = IfOk r (λ outcome. after ≡ joined_by before (entry seat event outcome))

  abbrev LeavesUnchanged : Result OutcomeData PartitionFault → Type 0
  LeavesUnchanged r = OnErr r (IsUnchangedOrFolded before after)

  unchanged_keeps : IsUnchangedOrFolded before after → after.present ≡ before.present
  unchanged_keeps (inl same) = ap (λ (c : Chronicle). c.present) same
  unchanged_keeps (inr folded) = ap (λ (c : Chronicle). c.present) folded ∙ room_keeps before

  steps_to : (outcome : OutcomeData) → after ≡ joined_by before (entry seat event outcome) → after.present ≡ next_image seat before.present event
  steps_to outcome joins = ap (λ (c : Chronicle). c.present) joins

  -- at a fault the books of frames stay
  pub step_keeps : (r : Result OutcomeData PartitionFault) → LeavesUnchanged r → OnErr r (books_of after ≡ books_of before)
  step_keeps (Ok outcome) leaves_unchanged = tt
  step_keeps (Err fault) leaves_unchanged = ap (λ (i : Image). i.shared.books) (unchanged_keeps leaves_unchanged)

  module _ (eight : HasEight before.present.shared.books) where
    -- an event that brings no frames leaves the books of frames
    pub step_stays : is_frameless (transition before.present event).effect ≡ true → (r : Result OutcomeData PartitionFault) → Joins r → LeavesUnchanged r → books_of after ≡ books_of before
    step_stays frameless (Ok outcome) joins leaves_unchanged = all_stay seat before.present after.present event eight (steps_to outcome joins) frameless
    step_stays frameless (Err fault) joins leaves_unchanged = ap (λ (i : Image). i.shared.books) (unchanged_keeps leaves_unchanged)

    -- what no event of this kind changes
    pub step_part : {X : Type 0} (of_books : FrameBooks → X) (r : Result OutcomeData PartitionFault)
        → ((i : Image) → i ≡ next_image seat before.present event → of_books i.shared.books ≡ of_books before.present.shared.books)
        → Joins r → LeavesUnchanged r → of_books (books_of after) ≡ of_books (books_of before)
    step_part of_books (Ok outcome) stays joins leaves_unchanged = stays after.present (steps_to outcome joins)
    step_part of_books (Err fault) stays joins leaves_unchanged = ap (λ (i : Image). of_books i.shared.books) (unchanged_keeps leaves_unchanged)

    -- no number of frames becomes smaller
    rises : (of_books : FrameBooks → List ℕ) → ((i : Image) → i ≡ next_image seat before.present event → sum (of_books before.present.shared.books) ≤ sum (of_books i.shared.books))
        → (r : Result OutcomeData PartitionFault) → Joins r → LeavesUnchanged r → sum (of_books before.present.shared.books) ≤ sum (of_books after.present.shared.books)
    rises of_books grows (Ok outcome) joins leaves_unchanged = grows after.present (steps_to outcome joins)
    rises of_books grows (Err fault) joins leaves_unchanged = rw (unchanged_keeps leaves_unchanged) (at_most (sum (of_books before.present.shared.books)))

    pub decoded_rise : (r : Result OutcomeData PartitionFault) → Joins r → LeavesUnchanged r → sum before.present.shared.books.decoded ≤ sum after.present.shared.books.decoded
    decoded_rise = rises (λ (b : FrameBooks). b.decoded) (λ i is. decoded_grows seat before.present i event eight is)

    pub written_rise : (r : Result OutcomeData PartitionFault) → Joins r → LeavesUnchanged r → sum before.present.shared.books.written ≤ sum after.present.shared.books.written
    written_rise = rises (λ (b : FrameBooks). b.written) (λ i is. written_grows seat before.present i event eight is)

    pub discarded_rise : (r : Result OutcomeData PartitionFault) → Joins r → LeavesUnchanged r → sum before.present.shared.books.discarded ≤ sum after.present.shared.books.discarded
    discarded_rise = rises (λ (b : FrameBooks). b.discarded) (λ i is. discarded_grows seat before.present i event eight is)

  -- all of them can be counted
  pub few_frames : (r : Result OutcomeData PartitionFault) → OnOk r (limit_of seat before.present event ≡ None) → Joins r → OnOk r (CanCount (books_of after))
  few_frames (Ok outcome) within joins =
      let all = few_after seat before.present after.present event within (steps_to outcome joins) in
      (all.decoded, all.written, all.discarded)
  few_frames (Err fault) within joins = tt

-- what an event brings to the books
module _ (before after : Chronicle) (seat : ℕ) (past : IsPast before) where
  eight : HasEight before.present.shared.books
  eight = has_eight before past

  quiet : (piece : News) (r : Result OutcomeData PartitionFault) → Joins before after seat (event_of piece) r → LeavesUnchanged before after seat (event_of piece) r
      → BooksFollow (event_of piece) before after
  quiet (news.Comes client) r joins leaves = step_stays before after seat (Connect client) eight (quiet_frameless before.present (news.Comes client)) r joins leaves
  quiet (news.Goes client) r joins leaves = step_stays before after seat (Disconnect client) eight (quiet_frameless before.present (news.Goes client)) r joins leaves
  quiet news.AsksToScan r joins leaves = step_stays before after seat ScanQuestion eight (quiet_frameless before.present news.AsksToScan) r joins leaves
  quiet (news.Scanned songs second) r joins leaves = step_stays before after seat (ScanResult songs second) eight (quiet_frameless before.present (news.Scanned songs second)) r joins leaves
  quiet (news.Wants index owes) r joins leaves = step_stays before after seat (Want index owes) eight (quiet_frameless before.present (news.Wants index owes)) r joins leaves
  quiet (news.Failed index number of_partner) r joins leaves =
      step_stays before after seat (Failed index number of_partner) eight (quiet_frameless before.present (news.Failed index number of_partner)) r joins leaves

  pub follows : (event : Event) → is_line event ≡ false → (r : Result OutcomeData PartitionFault) → Joins before after seat event r → LeavesUnchanged before after seat event r
      → BooksFollow event before after
  follows (Connect client) step r joins leaves = quiet (news.Comes client) r joins leaves
  follows (Disconnect client) step r joins leaves = quiet (news.Goes client) r joins leaves
  follows (Line client list_place request heard) step r joins leaves = absurd (no_line step)
  follows ScanQuestion step r joins leaves = quiet news.AsksToScan r joins leaves
  follows (ScanResult songs second) step r joins leaves = quiet (news.Scanned songs second) r joins leaves
  follows (Want index owes) step r joins leaves = quiet (news.Wants index owes) r joins leaves
  follows (Have index number frames) step r joins leaves =
      let event : Event = Have index number frames in (
        decoded_rise before after seat event eight r joins leaves,
        step_part before after seat event eight (λ (b : FrameBooks). b.written) r (λ i is. (have_fates seat before.present i index number frames eight is).0) joins leaves,
        step_part before after seat event eight (λ (b : FrameBooks). b.discarded) r (λ i is. (have_fates seat before.present i index number frames eight is).1) joins leaves,
      )
  follows (Failed index number of_partner) step r joins leaves = quiet (news.Failed index number of_partner) r joins leaves
  follows (OutputTurn output written discarded failed) step r joins leaves =
      let event : Event = OutputTurn output written discarded failed in (
        (written_rise before after seat event eight r joins leaves, discarded_rise before after seat event eight r joins leaves),
        step_part before after seat event eight (λ (b : FrameBooks). b.decoded) r (λ i is. turn_decoded seat before.present i output written discarded failed eight is) joins leaves,
      )
  follows End step r joins leaves = step_stays before after seat End eight refl r joins leaves

-- a piece of news leaves them
pub news_stay : (before after : Chronicle) (piece : News) → BooksFollow (event_of piece) before after → books_of after ≡ books_of before
news_stay before after (news.Comes client) follow = follow
news_stay before after (news.Goes client) follow = follow
news_stay before after news.AsksToScan follow = follow
news_stay before after (news.Scanned songs second) follow = follow
news_stay before after (news.Wants index owes) follow = follow
news_stay before after (news.Failed index number of_partner) follow = follow
