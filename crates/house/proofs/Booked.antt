-- What events leave of the books of frames.
use Rattle.std.proofs.Common.{◌≡◌, ℕ, ◌+◌, ◌<◌, ◌≤◌, ◌^◌, Bool, true, false, ◌&&◌, ◌||◌, not, nat_le, List, length, Option, Some, None, refl, ap, sym, subst, ◌∙◌, arith, if◌then◌else◌}
use Rattle.std.specs.Prelude.{slice_index_or, sum}
use Rattle.std.proofs.lemmas.Bool.Decides.{nat_tests}
use Rattle.player_state.specs.declared.effect.Effect.{Effect}
use Rattle.player_state.specs.declared.effect.Effect.TheVariants.{ByAudio}
use Rattle.player_state.specs.declared.effect.AudioStep.TheVariants.{Accepts, Settles}
use Rattle.player_events.specs.declared.event.Event.{Event}
use Rattle.player_events.specs.declared.event.Event.TheVariants.{Have, OutputTurn}
use Rattle.partition.specs.declared.partition.PartitionFault.TheVariants.{CutsAtLimit, AtLimit}
use Rattle.player_state.specs.declared.report.Report.{Report}
use Rattle.partition.specs.History.{Chronicle}
use Rattle.partition.specs.Image.{Image}
use Rattle.partition.specs.Legal.{IsPast}
use Rattle.player_state.specs.Outputs.{FrameBooks, books_after, can_count, can_count_all, decoded_by, discarded_by, is_output, total, written_by}
use Rattle.partition.specs.Step.{absent, counts_frames, have, keeps_limits, limit_of, next_image, output_turn, index_at, report_at, transition}
use Rattle.partition_table.specs.Parts.{part_at}
use Rattle.player_state.specs.declared.state.Part.{Part}
use Rattle.transitions.specs.Transitions.{acts}
use Rattle.house.proofs.Eight.{grown_none, grown_sum, total_sum}
use Rattle.house.proofs.Frameless.{is_frameless}

-- each book has eight numbers
pub record HasEight (b : FrameBooks) : Type 0 where
  pub decoded : length b.decoded ≡ 8
  pub written : length b.written ≡ 8
  pub discarded : length b.discarded ≡ 8

pub has_eight : (c : Chronicle) → IsPast c → HasEight c.present.shared.books
has_eight c past = record {
  decoded = ap (λ (b : FrameBooks). length b.decoded) past.books;
  written = ap (λ (b : FrameBooks). length b.written) past.books;
  discarded = ap (λ (b : FrameBooks). length b.discarded) past.books;
}

none_fed : (d : Effect) (report : Report) (output : ℕ) → is_frameless d ≡ true → decoded_by d report output ≡ 0
none_fed (ByAudio (Accepts number frames)) report output e = cc
none_fed _ report output e = refl

none_written : (d : Effect) (output : ℕ) → is_frameless d ≡ true → written_by d output ≡ 0
none_written (ByAudio (Settles k written discarded failed)) output e = cc
none_written _ output e = refl

none_discarded : (d : Effect) (output : ℕ) → is_frameless d ≡ true → discarded_by d output ≡ 0
none_discarded (ByAudio (Settles k written discarded failed)) output e = cc
none_discarded _ output e = refl

-- the books after an event
pub books_next : (seat : ℕ) (i : Image) (e : Event)
    → (next_image seat i e).shared.books ≡ books_after i.shared.books (transition i e).effect (report_at i e (transition i e))
unfolding next_image
books_next seat i e = refl

module _ (seat : ℕ) (i after : Image) (e : Event) (eight : HasEight i.shared.books) (is : after ≡ next_image seat i e) where
  abbrev report : Report
  report = report_at i e (transition i e)

  books_are : after.shared.books ≡ books_after i.shared.books (transition i e).effect report
  books_are = ap (λ (j : Image). j.shared.books) is ∙ books_next seat i e

  decoded_stay : ((n : ℕ) → decoded_by (transition i e).effect report n ≡ 0) → after.shared.books.decoded ≡ i.shared.books.decoded
  decoded_stay none =
      ap (λ (b : FrameBooks). b.decoded) books_are
      ∙ grown_none (decoded_by (transition i e).effect report) none i.shared.books.decoded eight.decoded

  written_stay : ((n : ℕ) → written_by (transition i e).effect n ≡ 0) → after.shared.books.written ≡ i.shared.books.written
  written_stay none =
      ap (λ (b : FrameBooks). b.written) books_are ∙ grown_none (written_by (transition i e).effect) none i.shared.books.written eight.written

  discarded_stay : ((n : ℕ) → discarded_by (transition i e).effect n ≡ 0) → after.shared.books.discarded ≡ i.shared.books.discarded
  discarded_stay none =
      ap (λ (b : FrameBooks). b.discarded) books_are ∙ grown_none (discarded_by (transition i e).effect) none i.shared.books.discarded eight.discarded

  -- an event that brings no frames leaves all books
  pub all_stay : is_frameless (transition i e).effect ≡ true → after.shared.books ≡ i.shared.books
  all_stay frameless = λ k. record {
    decoded = decoded_stay (λ n. none_fed (transition i e).effect report n frameless) k;
    written = written_stay (λ n. none_written (transition i e).effect n frameless) k;
    discarded = discarded_stay (λ n. none_discarded (transition i e).effect n frameless) k;
  }

  -- no number becomes smaller
  pub decoded_grows : sum i.shared.books.decoded ≤ sum after.shared.books.decoded
  decoded_grows = rw (ap (λ (b : FrameBooks). b.decoded) books_are)
      (grown_sum (decoded_by (transition i e).effect report) i.shared.books.decoded eight.decoded)

  pub written_grows : sum i.shared.books.written ≤ sum after.shared.books.written
  written_grows = rw (ap (λ (b : FrameBooks). b.written) books_are) (grown_sum (written_by (transition i e).effect) i.shared.books.written eight.written)

  pub discarded_grows : sum i.shared.books.discarded ≤ sum after.shared.books.discarded
  discarded_grows = rw (ap (λ (b : FrameBooks). b.discarded) books_are) (grown_sum (discarded_by (transition i e).effect) i.shared.books.discarded eight.discarded)

-- an event that is within its limits is one of a seat that can be counted further, and its frames can be
-- counted
within_by : (full counts keeps : Bool) → (if full || not counts then Some AtLimit else (if keeps then None else Some CutsAtLimit)) ≡ None → (full ≡ false) × (counts ≡ true)
within_by true counts keeps e = cc
within_by false true keeps e = (refl, refl)
within_by false false keeps e = cc

pub within : (seat : ℕ) (i : Image) (e : Event) → limit_of seat i e ≡ None
    → (nat_le 9223372036854775807 (slice_index_or i.shared.made seat 0) ≡ false) × (counts_frames i e (transition i e) ≡ true)
unfolding limit_of
within seat i e none = within_by (nat_le 9223372036854775807 (slice_index_or i.shared.made seat 0)) (counts_frames i e (transition i e)) (keeps_limits i e (transition i e)) none

below : (n : ℕ) → nat_le 9223372036854775807 n ≡ false → n + 1 < 2 ^ 63
below n e = grind (arith, nat_tests)

-- the seat of an event that is within its limits
pub own_below : (seat : ℕ) (i : Image) (e : Event) → limit_of seat i e ≡ None → slice_index_or i.shared.made seat 0 + 1 < 2 ^ 63
own_below seat i e none = below (slice_index_or i.shared.made seat 0) (within seat i e none).0

both : (a b : Bool) → (a && b) ≡ true → (a ≡ true) × (b ≡ true)
both true b e = (refl, e)
both false b e = cc

counted_below : (numbers : List ℕ) → length numbers ≡ 8 → can_count numbers ≡ true → sum numbers < 2 ^ 63
counted_below numbers many can =
    let all : sum numbers ≡ total numbers = total_sum numbers many in
    let few : total numbers ≤ 9223372036854775807 = grind (arith, nat_tests) in
    omega (arith, all, few)

-- the sums of books that can be counted
pub record AreFew (b : FrameBooks) : Type 0 where
  pub decoded : sum b.decoded < 2 ^ 63
  pub written : sum b.written < 2 ^ 63
  pub discarded : sum b.discarded < 2 ^ 63

few_by : (b : FrameBooks) → HasEight b → can_count_all b ≡ true → AreFew b
few_by b eight can =
    let one = both (can_count b.decoded) (can_count b.written && can_count b.discarded) can in
    let two = both (can_count b.written) (can_count b.discarded) one.1 in
    record {
      decoded = counted_below b.decoded eight.decoded one.0;
      written = counted_below b.written eight.written two.0;
      discarded = counted_below b.discarded eight.discarded two.1;
    }

eight_after : (b : FrameBooks) (d : Effect) (report : Report) → HasEight (books_after b d report)
eight_after b d given = record { decoded = refl; written = refl; discarded = refl }

pub few_after : (seat : ℕ) (i after : Image) (e : Event) → limit_of seat i e ≡ None → after ≡ next_image seat i e → AreFew after.shared.books
few_after seat i after e none is =
    let report : Report = report_at i e (transition i e) in
    let are : after.shared.books ≡ books_after i.shared.books (transition i e).effect report = ap (λ (j : Image). j.shared.books) is ∙ books_next seat i e in
    subst AreFew (sym are) (few_by (books_after i.shared.books (transition i e).effect report)
    (eight_after i.shared.books (transition i e).effect report) (within seat i e none).1)

-- a have is no turn, and a turn feeds nothing
no_fates : (ended : Bool) (part : Option Part) (number frames : ℕ) (output : ℕ)
    → (written_by (have ended part number frames).effect output ≡ 0) × (discarded_by (have ended part number frames).effect output ≡ 0)
no_fates ended None number frames output = (refl, refl)
no_fates true (Some part) number frames output = (refl, refl)
no_fates false (Some part) number frames output = (refl, refl)

pub have_fates : (seat : ℕ) (i after : Image) (index number frames : ℕ) → HasEight i.shared.books → after ≡ next_image seat i (Have index number frames)
    → (after.shared.books.written ≡ i.shared.books.written) × (after.shared.books.discarded ≡ i.shared.books.discarded)
have_fates seat i after index number frames eight is =
    let part : Option Part = part_at index i.parts in
    (written_stay seat i after (Have index number frames) eight is (λ n. (no_fates i.shared.ended part number frames n).0), discarded_stay seat i after (Have index number frames) eight is (λ n. (no_fates i.shared.ended part number frames n).1))

turn_feeds : (part : Option Part) (output written discarded : ℕ) (failed : Bool) (report : Report) (number : ℕ)
    → decoded_by (output_turn part output (Settles output written discarded failed)).effect report number ≡ 0
turn_feeds None output written discarded failed told number = refl
turn_feeds (Some part) output written discarded failed told number =
    elim (is_output part.outputs output) as (λ b. decoded_by (if b then acts (Settles output written discarded failed) else absent).effect told number ≡ 0)
    [ true ↦ refl | false ↦ refl ]

pub turn_decoded : (seat : ℕ) (i after : Image) (output written discarded : ℕ) (failed : Bool) → HasEight i.shared.books
    → after ≡ next_image seat i (OutputTurn output written discarded failed) → after.shared.books.decoded ≡ i.shared.books.decoded
turn_decoded seat i after output written discarded failed eight is =
    decoded_stay seat i after (OutputTurn output written discarded failed) eight is
    (turn_feeds (part_at (index_at i (OutputTurn output written discarded failed)) i.parts) output written discarded failed (report_at i (OutputTurn output written discarded failed) (transition i (OutputTurn output written discarded failed))))
