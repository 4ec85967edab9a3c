-- The room for the notices of command lists, and what lists leave of the books of frames.
use Rattle.std.proofs.Common.{◌≡◌, inr, ℕ, ◌+◌, ◌≤◌, List, [], ◌∷◌, length, map, take, refl, ap, sym, ◌∙◌, arith}
use Rattle.std.specs.Prelude.{Result, Ok, Err, IfErr, IfOk}
use Rattle.command_lists.specs.declared.word.ListForm.{ListForm}
use Rattle.mpd_command.specs.declared.request.Request.{Request}
use Rattle.shelf.specs.Calls.{Call}
use Rattle.shelf.specs.Maps.{Standing}
use Rattle.player_events.specs.declared.event.LogEntry.{LogEntry}
use Rattle.player_events.specs.Outcomes.{OutcomeData}
use Rattle.partition.specs.History.{Chronicle}
use Rattle.partition.specs.Lists.{RunsList, Stop, StopsList, entries_of}
use Rattle.house.specs.Lists.{StopsHere, StopsListSomewhere, TellsListSomewhere, notices_in}
use Rattle.house.specs.Counts.{MayFind}
use Rattle.house.specs.Seats.{SeatCount}
use Rattle.house.proofs.Quiet.{few_entries, few_wait}

take_whole : {X : Type 0} (xs : List X) → take (length xs) xs ≡ xs
take_whole [] = refl
take_whole (x ∷ xs) = ap (λ l. x ∷ l) (take_whole xs)

module _ {S : Type 0} (standing : S → Standing) (failed : S → S → Call → Type 0) (before after : Chronicle) (old new : S) (seat client : ℕ) (form : ListForm) (requests : List Request) where
  few_run : (tolds : List OutcomeData) → RunsList standing failed before after old new seat client form requests tolds → length (notices_in tolds) ≤ length before.present.clients
  few_run tolds runs =
      let entries : List LogEntry = entries_of seat before.present client form 0 runs.answered in
      let few = few_entries seat client form (length entries) 0 before.present runs.answered in
      let all : length (notices_in tolds) ≡ length (notices_in (map (λ (h : LogEntry). h.told) (take (length entries) entries))) =
      ap (λ (ts : List OutcomeData). length (notices_in ts)) runs.told ∙ ap (λ (hs : List LogEntry). length (notices_in (map (λ (h : LogEntry). h.told) hs))) (sym (take_whole entries)) in
      let wait = few_wait before.present.clients in
      omega (arith, few, all, wait)

  few_stop : (stop : Stop) → StopsList standing failed before after old new seat client form requests stop → length (notices_in stop.tolds) ≤ length before.present.clients
  few_stop stop stops =
      let few = few_entries seat client form stop.done 0 before.present stops.answered in
      let all = ap (λ (ts : List OutcomeData). length (notices_in ts)) stops.told in
      let wait = few_wait before.present.clients in
      omega (arith, few, all, wait)

  pub room_run : (r : Result (List OutcomeData) Stop) (waiting capacity : ℕ) → waiting + length before.present.clients ≤ capacity
      → IfOk r (λ tolds. RunsList standing failed before after old new seat client form requests tolds) → IfOk r (λ tolds. waiting + length (notices_in tolds) ≤ capacity)
  room_run (Ok tolds) waiting capacity room runs = (let few = few_run tolds runs in omega (arith, few, room))
  room_run (Err stop) waiting capacity room runs = tt

  pub room_stop : (r : Result (List OutcomeData) Stop) (waiting capacity : ℕ) → waiting + length before.present.clients ≤ capacity
      → IfErr r (λ stop. StopsList standing failed before after old new seat client form requests stop) → IfErr r (λ stop. waiting + length (notices_in stop.tolds) ≤ capacity)
  room_stop (Ok tolds) waiting capacity room stops = tt
  room_stop (Err stop) waiting capacity room stops = (let few = few_stop stop stops in omega (arith, few, room))

  pub here : (r : Result (List OutcomeData) Stop) → IfErr r (λ stop. StopsList standing failed before after old new seat client form requests stop)
      → IfErr r (λ stop. StopsHere standing failed before after old new seat client form requests stop)
  here (Ok tolds) stops = tt
  here (Err stop) stops = inr stops

-- what is told or refused after the past that a list was begun in
module _ {S : Type 0} (standing : S → Standing) (failed : S → S → Call → Type 0) (before after : Chronicle) (old new : S) (seat : SeatCount) (client : ℕ) (form : ListForm) (requests : List Request) where
  pub somewhere_here : (r : Result (List OutcomeData) Stop) → MayFind seat before
      → IfErr r (λ stop. StopsHere standing failed before after old new seat.number client form requests stop)
      → IfErr r (λ stop. StopsListSomewhere standing failed old new seat client form requests stop)
  somewhere_here (Ok tolds) found stops = tt
  somewhere_here (Err stop) found stops = (before, found, (after, stops))

  pub somewhere_run : (r : Result (List OutcomeData) Stop) → MayFind seat before
      → IfOk r (λ tolds. RunsList standing failed before after old new seat.number client form requests tolds)
      → IfOk r (λ tolds. TellsListSomewhere standing failed old new seat client form requests tolds)
  somewhere_run (Ok tolds) found runs = (before, found, (after, runs))
  somewhere_run (Err stop) found runs = tt
