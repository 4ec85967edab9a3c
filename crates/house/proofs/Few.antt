-- How many notices events give.
use Rattle.std.proofs.Common.{◌≡◌, ℕ, ◌+◌, ◌≤◌, true, false, length, List, [], ◌∷◌, Option, Some, None, refl, ap, arith, length-append, if◌then◌else◌}
use Rattle.std.specs.Prelude.{filter, Result, Ok, Err, IfOk}
use Rattle.std.specs.List.{flat_map}
use Rattle.idle_notes.specs.declared.sets.Subsystems.{Subsystems}
use Rattle.shelf.specs.Calls.{Call}
use Rattle.shelf.specs.Maps.{Standing}
use Rattle.player_events.specs.declared.event.Event.{Event}
use Rattle.player_events.specs.declared.event.LogEntry.{LogEntry}
use Rattle.partition.specs.declared.partition.PartitionFault.{PartitionFault}
use Rattle.player_state.specs.declared.state.Client.{Client}
use Rattle.transitions.specs.Answers.{ResponseData, closes}
use Rattle.player_events.specs.Outcomes.{OutcomeData}
use Rattle.connected_clients.specs.Clients.{is_other, notice_for, notice_to, notices_after, staying}
use Rattle.partition.specs.Image.{Image}
use Rattle.partition.specs.Lent.{Records}
use Rattle.player_events.specs.Events.{with_store_reply}
use Rattle.partition.specs.Step.{sender_number, raised_of, told, transition}

one : (n : ℕ) (names : Option Subsystems) → length (notice_to n names) ≤ 1
one n None = omega arith
one n (Some names) = omega arith

few_for : (raised : Client → Subsystems) (ks : List Client) → length (flat_map (notice_for raised) ks) ≤ length ks
few_for raised [] = omega arith
few_for raised (k ∷ ks) =
    let first : length (notice_for raised k) ≤ 1 = one k.number _ in
    omega (arith, length-append (notice_for raised k) (flat_map (notice_for raised) ks), first, few_for raised ks)

fewer : (n : ℕ) (ks : List Client) → length (filter (is_other n) ks) ≤ length ks
fewer n [] = omega arith
fewer n (k ∷ ks) =
    let rest = fewer n ks in
    elim (is_other n k) as (λ b. length (if b then k ∷ filter (is_other n) ks else filter (is_other n) ks) ≤ length (k ∷ ks)) [ true ↦ omega arith | false ↦ omega arith ]

fewer_stay : (n : ℕ) (response : ResponseData) (ks : List Client) → length (staying n response ks) ≤ length ks
fewer_stay n response ks =
    let rest = fewer n ks in
    elim (closes response.answer.next) as (λ b. length (if b then filter (is_other n) ks else ks) ≤ length ks) [ true ↦ rest | false ↦ omega arith ]

-- what an event tells those who wait
pub told_notices : (i : Image) (e : Event) → (told i e).notices ≡ notices_after (sender_number e) (raised_of i e (transition i e)) (transition i e).response i.clients
unfolding told
told_notices i e = refl

-- at most one for each client that is there
pub few_notices : (i : Image) (e : Event) → length (told i e).notices ≤ length i.clients
few_notices i e =
    let raised : Client → Subsystems = raised_of i e (transition i e) in
    let after = staying (sender_number e) (transition i e).response i.clients in
    let many : length (told i e).notices ≡ length (flat_map (notice_for raised) after) = ap length (told_notices i e) in
    omega (arith, many, few_for raised after, fewer_stay (sender_number e) (transition i e).response i.clients)

module _ {S : Type 0} (standing : S → Standing) (failed : S → S → Call → Type 0) where
  -- there is room for the notices of an event
  pub has_room : (before after : Image) (history later : List LogEntry) (old new : S) (seat : ℕ) (event : Event) (r : Result OutcomeData PartitionFault) (waiting capacity : ℕ)
      → waiting + length before.clients ≤ capacity
      → IfOk r (λ outcome. Records standing failed before after history later old new seat event outcome)
      → IfOk r (λ outcome. waiting + length outcome.notices ≤ capacity)
  has_room before after history later old new seat event (Ok outcome) waiting capacity room records =
      let few = few_notices before (with_store_reply event records.heard) in
      let same : length outcome.notices ≡ length (told before (with_store_reply event records.heard)).notices = ap (λ (t : OutcomeData). length t.notices) records.told_is in
      omega (arith, room, few, same)
  has_room before after history later old new seat event (Err fault) waiting capacity room records = tt
