-- Events that joined the history, or were refused.
use Rattle.std.proofs.Common.{◌≡◌, ◌⊎◌, inl, inr, ℕ, true, false, List, [], ◌∷◌, ◌++◌, None, refl, ap, sym, subst, ◌∙◌}
use Rattle.std.specs.Prelude.{nat_le, slice_index_or}
use Rattle.shelf.specs.Calls.{Call}
use Rattle.shelf.specs.Maps.{Standing}
use Rattle.player_events.specs.declared.event.Event.{Event}
use Rattle.player_events.specs.declared.event.LogEntry.{LogEntry}
use Rattle.partition.specs.declared.partition.PartitionFault.{PartitionFault}
use Rattle.partition.specs.declared.partition.PartitionFault.TheVariants.{HistoryFull, CutsAtLimit, AtLimit, NoMemory}
use Rattle.player_events.specs.Outcomes.{OutcomeData}
use Rattle.partition.specs.Image.{Image, counted}
use Rattle.partition.specs.Lent.{IsRefused, Records, question, writing}
use Rattle.partition.specs.Refusals.{MayRefuse, RefusesTransition}
use Rattle.transitions.specs.Shelves.{Serves, LeavesUnchanged}
use Rattle.partition.specs.Step.{after_transition, counts_frames, keeps_limits, limit_of, next_image, told, told_by, transition}
use Rattle.player_events.specs.Events.{with_store_reply, store_reply_at}
use Rattle.partition.proofs.Lending.{may_want}

abbrev IsFree : ℕ → Image → Type 0
IsFree seat i = nat_le 9223372036854775807 (slice_index_or i.shared.made seat 0) ≡ false

-- what refuses a transition is the limit that its event would pass, or want of memory
pub may_refuse : (seat : ℕ) (i : Image) (e : Event) (fault : PartitionFault) → IsFree seat i → RefusesTransition i e (transition i e) fault → MayRefuse (limit_of seat i e) fault
unfolding limit_of
may_refuse seat i e AtLimit free refused = rw (free, refused) (inl refl)
may_refuse seat i e CutsAtLimit free refused = rw (free, refused.0, refused.1) (inl refl)
may_refuse seat i e NoMemory free refused = may_want (limit_of seat i e)
may_refuse seat i e HistoryFull free refused = absurd refused

-- an event that passes no limit
pub is_within : (seat : ℕ) (i : Image) (e : Event) → IsFree seat i → counts_frames i e (transition i e) ≡ true → keeps_limits i e (transition i e) ≡ true → limit_of seat i e ≡ None
unfolding limit_of
is_within seat i e free counts keeps = rw (free, counts, keeps) refl

pub is_told : (i : Image) (e : Event) (outcome : OutcomeData) → outcome ≡ told_by i e (transition i e) → outcome ≡ told i e
unfolding told
is_told i e outcome is = is

pub is_next : (seat : ℕ) (i after : Image) (e : Event) → after ≡ counted seat (after_transition i e (transition i e)) → after ≡ next_image seat i e
unfolding next_image
is_next seat i after e is = is

module _ {S : Type 0} (standing : S → Standing) (failed : S → S → Call → Type 0) where
  -- an event joined the history as the one that heard what it heard
  pub records : (before after : Image) (history later : List LogEntry) (old new : S) (seat : ℕ) (event heard : Event) (outcome : OutcomeData)
      → heard ≡ with_store_reply event (store_reply_at heard)
      → later ≡ history ++ record { seat = seat; event = heard; told = outcome } ∷ []
      → outcome ≡ told_by before heard (transition before heard) → after ≡ counted seat (after_transition before heard (transition before heard))
      → IsFree seat before → counts_frames before heard (transition before heard) ≡ true → keeps_limits before heard (transition before heard) ≡ true
      → Serves standing failed old new (question before event) (writing before event (store_reply_at heard)) (store_reply_at heard)
      → Records standing failed before after history later old new seat event outcome
  records before after history later old new seat event heard outcome heard_is window told_is after_is free counts keeps serves = record {
    heard = store_reply_at heard;
    window = window ∙ ap (λ (e : Event). history ++ record { seat = seat; event = e; told = outcome } ∷ []) heard_is;
    told_is = is_told before heard outcome told_is ∙ ap (told before) heard_is;
    present = is_next seat before after heard after_is ∙ ap (next_image seat before) heard_is;
    within = ap (limit_of seat before) (sym heard_is) ∙ is_within seat before heard free counts keeps;
    shelf = serves;
  }

  pub refuses : (i : Image) (old new : S) (seat : ℕ) (event heard : Event) (fault : PartitionFault)
      → heard ≡ with_store_reply event (store_reply_at heard) → IsFree seat i → RefusesTransition i heard (transition i heard) fault
      → (fault ≡ NoMemory) ⊎ Serves standing failed old new (question i event) (writing i event (store_reply_at heard)) (store_reply_at heard)
      → LeavesUnchanged standing failed old new → IsRefused standing failed i old new seat event fault
  refuses i old new seat event heard fault heard_is free refused cause unchanged = record {
    heard = store_reply_at heard;
    refused = subst (λ (e : Event). MayRefuse (limit_of seat i e) fault) heard_is (may_refuse seat i heard fault free refused);
    cause = elim cause [ inl none ↦ inl none | inr serves ↦ inr (inr serves) ];
    unchanged = unchanged;
  }

  -- the same, where the state was found equal to the one before
  pub records_before : (found before after : Image) (history later : List LogEntry) (old new : S) (seat : ℕ) (event heard : Event) (outcome : OutcomeData)
      → found ≡ before → heard ≡ with_store_reply event (store_reply_at heard)
      → later ≡ history ++ record { seat = seat; event = heard; told = outcome } ∷ []
      → outcome ≡ told_by found heard (transition found heard) → after ≡ counted seat (after_transition found heard (transition found heard))
      → IsFree seat found → counts_frames found heard (transition found heard) ≡ true → keeps_limits found heard (transition found heard) ≡ true
      → Serves standing failed old new (question found event) (writing found event (store_reply_at heard)) (store_reply_at heard)
      → Records standing failed before after history later old new seat event outcome
  records_before found before after history later old new seat event heard outcome same heard_is window told_is after_is free counts keeps serves =
      subst (λ (i : Image). Records standing failed i after history later old new seat event outcome) same
      (records found after history later old new seat event heard outcome heard_is window told_is after_is free counts keeps serves)

  pub refuses_before : (found before : Image) (old new : S) (seat : ℕ) (event heard : Event) (fault : PartitionFault)
      → found ≡ before → heard ≡ with_store_reply event (store_reply_at heard) → IsFree seat found → RefusesTransition found heard (transition found heard) fault
      → (fault ≡ NoMemory) ⊎ Serves standing failed old new (question found event) (writing found event (store_reply_at heard)) (store_reply_at heard)
      → LeavesUnchanged standing failed old new → IsRefused standing failed before old new seat event fault
  refuses_before found before old new seat event heard fault same heard_is free refused cause unchanged =
      subst (λ (i : Image). IsRefused standing failed i old new seat event fault) same (refuses found old new seat event heard fault heard_is free refused cause unchanged)
