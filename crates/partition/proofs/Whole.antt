-- The entries of a list, as a whole.
use Rattle.std.proofs.Common.{◌≡◌, ℕ, suc, ◌+◌, Bool, true, false, ◌||◌, List, [], ◌∷◌, ◌++◌, refl, ap, sym, ◌∙◌, if◌then◌else◌}
use Rattle.std.specs.List.{list_any}
use Rattle.command_lists.specs.declared.word.ListForm.{ListForm}
use Rattle.player_events.specs.declared.event.Event.{Event}
use Rattle.player_events.specs.declared.event.Event.TheVariants.{Line}
use Rattle.player_events.specs.declared.event.LogEntry.{LogEntry}
use Rattle.transitions.specs.declared.asked.ListPlace.TheVariants.{InList}
use Rattle.partition.specs.Image.{Image}
use Rattle.partition.specs.Lists.{Answered, entries_of, AreEntries, EntriesAre}
use Rattle.player_events.specs.Events.{ends_list}
use Rattle.partition.specs.Step.{next_image, told}

rest_of : List LogEntry → List LogEntry
rest_of [] = []
rest_of (h ∷ hs) = hs

first_or : LogEntry → List LogEntry → LogEntry
first_or h [] = h
first_or h (g ∷ gs) = g

nothing : (front : List LogEntry) (entry : LogEntry) (more : List LogEntry) → [] ≡ front ++ entry ∷ more → ⊥
nothing [] entry more e = cc
nothing (f ∷ fs) entry more e = cc

-- after an entry that is alone there is nothing
last_alone : (h : LogEntry) (front : List LogEntry) (entry : LogEntry) (more : List LogEntry) → h ∷ [] ≡ front ++ entry ∷ more → more ≡ []
unfolding rest_of
last_alone h [] entry more e = sym (ap rest_of e)
last_alone h (f ∷ fs) entry more e = absurd (nothing fs entry more (ap rest_of e))

-- an entry that does not end the list, before others
last_more : (h : LogEntry) (rest : List LogEntry) → ends_list h.told ≡ false
    → ((front : List LogEntry) (entry : LogEntry) (more : List LogEntry) → rest ≡ front ++ entry ∷ more → ends_list entry.told ≡ true → more ≡ [])
    → (front : List LogEntry) (entry : LogEntry) (more : List LogEntry) → h ∷ rest ≡ front ++ entry ∷ more → ends_list entry.told ≡ true → more ≡ []
unfolding rest_of first_or
last_more h rest goes_on below [] entry more e end =
    let same : h ≡ entry = ap (first_or h) e in
    let clash : true ≡ false = sym end ∙ ap (λ (x : LogEntry). ends_list x.told) (sym same) ∙ goes_on in
    cc
last_more h rest goes_on below (f ∷ fs) entry more e end = below fs entry more (ap rest_of e) end

module _ (seat : ℕ) (i : Image) (client : ℕ) (form : ListForm) (place : ℕ) (request : Answered) (requests : List Answered) where
  abbrev event : Event
  event = Line client (InList form place) request.0 request.1

  abbrev first : LogEntry
  first = record { seat = seat; event = event; told = told i event }

  alone : ends_list (told i event) ≡ true → AreEntries seat i client form place (request ∷ requests) (first ∷ [])
  alone ends = record {
    events = refl;
    told = (refl, tt);
    last = λ front entry more e end. last_alone first front entry more e;
    whole = λ none. (let clash : true ≡ false = sym (ap (λ b. b || false) ends) ∙ none in cc);
  }

  before_others : (rest : List LogEntry) → ends_list (told i event) ≡ false → AreEntries seat (next_image seat i event) client form (place + 1) requests rest
      → AreEntries seat i client form place (request ∷ requests) (first ∷ rest)
  before_others rest goes_on r = record {
    events = ap (λ l. (seat, event) ∷ l) r.events;
    told = (refl, r.told);
    last = last_more first rest goes_on r.last;
    whole = λ none. ap suc (r.whole (sym (ap (λ b. b || list_any (λ (h : LogEntry). ends_list h.told) rest) goes_on) ∙ none));
  }

-- of every list
pub entries_are : EntriesAre
unfolding entries_of
entries_are seat i client form place [] =
    record { events = refl; told = tt; last = λ front entry more e end. absurd (nothing front entry more e); whole = λ none. refl }
entries_are seat i client form place (request ∷ requests) =
    let event : Event = Line client (InList form place) request.0 request.1 in
    let rest : List LogEntry = entries_of seat (next_image seat i event) client form (place + 1) requests in
    let cases : (b : Bool) → ends_list (told i event) ≡ b
    → AreEntries seat i client form place (request ∷ requests) (record { seat = seat; event = event; told = told i event } ∷ (if b then [] else rest)) =
    λ b. elim b as (λ b. ends_list (told i event) ≡ b
    → AreEntries seat i client form place (request ∷ requests) (record { seat = seat; event = event; told = told i event } ∷ (if b then [] else rest))) [
      | true ↦ λ e. alone seat i client form place request requests e
      | false ↦ λ e. before_others seat i client form place request requests rest e (entries_are seat (next_image seat i event) client form (place + 1) requests)
    ] in
    cases (ends_list (told i event)) refl
