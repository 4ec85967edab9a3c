-- A fold between any two events is not seen.
use Rattle.std.proofs.Common.{◌≡◌, List, [], ◌∷◌, ◌++◌, refl, ap, sym, subst, ◌∙◌, append_assoc, append-nil}
use Rattle.player_events.specs.declared.event.LogEntry.{LogEntry}
use Rattle.partition.specs.History.{Chronicle, HistoryStep, Appends, Folds, replay, AreTold, AreToldBy, begun, folded, after_one, after_all, events_among}
use Rattle.partition.specs.Image.{Image, opening}
use Rattle.partition.specs.Legal.{FoldsAreUnseen}
use Rattle.partition.specs.Step.{next_image, told}
use Rattle.partition.proofs.Chronicles.{replay-append, AreTold-append}
use Rattle.partition.proofs.Stands.{stands}

module _ (o : Image) where
  -- some events led to the present state, and the window leads there from the base
  abbrev Leads : Chronicle → List LogEntry → Type 0
  Leads c all = (c.present ≡ replay o all) × (AreTold o all × (c.present ≡ replay c.base c.window))

  through : (c : Chronicle) (done : List LogEntry) (xs : List HistoryStep) → Leads c done → AreToldBy c xs → Leads (after_all c xs) (done ++ events_among xs)
  through c done [] leads rightly = subst (Leads c) (sym (append-nil done)) leads
  through c done (Appends h ∷ xs) leads rightly =
      subst (Leads (after_all (after_one c (Appends h)) xs)) (append_assoc done (h ∷ []) (events_among xs))
      (through (after_one c (Appends h)) (done ++ h ∷ []) xs (
        ap (λ (j : Image). next_image h.seat j h.event) leads.0 ∙ sym (replay-append o done h),
        (
          AreTold-append o done h leads.1.0 (rightly.0 ∙ ap (λ (j : Image). told j h.event) leads.0),
          ap (λ (j : Image). next_image h.seat j h.event) leads.1.1 ∙ sym (replay-append c.base c.window h),
        ),
      ) rightly.1)
  through c done (Folds ∷ xs) leads rightly = through (folded c) done xs (leads.0, (leads.1.0, refl)) rightly

pub folds_are_unseen : FoldsAreUnseen
folds_are_unseen limit setup library history_steps above rightly =
    let o : Image = opening setup library in
    let all = through o (begun limit o) [] history_steps (refl, (tt, refl)) rightly in
    (stands setup library (events_among history_steps) (after_all (begun limit o) history_steps).present above all.0 all.1.0, all.1.1)
