-- Clients stay in the order of their numbers, and none waits for what is pending for it.
use Rattle.std.proofs.Common.{◌≡◌, inl, inr, ℕ, ◌==◌, Bool, true, false, List, [], ◌∷◌, Option, Some, None, map, refl, ap, sym, subst, ◌∙◌, if◌then◌else◌}
use Rattle.std.specs.Prelude.{unwrap_or}
use Rattle.std.proofs.lemmas.Bool.{eqb-true}
use Rattle.idle_notes.specs.declared.pending.Pending.{Pending}
use Rattle.idle_notes.specs.declared.sets.Subsystems.{Subsystems}
use Rattle.idle_notes.specs.Notes.{cancelled, due, fresh, noted, notice_of, up_to_date, waits}
use Rattle.idle_notes.specs.Sets.{is_nonempty, meet, none}
use Rattle.player_state.specs.declared.state.Client.{Client}
use Rattle.player_state.specs.declared.state.Library.{Library}
use Rattle.player_state.specs.declared.state.Part.{Part}
use Rattle.partition_table.specs.Parts.{known, part_at}
use Rattle.transitions.specs.Transitions.{TransitionData, quiet}
use Rattle.transitions.specs.declared.reply.Move.{Move}
use Rattle.transitions.specs.declared.reply.Move.TheVariants.{Stay, Wait, Learn, Resume, Join, Show, Enter}
use Rattle.status_commands.specs.Status.{idles}
use Rattle.connected_clients.proofs.Rises.{rising_after}
use Rattle.connected_clients.specs.Clients.{AllAbove, Rising, at, client_of, clients_after, entered, move_of, moved, notice_for, notice_to, notified, shown, staying}
use Rattle.connected_clients.specs.UpToDate.{AllUpToDate, IsUpToDate}
use Rattle.player_events.specs.declared.event.Event.{Event}
use Rattle.partition.specs.Image.{Image, opening, overview}
use Rattle.partition.specs.Step.{client_among, sender_number, next_image, index_at, raised_by, raised_of, sender, sender_in, transition}
use Rattle.partition_laws.specs.Apart.{LeadsToLegal, Legal, OpensLegal, StaysLegal, no_shelf_changes}
use Rattle.player_events.specs.declared.event.LogEntry.{LogEntry}
use Rattle.partition.specs.History.{replay}
use Rattle.partition.proofs.UpToDate.{all_notified, at_up_to_date, entered_up_to_date, noted_none, up_to_date_joined, up_to_date_map, shown_up_to_date}
use Rattle.partition_laws.proofs.Clients.{above_none}
use Rattle.partition_laws.proofs.Raised.{raised_is, spoken, unspoken}
use Rattle.partition_laws.proofs.Rebuilt.{rests}
use Rattle.partition_laws.proofs.Transitions.{IsCalm, calm_or_idles}

-- a move by which no client begins to wait keeps each up to date
up_to_date_moved : (n : ℕ) (move : Move) (ks : List Client) → IsCalm move → AllUpToDate ks → AllUpToDate (moved n move ks)
up_to_date_moved n Stay ks calm all = all
up_to_date_moved n (Wait names) ks calm all = absurd calm
up_to_date_moved n Learn ks calm all = up_to_date_map (at n (λ p. fresh)) (at_up_to_date n (λ p. fresh) (λ p. refl)) ks all
up_to_date_moved n Resume ks calm all = up_to_date_map (at n cancelled) (at_up_to_date n cancelled (λ p. refl)) ks all
up_to_date_moved n Join ks calm all = up_to_date_joined n ks all
up_to_date_moved n (Show tags) ks calm all = up_to_date_map (shown n tags) (shown_up_to_date n tags) ks all
up_to_date_moved n (Enter index) ks calm all = up_to_date_map (entered n index) (entered_up_to_date n index) ks all

-- where nothing is raised for it, a client that is up to date is as it was, and is not told
module _ (r : Client → Subsystems) (k : Client) (nothing : r k ≡ none) (one : IsUpToDate k) where
  unheard : noted (r k) k.pending ≡ k.pending
  unheard = ap (λ (s : Subsystems). noted s k.pending) nothing ∙ noted_none k.pending

  pub still : notified r k ≡ k
  still =
      ap (λ (p : Pending). record k { pending = up_to_date p }) unheard
      ∙ ap (λ (b : Bool). record k { pending = if b then fresh else k.pending }) one

  pub silent : notice_for r k ≡ []
  silent =
      ap (λ (p : Pending). notice_to k.number (notice_of p)) unheard
      ∙ ap (λ (b : Bool). notice_to k.number (if b then Some (due k.pending) else None)) one

pub up_to_date_at : (n : ℕ) (k : Client) (ks : List Client) → AllUpToDate ks → client_of n ks ≡ Some k → IsUpToDate k
up_to_date_at n k [] all e = cc
up_to_date_at n k (c ∷ cs) all e =
    let cases : (b : Bool) → (if b then Some c else client_of n cs) ≡ Some k → IsUpToDate k =
    λ b. elim b as (λ b. (if b then Some c else client_of n cs) ≡ Some k → IsUpToDate k) [
      | true ↦ λ f. (let same : c ≡ k = cc in subst IsUpToDate same all.0)
      | false ↦ λ f. up_to_date_at n k cs all.1 f
    ] in
    cases (c.number == n) e

all_still : (r : Client → Subsystems) → ((k : Client) → r k ≡ none) → (ks : List Client) → AllUpToDate ks → map (notified r) ks ≡ ks
all_still r nothing [] all = refl
all_still r nothing (k ∷ ks) all = λ i. still r k (nothing k) all.0 i ∷ all_still r nothing ks all.1 i

-- one client begins to wait, for which nothing of what it names is pending
module _ (m : ℕ) (names : Subsystems) where
  waits_all : (ks : List Client) → Rising ks → AllUpToDate ks → ((k : Client) → client_of m ks ≡ Some k → is_nonempty (meet k.pending.changed names) ≡ false)
      → AllUpToDate (map (at m (waits names)) ks)
  waits_all [] rises all free = tt
  waits_all (k ∷ ks) rises all free =
      let cases : (b : Bool) → (k.number == m) ≡ b → ((c : Client) → (if b then Some k else client_of m ks) ≡ Some c → is_nonempty (meet c.pending.changed names) ≡ false)
      → (is_nonempty (due (if b then record k { pending = waits names k.pending } else k).pending) ≡ false) × AllUpToDate (map (at m (waits names)) ks) =
      λ b. elim b as (λ b. (k.number == m) ≡ b → ((c : Client) → (if b then Some k else client_of m ks) ≡ Some c → is_nonempty (meet c.pending.changed names) ≡ false)
      → (is_nonempty (due (if b then record k { pending = waits names k.pending } else k).pending) ≡ false) × AllUpToDate (map (at m (waits names)) ks)) [
        | true ↦ λ e f.
            let none_left : client_of m ks ≡ None = above_none m ks (subst (λ x. AllAbove x ks) (eqb-true k.number m e) rises.0) in
            (f k refl, waits_all ks rises.1 all.1 (λ c g. (let clash : None ≡ Some c = sym none_left ∙ g in cc)))
        | false ↦ λ e f. (all.0, waits_all ks rises.1 all.1 f)
      ] in
      cases (k.number == m) refl free

among : (o : Option ℕ) (ks : List Client) (k : Client) → client_among o ks ≡ Some k → client_of (unwrap_or o 0) ks ≡ Some k
among None ks k e = cc
among (Some number) ks k e = e

-- a client that begins to wait raises nothing
waiting_raises : (m at : ℕ) (ps : List Part) (l : Library) (names : Subsystems) (k : Client) → raised_by m at ps l (quiet (idles names None)) k ≡ none
waiting_raises m at ps l names k =
    let t : TransitionData = quiet (idles names None) in
    raised_is k.index m at ps l t k refl
    ∙ ap (λ (qs : List Part). spoken false k.number (part_at k.index ps) (part_at k.index qs) no_shelf_changes l l (map known ps) (map known qs)) (rests l.rate at ps)
    ∙ unspoken k.number (part_at k.index ps) l (map known ps)

module _ (i : Image) (event : Event) (legal : Legal i) where
  abbrev m : ℕ
  m = sender_number event

  abbrev LeavesUpToDate : TransitionData → Type 0
  LeavesUpToDate t = AllUpToDate (clients_after m (raised_of i event t) t.response i.clients)

  idles_up_to_date : (k : Client) (names : Subsystems) → sender_in i.clients event ≡ Some k → LeavesUpToDate (quiet (idles names (notice_of (waits names k.pending))))
  idles_up_to_date k names is =
      let d : Subsystems = meet k.pending.changed names in
      let cases : (b : Bool) → is_nonempty d ≡ b → LeavesUpToDate (quiet (idles names (if b then Some d else None))) =
      λ b. elim b as (λ b. is_nonempty d ≡ b → LeavesUpToDate (quiet (idles names (if b then Some d else None)))) [
        | true ↦ λ e. up_to_date_moved m Learn (map (notified (raised_of i event (quiet (idles names (Some d))))) i.clients) tt (all_notified (raised_of i event (quiet (idles names (Some d)))) i.clients)
        | false ↦ λ e.
            let r : Client → Subsystems = raised_of i event (quiet (idles names None)) in
            let heard : map (notified r) i.clients ≡ i.clients =
            all_still r (λ c. waiting_raises m (index_at i event) i.parts i.shared.library names c) i.clients legal.up_to_date in
            let free : (c : Client) → client_of m i.clients ≡ Some c → is_nonempty (meet c.pending.changed names) ≡ false =
            λ c f. (let both : Some k ≡ Some c = sym (among (sender event) i.clients k is) ∙ f in let same : k ≡ c = cc in ap (λ (x : Client). is_nonempty (meet x.pending.changed names)) (sym same) ∙ e) in
            subst (λ (ks : List Client). AllUpToDate (map (at m (waits names)) ks)) (sym heard) (waits_all m names i.clients legal.rising legal.up_to_date free)
      ] in
      cases (is_nonempty d) refl

  up_to_date_after : LeavesUpToDate (transition i event)
  up_to_date_after =
      let t : TransitionData = transition i event in
      let r : Client → Subsystems = raised_of i event t in
      elim (calm_or_idles (overview i) (part_at (index_at i event) i.parts) i.shared.library (sender_in i.clients event) event) [
        | inl calm ↦ up_to_date_moved m (move_of t.response) (map (notified r) (staying m t.response i.clients)) calm (all_notified r (staying m t.response i.clients))
        | inr w ↦ subst LeavesUpToDate (sym w.3) (idles_up_to_date w.0 w.1 w.2)
      ]

pub stays_legal : StaysLegal
unfolding next_image
stays_legal seat i event legal = record {
  rising = rising_after (sender_number event) (raised_of i event (transition i event)) (transition i event).response i.clients legal.rising;
  up_to_date = up_to_date_after i event legal;
}

pub opens_legal : OpensLegal
opens_legal setup library = record { rising = tt; up_to_date = tt }

legal_after : (history : List LogEntry) (i : Image) → Legal i → Legal (replay i history)
legal_after [] i legal = legal
legal_after (h ∷ hs) i legal = legal_after hs (next_image h.seat i h.event) (stays_legal h.seat i h.event legal)

pub leads_to_legal : LeadsToLegal
leads_to_legal setup library history = legal_after history (opening setup library) (opens_legal setup library)
