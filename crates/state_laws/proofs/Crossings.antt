-- What a command of partitions makes of a daemon.
use Rattle.std.proofs.Common.{◌≡◌, ℕ, ◌==◌, Bool, true, false, List, [], ◌∷◌, map, Some, None, option_map, refl, ap, sym, ◌∙◌, if◌then◌else◌}
use Rattle.std.proofs.lemmas.Bool.{eq-eqb, eqb-true}
use Rattle.connected_clients.specs.Clients.{client_of, clients_after, entered, notified}
use Rattle.idle_notes.specs.Notes.{everything}
use Rattle.idle_notes.specs.declared.sets.Subsystems.{Subsystems}
use Rattle.mpd_command.specs.declared.command.Command.TheVariants as command
use Rattle.mpd_command.specs.declared.name.Name.{Name}
use Rattle.mpd_command.specs.declared.partitions.PartitionCommand.{PartitionCommand}
use Rattle.mpd_command.specs.declared.request.Request.TheVariants.{Run}
use Rattle.partition_table.specs.declared.crossing.Crossing.{Crossing}
use Rattle.partition_table.specs.Parts.{changed, known, part_at, parts_moved}
use Rattle.partition.specs.Image.{Image}
use Rattle.partition.specs.Step.{asked_by, next_image, raised_of}
use Rattle.partition_commands.specs.Partitions.{planned, seated}
use Rattle.player_events.specs.declared.event.Event.{Event}
use Rattle.player_state.specs.Effects.{part_after}
use Rattle.player_state.specs.Libraries.{library_after}
use Rattle.player_state.specs.declared.effect.CommandEffect.TheVariants.{Leaves as LeavesIt, Rests}
use Rattle.player_state.specs.declared.effect.Effect.{Effect}
use Rattle.player_state.specs.declared.effect.Effect.TheVariants.{ByCommand}
use Rattle.player_state.specs.declared.scan.ScanMove.TheVariants.{Stay}
use Rattle.player_state.specs.declared.state.Client.{Client}
use Rattle.player_state.specs.declared.state.Part.{Part}
use Rattle.transitions.specs.Answers.{ResponseData, stays}
use Rattle.transitions.specs.Transitions.{TransitionData, enters}
use Rattle.transitions.specs.declared.asked.ListPlace.TheVariants.{Alone}
use Rattle.transitions.specs.declared.reply.Next.TheVariants.{Goes}
use Rattle.transitions.specs.declared.shelf_calls.ShelfWrite.TheVariants.{Nothing}
use Rattle.state_laws.specs.Saying.{asking}
use Rattle.state_laws.proofs.Events.{client_mapped, clients_made, library_made, one_client, openings_stay, own_client, parts_made, still_listens}

-- nothing happens in a partition, and the client stays where it is
pub record IsCalm (t : TransitionData) : Type 0 where
  pub effect : t.effect ≡ ByCommand Rests
  pub scan : t.scan ≡ Stay
  pub written : t.written ≡ Nothing
  pub response : t.response ≡ stays t.response.answer
  pub goes : t.response.answer.next ≡ Goes

-- what passes between the partitions is all that happens
pub record Passes (number : ℕ) (c : Crossing) (client : Client) (i j : Image) : Type 0 where
  pub library : j.shared.library ≡ i.shared.library
  pub openings : j.shared.openings ≡ i.shared.openings
  pub own : Client
  pub there : client_of number j.clients ≡ Some own
  pub index : own.index ≡ client.index
  pub listens : own.pending.waiting ≡ None
  pub parts : j.parts ≡ parts_moved c i.parts

-- the client goes to the partition of a number, and leaves its channels and messages
pub record GoesTo (number to : ℕ) (client : Client) (i j : Image) : Type 0 where
  pub library : j.shared.library ≡ i.shared.library
  pub openings : j.shared.openings ≡ i.shared.openings
  pub own : Client
  pub there : client_of number j.clients ≡ Some own
  pub index : own.index ≡ to
  pub listens : own.pending.waiting ≡ None
  pub parts : j.parts ≡ changed i.shared.library.rate client.index (ByCommand (LeavesIt client.number)) i.parts

rests_all : (rate index : ℕ) (ps : List Part) → changed rate index (ByCommand Rests) ps ≡ ps
rests_all rate index [] = refl
rests_all rate index (p ∷ ps) =
    elim (p.index == index) as (λ b. (if b then part_after rate p (ByCommand Rests) ∷ ps else p ∷ changed rate index (ByCommand Rests) ps) ≡ p ∷ ps)
    [ true ↦ refl | false ↦ ap (λ (qs : List Part). p ∷ qs) (rests_all rate index ps) ]

number_is : (number : ℕ) (k : Client) (ks : List Client) → client_of number ks ≡ Some k → k.number ≡ number
number_is number k [] there = cc
number_is number k (c ∷ ks) there =
    let cases : (b : Bool) → (c.number == number) ≡ b → (if b then Some c else client_of number ks) ≡ Some k → k.number ≡ number =
    λ b. elim b as (λ b. (c.number == number) ≡ b → (if b then Some c else client_of number ks) ≡ Some k → k.number ≡ number) [
      | true ↦ λ e h. ap (λ (x : Client). x.number) (sym (one_client c k h)) ∙ eqb-true c.number number e
      | false ↦ λ e h. number_is number k ks h
    ] in
    cases (c.number == number) refl there

-- a client that goes is in the other partition, and does not wait
entered_index : (number to : ℕ) (k : Client) → k.number ≡ number → (entered number to k).index ≡ to
entered_index number to k is =
    ap (λ (b : Bool). (if b then record k { index = to; pending = everything } else k).index) (eq-eqb k.number number is)

entered_listens : (number to : ℕ) (k : Client) → k.pending.waiting ≡ None → (entered number to k).pending.waiting ≡ None
entered_listens number to k free =
    elim (k.number == number) as (λ b. (if b then record k { index = to; pending = everything } else k).pending.waiting ≡ None) [ true ↦ refl | false ↦ free ]

entered_number : (number to : ℕ) (k : Client) → (entered number to k).number ≡ k.number
entered_number number to k = elim (k.number == number) as (λ b. (if b then record k { index = to; pending = everything } else k).number ≡ k.number) [ true ↦ refl | false ↦ refl ]

module _ (seat number : ℕ) (i : Image) (client : Client) (part : Part) (name : Name) (it : PartitionCommand)
    (there : client_of number i.clients ≡ Some client) (listens : client.pending.waiting ≡ None) (placed : part_at client.index i.parts ≡ Some part) where
  abbrev pub Plans : TransitionData → Type 0
  Plans t = planned (map known i.parts) (map seated i.clients) i.shared.openings (asked_by client name Alone) part.index it ≡ t

  abbrev said : Event
  said = asking number (Run name (command.Partitions it))

  abbrev next : Image
  next = next_image seat i said

  pub passes : (t : TransitionData) → Plans t → IsCalm t → Passes number t.crossing client i next
  passes t plans calm =
      let raised : Client → Subsystems = raised_of i said t in
      let rate : ℕ = i.shared.library.rate in
      record {
        library = library_made seat number i client part name (command.Partitions it) t there listens placed refl plans calm.written
            ∙ ap (library_after i.shared.library) calm.scan;
        openings = openings_stay seat number i client part name (command.Partitions it) t there listens placed refl plans calm.written;
        own = notified raised client;
        there = ap (client_of number) (clients_made seat number i client part name (command.Partitions it) t there listens placed refl plans calm.written
            ∙ ap (λ (r : ResponseData). clients_after number raised r i.clients) calm.response)
            ∙ own_client number raised t.response.answer i.clients client calm.goes there;
        index = refl;
        listens = still_listens raised client listens;
        parts = parts_made seat number i client part name (command.Partitions it) t there listens placed refl plans calm.written
            ∙ ap (λ (e : Effect). parts_moved t.crossing (changed rate client.index e i.parts)) calm.effect
            ∙ ap (parts_moved t.crossing) (rests_all rate client.index i.parts);
      }

  pub goes_to : (to : ℕ) → Plans (enters (asked_by client name Alone) to) → GoesTo number to client i next
  goes_to to plans =
      let t : TransitionData = enters (asked_by client name Alone) to in
      let raised : Client → Subsystems = raised_of i said t in
      let after : Client = notified raised client in
      record {
        library = library_made seat number i client part name (command.Partitions it) t there listens placed refl plans refl;
        openings = openings_stay seat number i client part name (command.Partitions it) t there listens placed refl plans refl;
        own = entered number to after;
        there = ap (client_of number) (clients_made seat number i client part name (command.Partitions it) t there listens placed refl plans refl)
            ∙ client_mapped number (entered number to) (entered_number number to) (map (notified raised) i.clients)
            ∙ ap (option_map (entered number to)) (client_mapped number (notified raised) (λ k. refl) i.clients ∙ ap (option_map (notified raised)) there);
        index = entered_index number to after (number_is number client i.clients there);
        listens = entered_listens number to after (still_listens raised client listens);
        parts = parts_made seat number i client part name (command.Partitions it) t there listens placed refl plans refl;
      }
