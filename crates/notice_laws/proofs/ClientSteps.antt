-- Each event is a step of each client that stays where it is.
use Rattle.std.proofs.Common.{◌≡◌, ◌≢◌, ℕ, ◌==◌, Bool, true, false, List, Option, Some, None, map, refl, ap, sym, ◌∙◌, subst, if◌then◌else◌}
use Rattle.std.specs.Prelude.{option_map}
use Rattle.std.proofs.lemmas.Bool.{eq-eqb, eqb-true}
use Rattle.song_queue.specs.State.{QueueState}
use Rattle.player_core.specs.declared.state.Job.{Job}
use Rattle.player_state.specs.Effects.{ByStep, Change, asked_for, change_of, outputs_after, part_after, queue_after, due_job}
use Rattle.player_state.specs.Outputs.{OutputsData, brought, is_output, released, turned}
use Rattle.player_state.specs.declared.effect.AudioStep.TheVariants.{Settles, Wants}
use Rattle.player_state.specs.declared.effect.CommandEffect.TheVariants.{Switches}
use Rattle.player_state.specs.declared.effect.Effect.{Effect}
use Rattle.player_state.specs.declared.effect.Effect.TheVariants.{ByAudio, ByCommand}
use Rattle.player_state.specs.declared.outputs.Carried.{Carried}
use Rattle.player_state.specs.declared.state.Part.{Part}
use Rattle.partition_table.specs.Parts.{Known, carried_in, changed, known, moved_output, once_more, outputs_moved, part_at, parts_moved}
use Rattle.partition_table.specs.declared.crossing.Crossing.{Crossing}
use Rattle.partition_table.specs.declared.crossing.Crossing.TheVariants as crossing
use Rattle.partition_table.proofs.Looks.{other_changed, own_changed, own_moved, part_moved}
use Rattle.notice_laws.specs.ClientSteps.{EventsAreClientSteps}

-- the name of a partition, the names of all outputs, and its queue
pub record IsAlike (p : Part) (q : QueueState) (later : Part) : Type 0 where
  pub name : later.name ≡ p.name
  pub outputs : later.outputs.names ≡ p.outputs.names
  pub queue : later.queue ≡ q

abbrev IsAs : Part → Part → Type 0
IsAs p later = IsAlike p p.queue later

as_it_is : (p : Part) → IsAs p p
as_it_is p = record { name = refl; outputs = refl; queue = refl }

only : (p later : Part) → Some p ≡ Some later → IsAs p later
only p later e = (let same : p ≡ later = cc in subst (λ (x : Part). IsAs p x) same (as_it_is p))

names_moved : (output : ℕ) (comes : Bool) (c : Carried) (outputs : OutputsData) → (outputs_moved output comes c outputs).names ≡ outputs.names
names_moved output true c outputs = elim (is_output outputs output) as (λ b. (if b then outputs else brought outputs output (once_more c)).names ≡ outputs.names) [ true ↦ refl | false ↦ refl ]
names_moved output false c outputs = elim (is_output outputs output) as (λ b. (if b then released outputs output else outputs).names ≡ outputs.names) [ true ↦ refl | false ↦ refl ]

moved_as : (output to : ℕ) (c : Option Carried) (p : Part) → IsAs p (moved_output output to c p)
moved_as output to None p = as_it_is p
moved_as output to (Some c) p = record { name = refl; outputs = names_moved output (p.index == to) c p.outputs; queue = refl }

crossed : (index : ℕ) (c : Crossing) (fs : List Known) (p later : Part) → own_moved index c fs (Some p) ≡ Some later → IsAs p later
crossed index crossing.Stays fs p later e = only p later e
crossed index (crossing.Opens new) fs p later e = only p later e
crossed index (crossing.Closes gone) fs p later e =
    elim (gone == index) as (λ b. (if b then None else Some p) ≡ Some later → IsAs p later) [ true ↦ λ f. cc | false ↦ λ f. only p later f ] e
crossed index (crossing.Brings output to) fs p later e =
    let c : Option Carried = carried_in output to fs in
    let same : moved_output output to c p ≡ later = cc in
    subst (λ (x : Part). IsAs p x) same (moved_as output to c p)

names_asked : (job : Option Job) (outputs : OutputsData) → (asked_for job outputs).names ≡ outputs.names
names_asked None outputs = refl
names_asked (Some job) outputs = refl

names_turned : (output : ℕ) (failed : Bool) (outputs : OutputsData) → (turned outputs output failed).names ≡ outputs.names
names_turned output true outputs = refl
names_turned output false outputs = refl

names_after : (rate : ℕ) (p : Part) (effect : Effect) → (outputs_after rate p effect).names ≡ p.outputs.names
names_after rate p (ByCommand (Switches output on)) = refl
names_after rate p (ByAudio (Wants owes)) = names_asked (due_job rate p owes).job p.outputs
names_after rate p (ByAudio (Settles output written discarded failed)) = names_turned output failed p.outputs
names_after rate p _ = refl

module _ (rate index : ℕ) (effect : Effect) (c : Crossing) (parts : List Part) (own later : Part) where
  abbrev after : List Part
  after = changed rate index effect parts

  abbrev change : Bool → Change
  change here = if here then change_of rate own effect else ByStep None

  abbrev IsLeft : Bool → Type 0
  IsLeft here = IsAlike own (queue_after own.queue (change here)) later

  left_here : part_at index parts ≡ Some own → part_at index (parts_moved c after) ≡ Some later → IsLeft true
  left_here e f =
      let there : part_at index after ≡ Some (part_after rate own effect) = own_changed index rate effect parts ∙ ap (option_map (λ (p : Part). part_after rate p effect)) e in
      let by = crossed index c (map known after) (part_after rate own effect) later (sym (part_moved index c after ∙ ap (own_moved index c (map known after)) there) ∙ f) in
      record { name = by.name; outputs = by.outputs ∙ names_after rate own effect; queue = by.queue }

  left_elsewhere : (at : ℕ) → index ≢ at → part_at at parts ≡ Some own → part_at at (parts_moved c after) ≡ Some later → IsLeft false
  left_elsewhere at apart e f =
      let there : part_at at after ≡ Some own = other_changed at rate index effect parts apart ∙ e in
      let by = crossed at c (map known after) own later (sym (part_moved at c after ∙ ap (own_moved at c (map known after)) there) ∙ f) in
      record { name = by.name; outputs = by.outputs; queue = by.queue }

  pub left : (at : ℕ) → part_at at parts ≡ Some own → part_at at (parts_moved c after) ≡ Some later → IsLeft (at == index)
  left at e f =
      let cases : (b : Bool) → (at == index) ≡ b → IsLeft b =
      λ b. elim b as (λ b. (at == index) ≡ b → IsLeft b) [
        | true ↦ λ t.
            let same : at ≡ index = eqb-true at index t in
            left_here (ap (λ n. part_at n parts) (sym same) ∙ e) (ap (λ n. part_at n (parts_moved c after)) (sym same) ∙ f)
        | false ↦ λ t. left_elsewhere at (λ same. (let clash : true ≡ false = sym (eq-eqb at index (sym same)) ∙ t in cc)) e f
      ] in
      cases (at == index) refl

pub events_are_client_steps : EventsAreClientSteps
events_are_client_steps client index t parts library own later e f =
    let by = left library.rate index t.effect t.crossing parts own later client.index e f in
    record { own = e; later = f; name = by.name; outputs = by.outputs; queue = by.queue }
