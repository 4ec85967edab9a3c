-- For which outputs the frames of a partition's last job are, where each of them has a property when the job is given.
use Rattle.std.proofs.Common.{◌≡◌, ◌≢◌, ℕ, ◌==◌, Bool, true, false, not, ◌&&◌, nat_lt, List, [], ◌∷◌, ◌++◌, length, map, Option, Some, None, refl, ap, sym, ◌∙◌, subst, if◌then◌else◌}
use Rattle.std.specs.Prelude.{filter, slice_index_or, slice_set}
use Rattle.std.proofs.lemmas.Bool.{eq-eqb, eqb-true}
use Rattle.std.proofs.lemmas.List.{get_or-set_other}
use Rattle.player_core.specs.declared.state.Job.{Job}
use Rattle.player_state.specs.Effects.{asked_for, outputs_after, part_after, report_after, due_job}
use Rattle.player_state.specs.Outputs.{OutputsData, brought, is_enabled, is_output, owes_any, released, turned}
use Rattle.player_state.specs.declared.effect.AudioStep.TheVariants.{Settles, Wants}
use Rattle.player_state.specs.declared.effect.CommandEffect.TheVariants.{Switches}
use Rattle.player_state.specs.declared.effect.Effect.{Effect}
use Rattle.player_state.specs.declared.effect.Effect.TheVariants.{ByAudio, ByCommand}
use Rattle.player_state.specs.declared.outputs.Carried.{Carried}
use Rattle.player_state.specs.declared.report.Feed.{Feed}
use Rattle.player_state.specs.declared.report.Report.{Report}
use Rattle.player_state.specs.declared.report.Report.TheVariants.{ToDecode, ToFeed}
use Rattle.player_state.specs.declared.state.Part.{Part}
use Rattle.partition_table.specs.Openings.{OpeningsData}
use Rattle.partition_table.specs.Parts.{carried_in, changed, known, known_at, moved_output, once_more, opening_part, outputs_moved, part_at, parts_moved, report_in, shown_outputs}
use Rattle.partition_table.specs.declared.crossing.Crossing.{Crossing}
use Rattle.partition_table.specs.declared.crossing.Crossing.TheVariants.{Stays, Opens, Closes, Brings}
use Rattle.transitions.specs.Transitions.{TransitionData}
use Rattle.player_events.specs.declared.event.Event.{Event}
use Rattle.player_events.specs.declared.event.Event.TheVariants.{Have, Want}
use Rattle.partition.specs.Image.{Image, overview}
use Rattle.partition.specs.Step.{next_image, index_at, sender_in, told, transition, want}
use Rattle.partition_laws.specs.Apart.{after_events}
use Rattle.partition_laws.specs.Moves.{AreApart}
use Rattle.partition_laws.specs.Owing.{GivesNoJob, gives_job, is_job}
use Rattle.partition_laws.specs.Reports.{is_fed_at}
use Rattle.partition_laws.proofs.Crossings.{off_at}
use Rattle.partition_laws.proofs.Moves.{set_false}
use Rattle.partition_laws.proofs.Rebuilt.{found_index}
use Rattle.partition_laws.proofs.Reports.{asked_is, fed_is, feed_is, have_report}
use Rattle.partition_laws.proofs.Transitions.{IsProper, proper}

module _ (index : ℕ) (P : ℕ → ℕ → Type 0) where
  -- the frames of a partition's last job are for outputs that have the property, each moved so often
  abbrev pub AsksOnly : OutputsData → Type 0
  AsksOnly outputs = (output : ℕ) → slice_index_or outputs.asked output false ≡ true → P output (slice_index_or outputs.moves output 0)

  abbrev PartAsksOnly : Part → Type 0
  PartAsksOnly p = (p.index == index) ≡ true → AsksOnly p.outputs

  abbrev pub AllAskOnly : List Part → Type 0
  AllAskOnly [] = Unit {0}
  AllAskOnly (p ∷ ps) = PartAsksOnly p × AllAskOnly ps

  only_without_job : (job : Option Job) (outputs : OutputsData) → is_job (ToDecode job) ≡ false → AsksOnly outputs → AsksOnly (asked_for job outputs)
  only_without_job None outputs e a = a
  only_without_job (Some job) outputs e a = cc

  only_turned : (output : ℕ) (failed : Bool) (outputs : OutputsData) → AsksOnly outputs → AsksOnly (turned outputs output failed)
  only_turned output true outputs a = a
  only_turned output false outputs a = a

  only_after : (rate : ℕ) (p : Part) (effect : Effect) (report : Report) → is_job (report_after rate p effect report) ≡ false → AsksOnly p.outputs → AsksOnly (outputs_after rate p effect)
  only_after rate p (ByCommand (Switches output on)) report e a = a
  only_after rate p (ByAudio (Wants waits)) report e a = only_without_job (due_job rate p waits).job p.outputs e a
  only_after rate p (ByAudio (Settles output written discarded failed)) report e a = only_turned output failed p.outputs a
  only_after rate p _ report e a = a

  only_changed : (rate at : ℕ) (effect : Effect) (report : Report) (ps : List Part)
      → ((at == index) ≡ true → is_job (report_in rate (part_at at ps) effect report) ≡ false) → AllAskOnly ps → AllAskOnly (changed rate at effect ps)
  only_changed rate at effect report [] none a = tt
  only_changed rate at effect report (p ∷ ps) none a =
      let cases : (b : Bool) → (p.index == at) ≡ b → ((at == index) ≡ true → is_job (report_in rate (if b then Some p else part_at at ps) effect report) ≡ false)
      → AllAskOnly (if b then part_after rate p effect ∷ ps else p ∷ changed rate at effect ps) =
      λ b. elim b as (λ b. (p.index == at) ≡ b → ((at == index) ≡ true → is_job (report_in rate (if b then Some p else part_at at ps) effect report) ≡ false)
      → AllAskOnly (if b then part_after rate p effect ∷ ps else p ∷ changed rate at effect ps)) [
        | true ↦ λ f given. (λ e. only_after rate p effect report (given (ap (λ n. n == index) (sym (eqb-true p.index at f)) ∙ e)) (a.0 e), a.1)
        | false ↦ λ f given. (a.0, only_changed rate at effect report ps given a.1)
      ] in
      cases (p.index == at) refl none

  only_added : (new : Part) (ps : List Part) → AsksOnly new.outputs → AllAskOnly ps → AllAskOnly (ps ++ new ∷ [])
  only_added new [] own a = (λ e. own, tt)
  only_added new (p ∷ ps) own a = (a.0, only_added new ps own a.1)

  only_filtered : (keeps : Part → Bool) (ps : List Part) → AllAskOnly ps → AllAskOnly (filter keeps ps)
  only_filtered keeps [] a = tt
  only_filtered keeps (p ∷ ps) a =
      elim (keeps p) as (λ b. AllAskOnly (if b then p ∷ filter keeps ps else filter keeps ps)) [ true ↦ (a.0, only_filtered keeps ps a.1) | false ↦ only_filtered keeps ps a.1 ]

  -- an output that comes or goes is asked no more
  module _ (outputs : OutputsData) (own : ℕ) (a : AsksOnly outputs) where
    set_only : (moves output : ℕ) → slice_index_or (slice_set outputs.asked own false) output false ≡ true → P output (slice_index_or (slice_set outputs.moves own moves) output 0)
    set_only moves output e =
        let cases : (b : Bool) → (output == own) ≡ b → P output (slice_index_or (slice_set outputs.moves own moves) output 0) =
        λ b. elim b as (λ b. (output == own) ≡ b → P output (slice_index_or (slice_set outputs.moves own moves) output 0)) [
          | true ↦ λ f.
              let off : slice_index_or (slice_set outputs.asked own false) output false ≡ false =
              ap (λ n. slice_index_or (slice_set outputs.asked own false) n false) (eqb-true output own f) ∙ set_false outputs.asked own in
              let clash : true ≡ false = sym e ∙ off in cc
          | false ↦ λ f.
              let apart : output ≢ own = λ same. (let clash : true ≡ false = sym (eq-eqb output own same) ∙ f in cc) in
              subst (P output) (sym (get_or-set_other outputs.moves own output moves 0 apart)) (a output (sym (get_or-set_other outputs.asked own output false false apart) ∙ e))
        ] in
        cases (output == own) refl

    only_brought : (c : Carried) (comes : Bool) → AsksOnly (outputs_moved own comes c outputs)
    only_brought c true = elim (is_output outputs own) as (λ b. AsksOnly (if b then outputs else brought outputs own (once_more c))) [ true ↦ a | false ↦ set_only (once_more c).moves ]
    only_brought c false = elim (is_output outputs own) as (λ b. AsksOnly (if b then released outputs own else outputs)) [ true ↦ set_only 0 | false ↦ a ]

  only_moved : (own to : ℕ) (c : Option Carried) (ps : List Part) → AllAskOnly ps → AllAskOnly (map (moved_output own to c) ps)
  only_moved own to c [] a = tt
  only_moved own to None (p ∷ ps) a = (a.0, only_moved own to None ps a.1)
  only_moved own to (Some c) (p ∷ ps) a = (λ e. only_brought p.outputs own (a.0 e) c (p.index == to), only_moved own to (Some c) ps a.1)

  only_crossed : (openings : OpeningsData) (own : ℕ) (c : Crossing) (ps : List Part) → IsProper openings own c → AllAskOnly ps → AllAskOnly (parts_moved c ps)
  only_crossed openings own Stays ps is a = a
  only_crossed openings own (Opens new) ps is a =
      let none : AsksOnly (opening_part openings new.index new.name (shown_outputs new.outputs)).outputs = λ output e. (let clash : true ≡ false = sym e ∙ off_at output in cc) in
      let asks : AsksOnly new.outputs = subst (λ (p : Part). AsksOnly p.outputs) (sym is) none in
      elim (nat_lt (length ps) 16) as (λ b. AllAskOnly (if b then ps ++ new ∷ [] else ps)) [ true ↦ only_added new ps asks a | false ↦ a ]
  only_crossed openings own (Closes gone) ps is a = only_filtered (λ (p : Part). not (p.index == gone)) ps a
  only_crossed openings own (Brings output to) ps is a = only_moved output to (carried_in output to (map known ps)) ps a

  -- what an event does to its own partition decides it
  only_by : (seat : ℕ) (i : Image) (event : Event) → AllAskOnly (changed i.shared.library.rate (index_at i event) (transition i event).effect i.parts) → AllAskOnly (next_image seat i event).parts
  unfolding next_image
  only_by seat i event a =
      let t : TransitionData = transition i event in
      let is : IsProper (overview i).openings (index_at i event) t.crossing =
      proper (overview i) (part_at (index_at i event) i.parts) i.shared.library (sender_in i.clients event) (index_at i event) event
      (λ p f. found_index i.shared.openings (index_at i event) i.parts p f) in
      only_crossed (overview i).openings (index_at i event) t.crossing (changed i.shared.library.rate (index_at i event) t.effect i.parts) is a

  only_next : (seat : ℕ) (i : Image) (event : Event) → gives_job index i event ≡ false → AllAskOnly i.parts → AllAskOnly (next_image seat i event).parts
  unfolding told
  only_next seat i event e a =
      let t : TransitionData = transition i event in
      let report : Report = report_in i.shared.library.rate (part_at (index_at i event) i.parts) t.effect t.report in
      only_by seat i event (only_changed i.shared.library.rate (index_at i event) t.effect t.report i.parts (λ f. sym (ap (λ b. b && is_job report) f) ∙ e) a)

  pub only_over : (i : Image) (es : List (ℕ × Event)) → GivesNoJob index i es → AllAskOnly i.parts → AllAskOnly (after_events i es).parts
  only_over i [] g a = a
  only_over i (e ∷ es) g a = only_over (next_image e.0 i e.1) es g.1 (only_next e.0 i e.1 g.0 a)

  only_at : (p : Part) (ps : List Part) → AllAskOnly ps → part_at index ps ≡ Some p → AsksOnly p.outputs
  only_at p [] a e = cc
  only_at p (x ∷ ps) a e =
      let cases : (b : Bool) → (x.index == index) ≡ b → (if b then Some x else part_at index ps) ≡ Some p → AsksOnly p.outputs =
      λ b. elim b as (λ b. (x.index == index) ≡ b → (if b then Some x else part_at index ps) ≡ Some p → AsksOnly p.outputs) [
        | true ↦ λ g f. (let same : x ≡ p = cc in subst (λ (y : Part). AsksOnly y.outputs) same (a.0 g))
        | false ↦ λ g f. only_at p ps a.1 f
      ] in
      cases (x.index == index) refl e

  only_elsewhere : (ps : List Part) → known_at index (map known ps) ≡ None → AllAskOnly ps
  only_elsewhere [] e = tt
  only_elsewhere (p ∷ ps) e =
      let cases : (b : Bool) → (p.index == index) ≡ b → (if b then Some (known p) else known_at index (map known ps)) ≡ None → AllAskOnly (p ∷ ps) =
      λ b. elim b as (λ b. (p.index == index) ≡ b → (if b then Some (known p) else known_at index (map known ps)) ≡ None → AllAskOnly (p ∷ ps)) [
        | true ↦ λ g f. cc
        | false ↦ λ g f. (λ t. (let clash : true ≡ false = sym t ∙ g in cc), only_elsewhere ps f)
      ] in
      cases (p.index == index) refl e

  only_asked : (rate : ℕ) (effect : Effect) (p : Part) (ps : List Part) → AreApart (map known ps) → part_at index ps ≡ Some p → AsksOnly (outputs_after rate p effect)
      → AllAskOnly (changed rate index effect ps)
  only_asked rate effect p [] apart e own = cc
  only_asked rate effect p (q ∷ ps) apart e own =
      let cases : (b : Bool) → (q.index == index) ≡ b → (if b then Some q else part_at index ps) ≡ Some p → AllAskOnly (if b then part_after rate q effect ∷ ps else q ∷ changed rate index effect ps) =
      λ b. elim b as (λ b. (q.index == index) ≡ b → (if b then Some q else part_at index ps) ≡ Some p → AllAskOnly (if b then part_after rate q effect ∷ ps else q ∷ changed rate index effect ps)) [
        | true ↦ λ g f.
            let same : q ≡ p = cc in
            (λ t. subst (λ (y : Part). AsksOnly (outputs_after rate y effect)) (sym same) own, only_elsewhere ps (subst (λ n. known_at n (map known ps) ≡ None) (eqb-true q.index index g) apart.0))
        | false ↦ λ g f. (λ t. (let clash : true ≡ false = sym t ∙ g in cc), only_asked rate effect p ps apart.3 f own)
      ] in
      cases (q.index == index) refl e

  -- the job is given to a partition which is there, before the end, and for outputs that have the property
  module _ (rate : ℕ) (owes : List Bool) (ps : List Part) where
    abbrev pub BeginsWith : Part → Type 0
    BeginsWith p = part_at index ps ≡ Some p → is_job (ToDecode (due_job rate p (owes_any p.outputs owes)).job) ≡ true
        → AsksOnly (outputs_after rate p (ByAudio (Wants (owes_any p.outputs owes))))

    only_begun : (ended : Bool) (part : Option Part) → part_at index ps ≡ part → AreApart (map known ps) → ((p : Part) → BeginsWith p)
        → is_job (report_in rate part (want ended part owes).effect (want ended part owes).report) ≡ true → AllAskOnly (changed rate index (want ended part owes).effect ps)
    only_begun true None at apart begins e = cc
    only_begun false None at apart begins e = cc
    only_begun true (Some p) at apart begins e = cc
    only_begun false (Some p) at apart begins e = only_asked rate (ByAudio (Wants (owes_any p.outputs owes))) p ps apart at (begins p at e)

  pub only_first : (seat : ℕ) (owes : List Bool) (i : Image) → AreApart (overview i).parts → ((p : Part) → BeginsWith i.shared.library.rate owes i.parts p)
      → gives_job index i (Want index owes) ≡ true → AllAskOnly (next_image seat i (Want index owes)).parts
  unfolding told
  only_first seat owes i apart begins e =
      let t : TransitionData = transition i (Want index owes) in
      let report : Report = report_in i.shared.library.rate (part_at index i.parts) t.effect t.report in
      only_by seat i (Want index owes) (only_begun i.shared.library.rate owes i.parts i.shared.ended (part_at index i.parts) refl apart begins (sym (ap (λ b. b && is_job report) (eq-eqb index index refl)) ∙ e))

  -- what is fed has the property
  pub only_fed : (i : Image) (number frames : ℕ) (feed : Feed) → AllAskOnly i.parts → (told i (Have index number frames)).report ≡ ToFeed (Some feed)
      → (output moves : ℕ) → is_fed_at feed output ≡ Some moves → P output moves
  only_fed i number frames feed asks f output moves h =
      let x = feed_is i.shared.library.rate number frames i.shared.ended (part_at index i.parts) feed (sym (have_report i index number frames) ∙ f) in
      let p : Part = x.0 in
      let own = asked_is (slice_index_or p.outputs.asked output false) (is_enabled p.outputs output) (slice_index_or p.outputs.moves output 0) moves
      (fed_is p.outputs output moves (sym (ap (λ (outputs : List (Option ℕ)). slice_index_or outputs output None) x.2) ∙ h)) in
      subst (P output) own.1 (only_at p i.parts asks x.1 output own.0)
