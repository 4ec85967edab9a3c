-- Reports of outputs name how often these were moved.
use Rattle.std.proofs.Common.{◌≡◌, ◌≢◌, ℕ, zero, suc, ◌==◌, Bool, true, false, not, ◌&&◌, nat_lt, List, [], ◌∷◌, ◌++◌, length, map, Option, Some, None, refl, ap, sym, ◌∙◌, subst, if◌then◌else◌}
use Rattle.std.specs.Prelude.{filter, option_map, slice_index_or, slice_set, unwrap_or}
use Rattle.std.proofs.lemmas.Bool.{eq-eqb, eqb-true}
use Rattle.std.proofs.lemmas.List.{get_or-set_other}
use Rattle.player_core.specs.Decoding as decoding
use Rattle.player_core.specs.declared.state.Job.{Job}
use Rattle.player_core.specs.declared.state.Live.{Live}
use Rattle.player_state.specs.Effects.{asked_for, had, outputs_after, part_after, due_job}
use Rattle.player_state.specs.Outputs.{OutputsData, brought, fed, fed_at, is_enabled, is_output, released, turned}
use Rattle.player_state.specs.declared.effect.AudioStep.TheVariants.{Settles, Wants}
use Rattle.player_state.specs.declared.effect.CommandEffect.TheVariants.{Switches}
use Rattle.player_state.specs.declared.effect.Effect.{Effect}
use Rattle.player_state.specs.declared.effect.Effect.TheVariants.{ByAudio, ByCommand}
use Rattle.player_state.specs.declared.outputs.Carried.{Carried}
use Rattle.player_state.specs.declared.report.Feed.{Feed}
use Rattle.player_state.specs.declared.report.Report.{Report}
use Rattle.player_state.specs.declared.report.Report.TheVariants.{ToFeed, ToPlay}
use Rattle.player_state.specs.declared.state.Part.{Part}
use Rattle.partition_table.specs.Openings.{OpeningsData}
use Rattle.partition_table.specs.Parts.{Known, carried_in, changed, holding, known, known_at, moved_output, once_more, opening_part, outputs_moved, part_at, parts_moved, index_of as index_of_known, report_in, shown_outputs}
use Rattle.partition_table.specs.declared.crossing.Crossing.{Crossing}
use Rattle.partition_table.specs.declared.crossing.Crossing.TheVariants.{Stays, Opens, Closes, Brings}
use Rattle.partition_table.proofs.Looks.{at_known}
use Rattle.transitions.specs.Transitions.{TransitionData, acts, or_ended}
use Rattle.player_events.specs.declared.event.Event.{Event}
use Rattle.player_events.specs.declared.event.Event.TheVariants.{Have, OutputTurn}
use Rattle.partition.specs.Image.{Image, overview}
use Rattle.partition.specs.Step.{absent, have, next_image, output_turn, index_at, sender_in, told, transition}
use Rattle.partition_laws.specs.Moves.{AreApart, IsDisjoint, IsAt, Spot, spot}
use Rattle.partition_laws.specs.Reports.{AllAskHere, AsksHere, FeedsNameMoves, IsTold, KeepsOutputs, OpensWithOutputs, TurnsTellMoves}
use Rattle.partition_laws.proofs.Crossings.{off_at, opens_apart, stays_apart}
use Rattle.partition_laws.proofs.Moves.{holder_is, set_false}
use Rattle.partition_laws.proofs.Rebuilt.{found_index}
use Rattle.partition_laws.proofs.Transitions.{IsProper, proper}

-- what is asked stays with the outputs that are here
asked_for_here : (job : Option Job) (outputs : OutputsData) → AsksHere outputs → AsksHere (asked_for job outputs)
asked_for_here None outputs a = a
asked_for_here (Some job) outputs a = λ output e. e

turned_here : (output : ℕ) (failed : Bool) (outputs : OutputsData) → AsksHere outputs → AsksHere (turned outputs output failed)
turned_here output true outputs a = a
turned_here output false outputs a = a

asks_after : (rate : ℕ) (p : Part) (effect : Effect) → AsksHere p.outputs → AsksHere (outputs_after rate p effect)
asks_after rate p (ByCommand (Switches output on)) a = a
asks_after rate p (ByAudio (Wants owes)) a = asked_for_here (due_job rate p owes).job p.outputs a
asks_after rate p (ByAudio (Settles output written discarded failed)) a = turned_here output failed p.outputs a
asks_after rate p _ a = a

asks_changed : (rate at : ℕ) (effect : Effect) (ps : List Part) → AllAskHere ps → AllAskHere (changed rate at effect ps)
asks_changed rate at effect [] a = tt
asks_changed rate at effect (p ∷ ps) a =
    elim (p.index == at) as (λ b. AllAskHere (if b then part_after rate p effect ∷ ps else p ∷ changed rate at effect ps))
    [ true ↦ (asks_after rate p effect a.0, a.1) | false ↦ (a.0, asks_changed rate at effect ps a.1) ]

asks_added : (new : Part) (ps : List Part) → AsksHere new.outputs → AllAskHere ps → AllAskHere (ps ++ new ∷ [])
asks_added new [] own a = (own, tt)
asks_added new (p ∷ ps) own a = (a.0, asks_added new ps own a.1)

asks_filtered : (keeps : Part → Bool) (ps : List Part) → AllAskHere ps → AllAskHere (filter keeps ps)
asks_filtered keeps [] a = tt
asks_filtered keeps (p ∷ ps) a =
    elim (keeps p) as (λ b. AllAskHere (if b then p ∷ filter keeps ps else filter keeps ps)) [ true ↦ (a.0, asks_filtered keeps ps a.1) | false ↦ asks_filtered keeps ps a.1 ]

-- an output that comes or goes is not among those that are asked
module _ (outputs : OutputsData) (own : ℕ) (a : AsksHere outputs) where
  set_here : (here : Bool) (output : ℕ) → slice_index_or (slice_set outputs.asked own false) output false ≡ true → slice_index_or (slice_set outputs.here own here) output false ≡ true
  set_here here output e =
      let cases : (b : Bool) → (output == own) ≡ b → slice_index_or (slice_set outputs.here own here) output false ≡ true =
      λ b. elim b as (λ b. (output == own) ≡ b → slice_index_or (slice_set outputs.here own here) output false ≡ true) [
        | true ↦ λ f.
            let same : output ≡ own = eqb-true output own f in
            let off : slice_index_or (slice_set outputs.asked own false) output false ≡ false =
            ap (λ n. slice_index_or (slice_set outputs.asked own false) n false) same ∙ set_false outputs.asked own in
            let clash : true ≡ false = sym e ∙ off in cc
        | false ↦ λ f.
            let apart : output ≢ own = λ same. (let clash : true ≡ false = sym (eq-eqb output own same) ∙ f in cc) in
            get_or-set_other outputs.here own output here false apart ∙ a output (sym (get_or-set_other outputs.asked own output false false apart) ∙ e)
      ] in
      cases (output == own) refl

  moved_here : (c : Carried) (comes : Bool) → AsksHere (outputs_moved own comes c outputs)
  moved_here c true =
      elim (is_output outputs own) as (λ b. AsksHere (if b then outputs else brought outputs own (once_more c))) [ true ↦ a | false ↦ λ output e. set_here true output e ]
  moved_here c false =
      elim (is_output outputs own) as (λ b. AsksHere (if b then released outputs own else outputs)) [ true ↦ λ output e. set_here false output e | false ↦ a ]

asks_moved : (own to : ℕ) (c : Option Carried) (ps : List Part) → AllAskHere ps → AllAskHere (map (moved_output own to c) ps)
asks_moved own to c [] a = tt
asks_moved own to None (p ∷ ps) a = (a.0, asks_moved own to None ps a.1)
asks_moved own to (Some c) (p ∷ ps) a = (moved_here p.outputs own a.0 c (p.index == to), asks_moved own to (Some c) ps a.1)

asks_crossed : (openings : OpeningsData) (own : ℕ) (c : Crossing) (ps : List Part) → IsProper openings own c → AllAskHere ps → AllAskHere (parts_moved c ps)
asks_crossed openings own Stays ps is a = a
asks_crossed openings own (Opens new) ps is a =
    let none : AsksHere (opening_part openings new.index new.name (shown_outputs new.outputs)).outputs = λ output e. (let clash : true ≡ false = sym e ∙ off_at output in cc) in
    let asks : AsksHere new.outputs = subst (λ (p : Part). AsksHere p.outputs) (sym is) none in
    elim (nat_lt (length ps) 16) as (λ b. AllAskHere (if b then ps ++ new ∷ [] else ps)) [ true ↦ asks_added new ps asks a | false ↦ a ]
asks_crossed openings own (Closes gone) ps is a = asks_filtered (λ (p : Part). not (p.index == gone)) ps a
asks_crossed openings own (Brings output to) ps is a = asks_moved output to (carried_in output to (map known ps)) ps a

asks_next : (seat : ℕ) (i : Image) (event : Event) → AllAskHere i.parts → AllAskHere (next_image seat i event).parts
unfolding next_image
asks_next seat i event a =
    let t : TransitionData = transition i event in
    let rate : ℕ = i.shared.library.rate in
    let is : IsProper (overview i).openings (index_at i event) t.crossing =
    proper (overview i) (part_at (index_at i event) i.parts) i.shared.library (sender_in i.clients event) (index_at i event) event
    (λ p f. found_index i.shared.openings (index_at i event) i.parts p f) in
    asks_crossed (overview i).openings (index_at i event) t.crossing (changed rate (index_at i event) t.effect i.parts) is (asks_changed rate (index_at i event) t.effect i.parts a)

pub opens_with_outputs : OpensWithOutputs
opens_with_outputs setup library eight asks = record { disjoint = opens_apart setup library eight; asked = (asks, tt) }

pub keeps_outputs : KeepsOutputs
keeps_outputs seat i event has = record { disjoint = stays_apart seat i event has.disjoint; asked = asks_next seat i event has.asked }

-- the partition that holds an output is the one of its number
holding_at : (output : ℕ) (h : Known) (fs : List Known) → AreApart fs → holding output fs ≡ Some h → (known_at h.index fs ≡ Some h) × (is_output h.outputs output ≡ true)
holding_at output h [] a e = cc
holding_at output h (f ∷ fs) a e =
    let cases : (b : Bool) → is_output f.outputs output ≡ b → (if b then Some f else holding output fs) ≡ Some h → (known_at h.index (f ∷ fs) ≡ Some h) × (is_output h.outputs output ≡ true) =
    λ b. elim b as (λ b. is_output f.outputs output ≡ b → (if b then Some f else holding output fs) ≡ Some h → (known_at h.index (f ∷ fs) ≡ Some h) × (is_output h.outputs output ≡ true)) [
      | true ↦ λ g is.
          let same : f ≡ h = cc in (
            ap (λ b. if b then Some f else known_at h.index fs) (eq-eqb f.index h.index (ap (λ (x : Known). x.index) same)) ∙ is,
            ap (λ (x : Known). is_output x.outputs output) (sym same) ∙ g,
          )
      | false ↦ λ g is.
          let rest = holding_at output h fs a.3 is in
          let first : (b : Bool) → (f.index == h.index) ≡ b → (if b then Some f else known_at h.index fs) ≡ Some h =
          λ b. elim b as (λ b. (f.index == h.index) ≡ b → (if b then Some f else known_at h.index fs) ≡ Some h) [
            | true ↦ λ t.
                let none : known_at h.index fs ≡ None = subst (λ n. known_at n fs ≡ None) (eqb-true f.index h.index t) a.0 in
                let clash : None ≡ Some h = sym none ∙ rest.0 in cc
            | false ↦ λ t. rest.0
          ] in
          (first (f.index == h.index) refl, rest.1)
    ] in
    cases (is_output f.outputs output) refl e

some_known : (o : Option Part) (h : Known) → option_map known o ≡ Some h → (p : Part) × (o ≡ Some p) × (known p ≡ h)
some_known None h e = cc
some_known (Some p) h e = (p, refl, (let same : known p ≡ h = cc in same))

module _ (rate output written discarded : ℕ) (failed : Bool) where
  abbrev turn : Bool → Option Part → TransitionData
  turn ended part = or_ended ended (output_turn part output (Settles output written discarded failed))

  abbrev report : Bool → Option Part → Report
  report ended part = report_in rate part (turn ended part).effect (turn ended part).report

  abbrev live : Part → Live
  live p = decoding.turn p.player (is_enabled (turned p.outputs output failed) output)

  turn_tells : (p : Part) → is_output p.outputs output ≡ true → report false (Some p) ≡ ToPlay (record { moves = slice_index_or p.outputs.moves output 0; live = live p })
  turn_tells p e =
      let step : TransitionData = acts (Settles output written discarded failed) in
      ap (λ b. report_in rate (Some p) (or_ended false (if b then step else absent)).effect (or_ended false (if b then step else absent)).report) e

turn_report : (i : Image) (output written discarded : ℕ) (failed : Bool) → (told i (OutputTurn output written discarded failed)).report
    ≡ report i.shared.library.rate output written discarded failed i.shared.ended (part_at (index_at i (OutputTurn output written discarded failed)) i.parts)
unfolding told
turn_report i output written discarded failed = refl

pub turns_tell_moves : TurnsTellMoves
turns_tell_moves i output written discarded failed s disjoint is going =
    let fs : List Known = (overview i).parts in
    let event : Event = OutputTurn output written discarded failed in
    let rate : ℕ = i.shared.library.rate in
    let Goal : Type 0 = IsTold i event s.moves in
    let by : (q : Option Known) → holding output fs ≡ q → option_map (spot output) q ≡ Some s → Goal =
    λ q. elim q as (λ q. holding output fs ≡ q → option_map (spot output) q ≡ Some s → Goal) [
      | None ↦ λ held e. cc
      | Some h ↦ λ held e.
          let at = holding_at output h fs disjoint held in
          let there = some_known (part_at h.index i.parts) h (sym (at_known h.index i.parts) ∙ at.0) in
          let p : Part = there.0 in
          let own : is_output p.outputs output ≡ true = ap (λ (x : Known). is_output x.outputs output) there.2 ∙ at.1 in
          let spots : spot output h ≡ s = cc in
          let moves : slice_index_or p.outputs.moves output 0 ≡ s.moves = ap (λ (x : Known). slice_index_or x.outputs.moves output 0) there.2 ∙ ap (λ (x : Spot). x.moves) spots in
          let index : index_at i event ≡ h.index = ap (λ (o : Option Known). unwrap_or (index_of_known o) 0) held in
          let part : part_at (index_at i event) i.parts ≡ Some p = ap (λ n. part_at n i.parts) index ∙ there.1 in (
            live rate output written discarded failed p,
            turn_report i output written discarded failed
                ∙ (λ x. report rate output written discarded failed (going x) (part x))
                ∙ turn_tells rate output written discarded failed p own
                ∙ ap (λ n. ToPlay (record { moves = n; live = live rate output written discarded failed p })) moves,
          )
    ] in
    by (holding output fs) refl is

-- what frames are fed with
pub fed_is : (outputs : OutputsData) (output moves : ℕ) → slice_index_or (fed outputs) output None ≡ Some moves → fed_at outputs output ≡ Some moves
fed_is outputs zero moves e = e
fed_is outputs (suc zero) moves e = e
fed_is outputs (suc (suc zero)) moves e = e
fed_is outputs (suc (suc (suc zero))) moves e = e
fed_is outputs (suc (suc (suc (suc zero)))) moves e = e
fed_is outputs (suc (suc (suc (suc (suc zero))))) moves e = e
fed_is outputs (suc (suc (suc (suc (suc (suc zero)))))) moves e = e
fed_is outputs (suc (suc (suc (suc (suc (suc (suc zero))))))) moves e = e
fed_is outputs (suc (suc (suc (suc (suc (suc (suc (suc output)))))))) moves e = cc

pub asked_is : (asked enabled : Bool) (n moves : ℕ) → ((if asked && enabled then Some n else None) ≡ Some moves) → (asked ≡ true) × (n ≡ moves)
asked_is true true n moves e = (refl, (let same : n ≡ moves = cc in same))
asked_is true false n moves e = cc
asked_is false enabled n moves e = cc

asks_at : (index : ℕ) (p : Part) (ps : List Part) → AllAskHere ps → part_at index ps ≡ Some p → AsksHere p.outputs
asks_at index p [] a e = cc
asks_at index p (x ∷ ps) a e =
    let cases : (b : Bool) → (if b then Some x else part_at index ps) ≡ Some p → AsksHere p.outputs =
    λ b. elim b as (λ b. (if b then Some x else part_at index ps) ≡ Some p → AsksHere p.outputs) [
      | true ↦ λ f. (let same : x ≡ p = cc in subst (λ (y : Part). AsksHere y.outputs) same a.0)
      | false ↦ λ f. asks_at index p ps a.1 f
    ] in
    cases (x.index == index) e

module _ (rate number frames : ℕ) where
  abbrev fed_report : Bool → Option Part → Report
  fed_report ended part = report_in rate part (have ended part number frames).effect (have ended part number frames).report

  -- frames that are fed are those of a partition that is there, with its outputs
  pub feed_is : (ended : Bool) (part : Option Part) (feed : Feed) → fed_report ended part ≡ ToFeed (Some feed) → (p : Part) × (part ≡ Some p) × (feed.outputs ≡ fed p.outputs)
  feed_is true None feed e = cc
  feed_is false None feed e = cc
  feed_is true (Some p) feed e = cc
  feed_is false (Some p) feed e =
      let With : ℕ → Feed = λ cut. record { cut = cut; volume = p.volume; outputs = fed p.outputs } in
      let cases : (o : Option ℕ) → ToFeed (option_map With o) ≡ ToFeed (Some feed) → feed.outputs ≡ fed p.outputs =
      λ o. elim o as (λ o. ToFeed (option_map With o) ≡ ToFeed (Some feed) → feed.outputs ≡ fed p.outputs) [
        | None ↦ λ f. cc
        | Some cut ↦ λ f. (let same : With cut ≡ feed = cc in ap (λ (x : Feed). x.outputs) (sym same))
      ] in
      (p, refl, cases (had p number frames).feed e)

pub have_report : (i : Image) (index number frames : ℕ) → (told i (Have index number frames)).report
    ≡ fed_report i.shared.library.rate number frames i.shared.ended (part_at index i.parts)
unfolding told
have_report i index number frames = refl

-- an output of a partition is there, moved as often as is said there
pub is_at : (i : Image) (index : ℕ) (p : Part) (output : ℕ) → IsDisjoint i → part_at index i.parts ≡ Some p → is_output p.outputs output ≡ true
    → IsAt output i (record { index = index; moves = slice_index_or p.outputs.moves output 0 })
is_at i index p output disjoint there here =
    let fs : List Known = (overview i).parts in
    let at : known_at index fs ≡ Some (known p) = at_known index i.parts ∙ ap (option_map known) there in
    let held : holding output fs ≡ Some (known p) = holder_is output index (known p) fs disjoint at here in
    ap (option_map (spot output)) held
    ∙ (λ z. Some (record { index = found_index i.shared.openings index i.parts p there z; moves = slice_index_or p.outputs.moves output 0 }))

pub feeds_name_moves : FeedsNameMoves
feeds_name_moves i index number frames feed has e output moves f =
    let x = feed_is i.shared.library.rate number frames i.shared.ended (part_at index i.parts) feed (sym (have_report i index number frames) ∙ e) in
    let p : Part = x.0 in
    let own = asked_is (slice_index_or p.outputs.asked output false) (is_enabled p.outputs output) (slice_index_or p.outputs.moves output 0) moves
    (fed_is p.outputs output moves (sym (ap (λ (outputs : List (Option ℕ)). slice_index_or outputs output None) x.2) ∙ f)) in
    let here : is_output p.outputs output ≡ true = asks_at index p i.parts has.asked x.1 output own.0 in
    is_at i index p output has.disjoint x.1 here ∙ ap (λ n. Some (record { index = index; moves = n })) own.1
