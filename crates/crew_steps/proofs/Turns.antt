-- What an output does at its turns.
use Rattle.std.proofs.Common.{◌≡◌, inl, inr, ℕ, ◌+◌, ◌++◌, take, All, Bool, true, List, [], ◌∷◌, refl, sym, ap, subst, ◌∙◌, append_assoc, Option, Some, None, Result, Ok, Err, min, arith}
use Rattle.std.proofs.lemmas.List.{append-nil}
use Rattle.std.proofs.lemmas.List.Elements.{All-cons, All-nil}
use Rattle.output_ring.specs.Frames.{both, fates_in, no_fates, totals_after}
use Rattle.output_ring.specs.Rings.{KeepsAllButReport, fates_of, hand_of, has_failed, popped_of, settled_of, totals_of, unreported_of}
use Rattle.output_ring.specs.declared.drainer.Drainer.{Drainer}
use Rattle.output_ring.proofs.Same.{same_drainer, same_drainer_trans}
use Rattle.output_ring.specs.declared.frames.CutFrame.{CutFrame}
use Rattle.output_ring.specs.declared.frames.Fates.{Fates}
use Rattle.output_ring.specs.declared.frames.Totals.{Totals}
use Rattle.output_ring.specs.declared.frames.WriteFault.{WriteFault}
use Rattle.player_events.specs.Outcomes.{OutcomeData}
use Rattle.player_state.specs.declared.report.Report.{Report}
use Rattle.player_state.specs.declared.report.Report.TheVariants.{Nothing, ToScan, ScanEnded, ToDecode, ToFeed, ToPlay, Ended}
use Rattle.house.specs.Seats.{SeatCount, seat_count}
use Rattle.house.specs.Views.{TellsSomewhere, turn_of}
use Rattle.crew_steps.specs.Turns.{AreUntold, DoesAs, Drains, GivesFates, HasTurn, HasTurns, Keeps, Obeys, Plays, Pops, Runs, TellsOutput, goes_on}

pub pops_none : (d : Drainer) → Pops d d []
pops_none d = record { ring = same_drainer d; popped = sym (append-nil (popped_of d)); hand = sym (append-nil (hand_of d)); fates = refl; totals = refl; unreported = refl; failed = refl }

pub pops_more : (a b c : Drainer) (came more : List CutFrame) → Pops a b came → Pops b c more → Pops a c (came ++ more)
pops_more a b c came more p q = record {
  ring = same_drainer_trans a b c p.ring q.ring;
  popped = q.popped ∙ ap (λ (l : List CutFrame). l ++ more) p.popped ∙ append_assoc (popped_of a) came more;
  hand = q.hand ∙ ap (λ (l : List CutFrame). l ++ more) p.hand ∙ append_assoc (hand_of a) came more;
  fates = q.fates ∙ p.fates;
  totals = q.totals ∙ p.totals;
  unreported = q.unreported ∙ p.unreported;
  failed = q.failed ∙ p.failed;
}

fates_kept : (a b : Drainer) → totals_of b ≡ totals_of a → popped_of b ≡ popped_of a → fates_of b ≡ fates_of a
fates_kept a b totals popped =
    ap (λ (t : Totals). take (t.written + t.discarded) (popped_of b)) totals ∙ ap (λ (l : List CutFrame). take (settled_of a) l) popped

-- what a writing out answers is counted
pub gives : (old new : Drainer) (r : Result Fates WriteFault) → totals_of new ≡ totals_after (totals_of old) r → unreported_of new ≡ both (unreported_of old) (fates_in r) → GivesFates old new
gives old new (Ok f) totals untold = (f, ap (λ (t : Totals). t.written) totals, ap (λ (t : Totals). t.discarded) totals, untold)
gives old new (Err e) totals untold = (e.fates, ap (λ (t : Totals). t.written) totals, ap (λ (t : Totals). t.discarded) totals, untold)

-- where all fates were told of before, those that frames got since are untold
untold : (old reported new : Drainer) → totals_of reported ≡ totals_of old → unreported_of reported ≡ no_fates → GivesFates reported new → AreUntold old new
untold old reported new totals told given =
    let f = given.0 in
    let now : unreported_of new ≡ both no_fates f = given.3 ∙ ap (λ (g : Fates). both g f) told in
    let written = given.1 ∙ ap (λ (t : Totals). t.written + f.written) totals in
    let discarded = given.2 ∙ ap (λ (t : Totals). t.discarded + f.discarded) totals in
    let w : (unreported_of new).written ≡ 0 + f.written = ap (λ (g : Fates). g.written) now in
    let d : (unreported_of new).discarded ≡ 0 + f.discarded = ap (λ (g : Fates). g.discarded) now in
    (omega (arith, written, w), omega (arith, discarded, d))

-- by the output's own seat
pub of_output : (seat : SeatCount) (output : ℕ) (f : Fates) (failed : Bool) (outcome : OutcomeData) → seat.number ≡ 5 + min output 7 → TellsSomewhere seat (turn_of output f failed) outcome → TellsOutput output f failed outcome
of_output seat output f failed outcome own tells =
    (seat.made, subst (λ n. TellsSomewhere (seat_count n seat.made) (turn_of output f failed) outcome) own tells)

-- an output goes on after it was told this
abbrev pub Goes : OutcomeData → Type 0
Goes told = goes_on told.report ≡ true

module _ {W : Type 0} (contents : W → Option (List ℕ)) where
  -- nothing was told
  pub still : (output : ℕ) (failed : Bool) (d : Drainer) (w : W) → Drains contents output failed None d w d w
  still output failed d w = inl (([], pops_none d), refl)

  pub waited : (output : ℕ) (failed : Bool) (old new : Drainer) (w v : W) → (came : List CutFrame) × Pops old new came → v ≡ w → Drains contents output failed None old w new v
  waited output failed old new w v pops same = inl (pops, same)

  kept : (old reported new : Drainer) (w was v : W) (came : List CutFrame) → popped_of reported ≡ popped_of old ++ came → hand_of reported ≡ hand_of old ++ came → fates_of reported ≡ fates_of old → has_failed reported ≡ has_failed old → unreported_of reported ≡ no_fates
      → was ≡ w → new ≡ reported → v ≡ was → Keeps contents old w new v came
  kept old reported new w was v came popped hand fates fault told same is out = record {
    popped = ap popped_of is ∙ popped;
    hand = ap hand_of is ∙ hand;
    fates = ap fates_of is ∙ fates;
    failed = ap has_failed is ∙ fault;
    told = ap unreported_of is ∙ told;
    writer = out ∙ same;
  }

  -- what the hand got, the frames got that were in it and those that came
  obeys : (r : Report) (old reported new : Drainer) (w was v : W) (came : List CutFrame) → popped_of reported ≡ popped_of old ++ came → hand_of reported ≡ hand_of old ++ came → fates_of reported ≡ fates_of old → has_failed reported ≡ has_failed old → unreported_of reported ≡ no_fates
      → totals_of reported ≡ totals_of old → was ≡ w → DoesAs contents r reported was new v → Obeys contents r old w new v
  obeys Nothing old reported new w was v came popped hand fates fault told totals same does = (came, kept old reported new w was v came popped hand fates fault told same does.0 does.1)
  obeys (ToScan scan) old reported new w was v came popped hand fates fault told totals same does = (came, kept old reported new w was v came popped hand fates fault told same does.0 does.1)
  obeys (ScanEnded ends) old reported new w was v came popped hand fates fault told totals same does = (came, kept old reported new w was v came popped hand fates fault told same does.0 does.1)
  obeys (ToDecode job) old reported new w was v came popped hand fates fault told totals same does = (came, kept old reported new w was v came popped hand fates fault told same does.0 does.1)
  obeys (ToFeed feed) old reported new w was v came popped hand fates fault told totals same does = (came, kept old reported new w was v came popped hand fates fault told same does.0 does.1)
  obeys (ToPlay heard) old reported new w was v came popped hand fates fault told totals same does = (
    came,
    does.0 ∙ popped,
    subst (λ (b : Bool). Plays contents heard (hand_of old ++ came) b w new v) fault
        (subst (λ (l : List CutFrame). Plays contents heard l (has_failed reported) w new v) hand
        (subst (λ (u : W). Plays contents heard (hand_of reported) (has_failed reported) u new v) same does.1)),
    untold old reported new totals told does.2,
  )
  obeys Ended old reported new w was v came popped hand fates fault told totals same does = (came, kept old reported new w was v came popped hand fates fault told same does.0 does.1)

  -- an output told of its fates, and did as it was told
  pub obeyed : (output : ℕ) (failed : Bool) (old mid reported new : Drainer) (w was v : W) (came : List CutFrame) (outcome : OutcomeData) (f : Fates) → Pops old mid came → f ≡ unreported_of mid
      → TellsOutput output f failed outcome → KeepsAllButReport mid reported → unreported_of reported ≡ no_fates → was ≡ w → DoesAs contents outcome.report reported was new v → HasTurn contents output failed outcome old w new v
  obeyed output failed old mid reported new w was v came outcome f pops is tells kept told same does =
      let fates : fates_of reported ≡ fates_of old = fates_kept mid reported kept.0 kept.1 ∙ pops.fates in record {
        told_so = subst (λ (g : Fates). TellsOutput output g failed outcome) (is ∙ pops.unreported) tells;
        obeyed = obeys outcome.report old reported new w was v came (kept.1 ∙ pops.popped) (kept.2 ∙ pops.hand) fates (kept.5 ∙ pops.failed) told (kept.0 ∙ pops.totals) same does;
      }

  keeps_later : (mid now new : Drainer) (b v : W) (came more : List CutFrame) → Pops mid now came → Keeps contents now b new v more → Keeps contents mid b new v (came ++ more)
  keeps_later mid now new b v came more p k = record {
    popped = k.popped ∙ ap (λ (l : List CutFrame). l ++ more) p.popped ∙ append_assoc (popped_of mid) came more;
    hand = k.hand ∙ ap (λ (l : List CutFrame). l ++ more) p.hand ∙ append_assoc (hand_of mid) came more;
    fates = k.fates ∙ p.fates;
    failed = k.failed ∙ p.failed;
    told = k.told;
    writer = k.writer;
  }

  -- where frames came into the hand before, the turn is also of those
  obeys_later : (r : Report) (mid now new : Drainer) (b v : W) (came : List CutFrame) → Pops mid now came → Obeys contents r now b new v → Obeys contents r mid b new v
  obeys_later Nothing mid now new b v came p o = (came ++ o.0, keeps_later mid now new b v came o.0 p o.1)
  obeys_later (ToScan scan) mid now new b v came p o = (came ++ o.0, keeps_later mid now new b v came o.0 p o.1)
  obeys_later (ScanEnded ends) mid now new b v came p o = (came ++ o.0, keeps_later mid now new b v came o.0 p o.1)
  obeys_later (ToDecode job) mid now new b v came p o = (came ++ o.0, keeps_later mid now new b v came o.0 p o.1)
  obeys_later (ToFeed feed) mid now new b v came p o = (came ++ o.0, keeps_later mid now new b v came o.0 p o.1)
  obeys_later (ToPlay heard) mid now new b v came p o =
      let more = o.0 in
      let hand : hand_of now ++ more ≡ hand_of mid ++ (came ++ more) = ap (λ (l : List CutFrame). l ++ more) p.hand ∙ append_assoc (hand_of mid) came more in (
        came ++ more,
        o.1 ∙ ap (λ (l : List CutFrame). l ++ more) p.popped ∙ append_assoc (popped_of mid) came more,
        subst (λ (f : Bool). Plays contents heard (hand_of mid ++ (came ++ more)) f b new v) p.failed
            (subst (λ (l : List CutFrame). Plays contents heard l (has_failed now) b new v) hand o.2),
        (
          o.3.0 ∙ ap (λ (t : Totals). t.written + (unreported_of new).written) p.totals,
          o.3.1 ∙ ap (λ (t : Totals). t.discarded + (unreported_of new).discarded) p.totals,
        ),
      )
  obeys_later Ended mid now new b v came p o = (came ++ o.0, keeps_later mid now new b v came o.0 p o.1)

  turn_later : (output : ℕ) (failed : Bool) (told : OutcomeData) (mid now new : Drainer) (b v : W) (came : List CutFrame) → Pops mid now came → failed ≡ has_failed now → HasTurn contents output failed told now b new v → HasTurn contents output (has_failed mid) told mid b new v
  turn_later output failed told mid now new b v came p knows turn = record {
    told_so = subst (λ (f : Bool). TellsOutput output (unreported_of mid) f told) (knows ∙ p.failed) (subst (λ (g : Fates). TellsOutput output g failed told) p.unreported turn.told_so);
    obeyed = obeys_later told.report mid now new b v came p turn.obeyed;
  }

  -- an output that runs: the turns that it had, and what came into its hand since
  pub record Running (output : ℕ) (old : Drainer) (before : W) (failed : Bool) (now : Drainer) (written : W) : Type 0 where
    pub turns : List OutcomeData
    pub going : All Goes turns
    pub mid : Drainer
    pub had : HasTurns contents output turns old before mid written
    pub came : List CutFrame
    pub pops : Pops mid now came
    pub knows : failed ≡ has_failed now

  pub begun : (output : ℕ) (old : Drainer) (w : W) (failed : Bool) → failed ≡ has_failed old → Running output old w failed old w
  begun output old w failed knows = record { turns = []; going = All-nil Goes; mid = old; had = (refl, refl); came = []; pops = pops_none old; knows = knows }

  on : (output : ℕ) (old : Drainer) (w : W) (failed failed' : Bool) (now new : Drainer) (b v : W) → Running output old w failed now b → Drains contents output failed None now b new v → (failed ≡ has_failed now → failed' ≡ has_failed new) → Running output old w failed' new v
  on output old w failed failed' now new b v r (inl waits) knows = record {
    turns = r.turns;
    going = r.going;
    mid = r.mid;
    had = subst (λ (u : W). HasTurns contents output r.turns old w r.mid u) (sym waits.1) r.had;
    came = r.came ++ waits.0.0;
    pops = pops_more r.mid now new r.came waits.0.0 r.pops waits.0.1;
    knows = knows r.knows;
  }
  on output old w failed failed' now new b v r (inr turn) knows = record {
    turns = turn.0 ∷ r.turns;
    going = All-cons Goes turn.0 r.turns turn.1 r.going;
    mid = new;
    had = (r.mid, b, r.had, turn_later output failed turn.0 r.mid now new b v r.came r.pops r.knows turn.2);
    came = [];
    pops = pops_none new;
    knows = knows r.knows;
  }

  pub next : (output output' : ℕ) (old : Drainer) (w : W) (failed failed' : Bool) (now new : Drainer) (b v : W) → output' ≡ output → Running output old w failed now b → Drains contents output' failed None now b new v → (failed ≡ has_failed now → failed' ≡ has_failed new) → Running output old w failed' new v
  next output output' old w failed failed' now new b v same r drains knows =
      on output old w failed failed' now new b v r (subst (λ (o : ℕ). Drains contents o failed None now b new v) same drains) knows

  stops : (output : ℕ) (old : Drainer) (w : W) (failed : Bool) (now new : Drainer) (b v : W) (told : OutcomeData) → Running output old w failed now b → Drains contents output failed (Some told) now b new v → Runs contents output told old w new v
  stops output old w failed now new b v told r last =
      (last.0, (r.turns, r.going, (r.mid, b, r.had, turn_later output failed told r.mid now new b v r.came r.pops r.knows last.1)))

  pub ends : (output output' : ℕ) (old : Drainer) (w : W) (failed : Bool) (now new : Drainer) (b v : W) (told : OutcomeData) → output' ≡ output → Running output old w failed now b → Drains contents output' failed (Some told) now b new v → Runs contents output told old w new v
  ends output output' old w failed now new b v told same r drains =
      stops output old w failed now new b v told r (subst (λ (o : ℕ). Drains contents o failed (Some told) now b new v) same drains)
