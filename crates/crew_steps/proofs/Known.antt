-- What a run does to its writer's bytes, as far as they are known.
use Rattle.std.proofs.Common.{ℕ, Bool, List, [], ◌∷◌, ap, Option}
use Rattle.output_ring.specs.declared.drainer.Drainer.{Drainer}
use Rattle.output_ring.specs.declared.frames.CutFrame.{CutFrame}
use Rattle.output_ring.specs.Rings.{has_failed}
use Rattle.player_events.specs.Outcomes.{OutcomeData}
use Rattle.player_state.specs.declared.report.Heard.{Heard}
use Rattle.player_state.specs.declared.report.Report.{Report}
use Rattle.player_state.specs.declared.report.Report.TheVariants.{Nothing, ToScan, ScanEnded, ToDecode, ToFeed, ToPlay, Ended}
use Rattle.crew_steps.specs.Turns.{HasRun, HasTurn, HasTurns, Keeps, Obeys, Plays, RunsToEnd}

-- bytes that are known
abbrev Bytes : Type 0
Bytes = Option (List ℕ)

abbrev same : Bytes → Bytes
same bytes = bytes

module _ {W : Type 0} (contents : W → Option (List ℕ)) where
  plays_known : (told : Heard) (hand : List CutFrame) (failed : Bool) (b : W) (new : Drainer) (v : W) → Plays contents told hand failed b new v → Plays same told hand failed (contents b) new (contents v)
  plays_known told hand failed b new v p = record {
    after_failure = λ h. ((p.after_failure h).0, ap contents (p.after_failure h).1);
    in_pause = λ h k. ((p.in_pause h k).0, ap contents (p.in_pause h k).1);
    played = p.played;
    failed = p.failed;
  }

  keeps_known : (old new : Drainer) (b v : W) (came : List CutFrame) → Keeps contents old b new v came → Keeps same old (contents b) new (contents v) came
  keeps_known old new b v came k = record { popped = k.popped; hand = k.hand; fates = k.fates; failed = k.failed; told = k.told; writer = ap contents k.writer }

  obeys_known : (r : Report) (old new : Drainer) (b v : W) → Obeys contents r old b new v → Obeys same r old (contents b) new (contents v)
  obeys_known Nothing old new b v o = (o.0, keeps_known old new b v o.0 o.1)
  obeys_known (ToScan scan) old new b v o = (o.0, keeps_known old new b v o.0 o.1)
  obeys_known (ScanEnded ends) old new b v o = (o.0, keeps_known old new b v o.0 o.1)
  obeys_known (ToDecode job) old new b v o = (o.0, keeps_known old new b v o.0 o.1)
  obeys_known (ToFeed feed) old new b v o = (o.0, keeps_known old new b v o.0 o.1)
  obeys_known (ToPlay heard) old new b v o = (o.0, o.1, plays_known heard _ (has_failed old) b new v o.2, o.3)
  obeys_known Ended old new b v o = (o.0, keeps_known old new b v o.0 o.1)

  turn_known : (output : ℕ) (failed : Bool) (told : OutcomeData) (old new : Drainer) (b v : W) → HasTurn contents output failed told old b new v → HasTurn same output failed told old (contents b) new (contents v)
  turn_known output failed told old new b v t = record { told_so = t.told_so; obeyed = obeys_known told.report old new b v t.obeyed }

  turns_known : (output : ℕ) (turns : List OutcomeData) (old new : Drainer) (b v : W) → HasTurns contents output turns old b new v → HasTurns same output turns old (contents b) new (contents v)
  turns_known output [] old new b v h = (h.0, ap contents h.1)
  turns_known output (told ∷ earlier) old new b v h =
      (h.0, contents h.1, turns_known output earlier old h.0 b h.1 h.2, turn_known output (has_failed h.0) told h.0 new h.1 v h.3)

  pub run_known : (output : ℕ) (old new : Drainer) (b : W) → RunsToEnd contents output old b new → HasRun output old new
  run_known output old new b r =
      record { before = contents b; run = (r.0, contents r.1, (r.2.0, (r.2.1.0, r.2.1.1, turns_known output (r.0 ∷ r.2.1.0) old new b r.1 r.2.1.2))) }
