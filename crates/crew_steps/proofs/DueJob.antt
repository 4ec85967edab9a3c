-- While a ring of its outputs owes frames a partition gives no job.
use Rattle.std.proofs.Common.{◌≡◌, ℕ, List, Bool, true, false, ◌&&◌, not, Option, Some, None, if◌then◌else◌, refl, ap, sym, ◌∙◌}
use Rattle.player_core.specs.declared.state.Job.{Job}
use Rattle.player_core.specs.Decoding as decoding
use Rattle.player_core.specs.Player.{PlayerState, is_playing}
use Rattle.player_events.specs.declared.event.Event.TheVariants.{Want}
use Rattle.player_state.specs.declared.effect.Effect.TheVariants.{ByCommand, ByAudio}
use Rattle.player_state.specs.declared.effect.CommandEffect.TheVariants.{Rests}
use Rattle.player_state.specs.declared.effect.AudioStep.TheVariants.{Wants}
use Rattle.player_state.specs.declared.report.Report.TheVariants.{Ended, Nothing, ToDecode}
use Rattle.player_state.specs.Effects.{entries, report_after, due_job}
use Rattle.partition_table.specs.Parts.{part_at, report_in}
use Rattle.player_state.specs.Outputs.{any_enabled, owes_any}
use Rattle.partition.specs.Image.{Image}
use Rattle.player_state.specs.declared.state.Part.{Part}
use Rattle.player_events.specs.Outcomes.{OutcomeData}
use Rattle.partition.specs.Step.{told, want}
use Rattle.crew_steps.specs.Feeding.{OwesNothingSomewhere, OwnOweNothing}
use Rattle.house.specs.Seats.{SeatCount}
use Rattle.house.specs.Views.{TellsSomewhere}

nothing_given : (a b : Bool) (p : PlayerState) (w : decoding.DueJob) → (if a && b && not true then w else decoding.nothing p).job ≡ None
nothing_given true true p w = refl
nothing_given true false p w = refl
nothing_given false b p w = refl

no_job : (rate : ℕ) (part : Part) → (due_job rate part true).job ≡ None
no_job rate part = nothing_given (is_playing part.player.playback) (any_enabled part.outputs) part.player (decoding.want_of rate part.player (entries part) part.player.current)

apart : (job : Job) → ToDecode None ≡ ToDecode (Some job) → ⊥
apart job h = cc

told_no_job : (ended : Bool) (rate : ℕ) (part : Part) (job : Job) → report_after rate part (if ended then (ByCommand Rests) else ByAudio (Wants true)) (if ended then Ended else Nothing) ≡ ToDecode (Some job) → ⊥
told_no_job true rate part job h = cc
told_no_job false rate part job h = apart job (sym (ap ToDecode (no_job rate part)) ∙ h)

by_owing : (ended : Bool) (rate : ℕ) (part : Part) (job : Job) (owing : Bool)
    → report_after rate part (if ended then (ByCommand Rests) else ByAudio (Wants owing)) (if ended then Ended else Nothing) ≡ ToDecode (Some job) → owing ≡ false
by_owing ended rate part job true h = absurd (told_no_job ended rate part job h)
by_owing ended rate part job false h = refl

told_nowhere : (ended : Bool) (job : Job) → (if ended then Ended else ToDecode None) ≡ ToDecode (Some job) → ⊥
told_nowhere true job h = cc
told_nowhere false job h = apart job h

told_job : (ended : Bool) (rate : ℕ) (part : Option Part) (owing : List Bool) (job : Job)
    → report_in rate part (want ended part owing).effect (want ended part owing).report ≡ ToDecode (Some job) → OwnOweNothing owing part
told_job ended rate None owing job h = absurd (told_nowhere ended job h)
told_job ended rate (Some part) owing job h = by_owing ended rate part job (owes_any part.outputs owing) h

-- the same, of what an event tells
job_told : (i : Image) (index : ℕ) (owing : List Bool) (job : Job) → (told i (Want index owing)).report ≡ ToDecode (Some job) → OwnOweNothing owing (part_at index i.parts)
unfolding told
job_told i index owing job h = told_job i.shared.ended i.shared.library.rate (part_at index i.parts) owing job h

-- a job is given only where nothing is owed at the outputs of its partition
pub owes_nothing : (seat : SeatCount) (index : ℕ) (owing : List Bool) (outcome : OutcomeData) (job : Job) → TellsSomewhere seat (Want index owing) outcome → outcome.report ≡ ToDecode (Some job) → OwesNothingSomewhere index owing
owes_nothing seat index owing outcome job tells h =
    (tells.0, tells.1.0, job_told tells.0.present index owing job (ap (λ (t : OutcomeData). t.report) (sym tells.2) ∙ h))
