-- When an output whose path may stand still goes on, and when it is switched off and on (this profile's).
use Rattle.std.specs.Prelude.{ℕ, ◌-◌, Bool, not, nat_le, nat_lt, is_some, ◌==◌, ◌&&◌, ◌||◌, if◌then◌else◌}
use Rattle.output_watchdog.specs.declared.progress.PathProgress.{PathProgress}
use Rattle.output_watchdog.specs.declared.tally.Tally.{Tally}
use Rattle.output_watchdog.specs.declared.timer.StallTimer.{StallTimer}
use Rattle.output_watchdog.specs.declared.watch.Mode.{Mode}
use Rattle.output_watchdog.specs.declared.watch.Mode.TheVariants.{Plays, IsOff}
use Rattle.output_watchdog.specs.declared.watch.Step.{Step}
use Rattle.output_watchdog.specs.declared.watch.Step.TheVariants.{Opens, Waits, SwitchesOff, Returns, Looks}

-- ---- what is seen

-- how many bytes wait for the path
abbrev pub waiting : Tally → ℕ
waiting t = t.given - t.taken

-- the thread has something to do: bytes wait, or none will come
abbrev pub is_due : Tally → Bool
is_due t = nat_lt 0 (waiting t) || t.ends

-- nothing more will be taken, or nothing waits
abbrev pub is_over : Tally → Bool
is_over t = is_some t.fault || (waiting t == 0)

abbrev pub progress_of : Tally → PathProgress
progress_of t = record { waiting = waiting t; taken = t.taken; fails = is_some t.fault }

-- more bytes wait than an output goes on with: two hands of 1,024 frames
abbrev pub is_held_up : PathProgress → Bool
is_held_up progress = nat_lt 8192 progress.waiting

-- ---- for how long the path took nothing

abbrev pub timer_at : ℕ → ℕ → StallTimer
timer_at taken now = record { taken = taken; since = now }

-- the output is held up, and the path took nothing since it was last seen to
abbrev pub is_stalled : StallTimer → PathProgress → Bool
is_stalled s progress = is_held_up progress && (progress.taken == s.taken)

abbrev pub stalled_for : StallTimer → PathProgress → ℕ → ℕ
stalled_for s progress now = if is_stalled s progress then now - s.since else 0

abbrev pub after_look : StallTimer → PathProgress → ℕ → StallTimer
after_look s progress now = if is_stalled s progress then s else timer_at progress.taken now

-- ---- what is done

abbrev pub step_in : Mode → PathProgress → ℕ → ℕ → Step
step_in Plays progress stalled_for patience =
    if not (is_held_up progress) then Opens
    else if nat_le patience stalled_for then SwitchesOff
    else Waits
step_in (IsOff was_on) progress stalled_for patience = if progress.waiting == 0 then Returns else Looks

abbrev pub step_of : Mode → PathProgress → ℕ → ℕ → Bool → Step
step_of mode progress stalled_for patience ended = if ended || progress.fails then Opens else step_in mode progress stalled_for patience
