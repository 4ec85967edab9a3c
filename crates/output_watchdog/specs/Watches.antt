-- What becomes of a watched output that was switched off or on, or seen (this profile's).
use Rattle.std.specs.Prelude.{ℕ, Bool, true, false, not, ◌||◌, Option, Some, None, if◌then◌else◌}
use Rattle.output_watchdog.specs.Gates.{after_look, stalled_for, step_of, timer_at}
use Rattle.output_watchdog.specs.declared.progress.PathProgress.{PathProgress}
use Rattle.output_watchdog.specs.declared.watch.Mode.{Mode}
use Rattle.output_watchdog.specs.declared.watch.Mode.TheVariants as mode
use Rattle.output_watchdog.specs.declared.watch.Off.{Off}
use Rattle.output_watchdog.specs.declared.watch.Off.TheVariants as off
use Rattle.output_watchdog.specs.declared.watch.Step.{Step}
use Rattle.output_watchdog.specs.declared.watch.Watch.{Watch}

-- what is done for an output at a moment at which this is seen, and once the daemon has ended
abbrev pub step_at : Watch → PathProgress → ℕ → Bool → Step
step_at watch progress now ended = step_of watch.mode progress (stalled_for watch.timer progress now) watch.patience ended

-- an output that was looked at
abbrev pub looked : Watch → PathProgress → ℕ → Watch
looked watch progress now = record watch { timer = after_look watch.timer progress now }

-- it plays from a moment on, at which this is seen: its patience begins anew
abbrev pub anew : Watch → PathProgress → ℕ → Watch
anew watch progress now = record watch { mode = mode.Plays; timer = timer_at progress.taken now }

-- an output that is off for its path, and was on before
abbrev pub is_to_return : Mode → Bool
is_to_return mode.Plays = false
is_to_return (mode.IsOff was_on) = was_on

-- it was to be switched off: it is; or nothing is played; or that could not be done now
abbrev pub after_off : Watch → Option Off → PathProgress → ℕ → Watch
after_off watch None progress now = watch
after_off watch (Some (off.IsOff was_on)) progress now = record watch { mode = mode.IsOff was_on }
after_off watch (Some off.Rests) progress now = anew watch progress now

-- it returns: it plays, unless it could not be switched on again
abbrev pub after_return : Watch → Bool → PathProgress → ℕ → Watch
after_return watch is_done progress now = if is_done || not (is_to_return watch.mode) then anew watch progress now else watch

-- it goes on where it is seen to be off
abbrev pub is_seen_off : Option Bool → Bool
is_seen_off None = false
is_seen_off (Some is_on) = not is_on

-- where a check finds it on, somebody wants it to play; else it stays off for its path
abbrev pub after_check : Watch → Option Bool → PathProgress → ℕ → Watch
after_check watch None progress now = watch
after_check watch (Some is_on) progress now = if is_on then anew watch progress now else watch
