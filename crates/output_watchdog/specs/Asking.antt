-- What is done where a watched output asks whether it may go on (this profile's).
use Rattle.std.specs.Prelude.{◌≡◌, ℕ, Bool, true, false, Option}
use Rattle.output_watchdog.specs.Watches.{after_check, after_off, after_return, is_seen_off, is_to_return, looked, step_at}
use Rattle.output_watchdog.specs.declared.progress.PathProgress.{PathProgress}
use Rattle.output_watchdog.specs.declared.watch.Off.{Off}
use Rattle.output_watchdog.specs.declared.watch.Step.{Step}
use Rattle.output_watchdog.specs.declared.watch.Step.TheVariants.{Opens, Waits, SwitchesOff, Returns, Looks}
use Rattle.output_watchdog.specs.declared.watch.Watch.{Watch}

-- an output that is to return is switched on where it was on before
abbrev pub Returned : {S : Type 0} → (S → Bool → Type 0) → S → Bool → Watch → PathProgress → ℕ → Watch → Type 0
Returned may_switch_on switch true old progress now new =
    (is_on : Bool) × may_switch_on switch is_on × (new ≡ after_return old is_on progress now)
Returned may_switch_on switch false old progress now new = new ≡ after_return old false progress now

module _ {S : Type 0} (may_have_ended : S → Bool → Type 0) (may_see : S → Option Bool → Type 0) (may_switch_off : S → Option Off → Type 0) (may_switch_on : S → Bool → Type 0) where
  -- a step is taken; what it needs is asked, and nothing else
  abbrev pub Takes : S → Step → Watch → PathProgress → ℕ → Watch → Bool → Type 0
  Takes switch Opens old progress now new goes_on = (new ≡ old) × (goes_on ≡ true)
  Takes switch Waits old progress now new goes_on = (new ≡ old) × (goes_on ≡ false)
  Takes switch SwitchesOff old progress now new goes_on =
      (off : Option Off) × may_switch_off switch off × (new ≡ after_off old off progress now) × (goes_on ≡ false)
  Takes switch Returns old progress now new goes_on =
      Returned may_switch_on switch (is_to_return old.mode) old progress now new × (goes_on ≡ true)
  Takes switch Looks old progress now new goes_on =
      (is_on : Option Bool) × may_see switch is_on × (new ≡ after_check old is_on progress now) × (goes_on ≡ is_seen_off is_on)

  -- the step is the one that is decided
  abbrev pub Goes : S → Watch → PathProgress → ℕ → Watch → Bool → Type 0
  Goes switch old progress now new goes_on =
      (ended : Bool) × may_have_ended switch ended
      × Takes switch (step_at old progress now ended) (looked old progress now) progress now new goes_on
