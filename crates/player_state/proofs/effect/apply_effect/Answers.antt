use Rattle.std.proofs.Common.{◌≡◌, ℕ, Result, Ok, Err, OnOk}
use Rattle.player_state.specs.Effects.{part_after}
use Rattle.player_state.specs.declared.effect.Effect.TheVariants.{ByCommand}
use Rattle.player_state.proofs.effect.apply_effect.Goals as goal

-- what holds at every rate holds at the one of the songs
at_ok : {X E : Type 0} (P : ℕ → Type 0) (r : Result X E) (rate : ℕ) → OnOk r ((n : ℕ) → P n) → OnOk r (P rate)
at_ok P (Ok x) rate all = all rate
at_ok P (Err e) rate all = tt

pub returns-in-ByCommand-clause-part : goal.returns-in-ByCommand-clause-part
returns-in-ByCommand-clause-part c =
    rw c.in-ByCommand.is (at_ok (λ n. c.apply_to.new.part ≡ part_after n c.args.part.now (ByCommand c.in-ByCommand.effect)) c.apply_to.result c.args.rate.now c.apply_to.ensures.part)

pub returns-in-ByCommand-clause-report : goal.returns-in-ByCommand-clause-report
returns-in-ByCommand-clause-report c = rw c.in-ByCommand.is (c.apply_to.ensures.report c.args.rate.now)

pub returns-in-ByCommand-clause-within : goal.returns-in-ByCommand-clause-within
returns-in-ByCommand-clause-within c = rw c.in-ByCommand.is (c.apply_to.ensures.within c.args.rate.now)

pub returns-in-ByCommand-clause-limit : goal.returns-in-ByCommand-clause-limit
returns-in-ByCommand-clause-limit c = rw c.in-ByCommand.is (c.apply_to.ensures.limit c.args.rate.now)
