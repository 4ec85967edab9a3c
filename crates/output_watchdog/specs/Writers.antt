-- What contracts see of the output's end of the ring.
use Rattle.std.specs.Prelude.{◌≡◌, ◌<◌, ℕ, List, length, Option, Some, Result, IfErr}
use Rattle.std.specs.IoError.{error_kind}
use Rattle.std.specs.declared.io.Error.{Error}
use Rattle.std.specs.declared.io.ErrorKind.TheVariants.{WouldBlock}
use Rattle.rtrb.specs.Ring.{sent}
use Rattle.output_watchdog.specs.declared.writer.PatientWriter.{PatientWriter}

-- all bytes that went into a writer's ring
abbrev pub taken_in : {R : Type 0} → PatientWriter R → Option (List ℕ)
taken_in writer = Some (sent writer.producer)

-- a write would block only where there is less room than its bytes need
abbrev pub BlocksWhereFull : {X : Type 0} → ℕ → List ℕ → Result X Error → Type 0
BlocksWhereFull room bytes result = IfErr result (λ e. error_kind e ≡ WouldBlock → room < length bytes)
