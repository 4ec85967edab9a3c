-- What a read tells of what is still to be read.
use Rattle.std.specs.Prelude.{◌≡◌, ℕ, Bool, true, nat_lt, Result, Ok, Err, IsErrAnd}
use Rattle.std.specs.IoError.{error_kind}
use Rattle.std.specs.declared.io.Error.{Error}
use Rattle.std.specs.declared.io.ErrorKind.TheVariants as kind

-- A read that did not fill its buffer took all that had come, and one that failed leaves nothing to be had: the
-- system tells of what comes after. One that filled it may have left something, of which nothing is told.
abbrev pub took_all : Result ℕ Error → ℕ → Bool
took_all (Ok count) room = nat_lt count room
took_all (Err e) room = true

-- a read that would have blocked
abbrev pub WouldBlock : Result ℕ Error → Type 0
WouldBlock r = IsErrAnd r (λ e. error_kind e ≡ kind.WouldBlock)
