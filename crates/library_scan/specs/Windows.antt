-- Files that are read some kilobytes at a time.
use Rattle.std.specs.Prelude.{◌≡◌, ◌≢◌, ℕ, nat_le, ◌+◌, ◌-◌, ◌==◌, List, length, [], take, drop, Option, Some, None, Result, Ok, Err, OnErr, if◌then◌else◌}
use Rattle.std.specs.IoError.{error_kind}
use Rattle.std.specs.declared.io.Error.{Error}
use Rattle.std.specs.declared.io.ErrorKind.TheVariants.{WouldBlock}
use Rattle.counted_devices.specs.declared.call_counts.CallCounts.{CallCounts}
use Rattle.counted_devices.specs.CallCounts.{HasFailed, count_up}

-- all bytes of a file, where they are known and as many as it had when it was looked at
abbrev pub whole : Option (List ℕ) → ℕ → Option (List ℕ)
whole None len = None
whole (Some all) len = if length all == len then Some all else None

-- those from an offset on
abbrev pub from_offset : ℕ → Option (List ℕ) → Option (List ℕ)
from_offset offset None = None
from_offset offset (Some all) = Some (drop offset all)

-- bytes that were read stand in the file at an offset
abbrev pub StandAt : Option (List ℕ) → ℕ → List ℕ → Type 0
StandAt file offset bytes = (all : List ℕ) → file ≡ Some all → take (length bytes) (drop offset all) ≡ bytes

-- how many of so many bytes, which were read at an offset, are still to be given from another offset on
abbrev pub left : ℕ → ℕ → ℕ → ℕ
left offset start filled = if nat_le start offset then start + filled - offset else 0

-- no byte stands from an offset on
abbrev pub IsPastEnd : Option (List ℕ) → ℕ → Type 0
IsPastEnd file offset = (all : List ℕ) → file ≡ Some all → drop offset all ≡ []

-- no byte stands from an offset on, where the file is as long as was told
abbrev pub IsEnd : Option (List ℕ) → ℕ → ℕ → Type 0
IsEnd file len offset = (all : List ℕ) → file ≡ Some all → length all ≡ len → drop offset all ≡ []

-- an error comes only where a call of the file failed
abbrev pub ErrorHasCause : {X : Type 0} → CallCounts → CallCounts → Result X Error → Type 0
ErrorHasCause old new result = OnErr result (HasFailed old new)

-- what failed is counted with the file, and the calls apart
abbrev pub with_calls : ℕ → CallCounts → CallCounts
with_calls calls call_counts = record call_counts { calls = calls }

-- of calls of a file that gave this together the last failed, or would have blocked, or none did
abbrev pub FailsAs : {X : Type 0} → CallCounts → CallCounts → Result X Error → Type 0
FailsAs old new (Ok x) = (new.failures ≡ old.failures) × (new.blocked ≡ old.blocked)
FailsAs old new (Err e) =
    (error_kind e ≡ WouldBlock → (new.failures ≡ old.failures) × (new.blocked ≡ count_up old.blocked))
    × (error_kind e ≢ WouldBlock → (new.failures ≡ count_up old.failures) × (new.blocked ≡ old.blocked))
