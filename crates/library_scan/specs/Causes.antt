-- Where a disk, or a file on it, is blamed for an answer (this profile's).
use Rattle.std.specs.Prelude.{◌≡◌, ◌≤◌, ◌+◌, ◌-◌, ◌^◌, ◌⊎◌, ℕ, min, Bool, true, false}
use Rattle.counted_devices.specs.CallCounts.{HasFailed}
use Rattle.counted_devices.specs.declared.call_counts.CallCounts.{CallCounts}
use Rattle.wave.specs.Devices.{CalledTooOften}

-- no call failed since, or would have blocked
abbrev pub NoneFailed : CallCounts → CallCounts → Type 0
NoneFailed old new = (new.failures ≡ old.failures) × (new.blocked ≡ old.blocked)

-- an answer that tells of a fault comes where a call failed, and another one where none did
abbrev pub Blames : Bool → CallCounts → CallCounts → Type 0
Blames true old new = HasFailed old new
Blames false old new = NoneFailed old new

-- the same of a file that is read, whose fault may also be that its device was called 2 ^ 32 times
abbrev pub BlamesFile : Bool → CallCounts → CallCounts → Type 0
BlamesFile true old new = HasFailed old new ⊎ CalledTooOften old new
BlamesFile false old new = NoneFailed old new

-- the counts with those of a device that was called besides; each stops at its greatest value
abbrev pub with_those_of : CallCounts → CallCounts → CallCounts
with_those_of counts device = record {
  failures = min (counts.failures + device.failures) (2 ^ 64 - 1);
  blocked = min (counts.blocked + device.blocked) (2 ^ 64 - 1);
  calls = min (counts.calls + device.calls) (2 ^ 64 - 1);
}

-- how many calls failed, or would have blocked
abbrev pub failed_calls : CallCounts → ℕ
failed_calls counts = counts.failures + counts.blocked

-- the counts tell no more: there were 2 ^ 32 calls since, or one is at its greatest value
abbrev pub IsSpent : CallCounts → CallCounts → Type 0
IsSpent old new = (old.calls + 2 ^ 32 ≤ new.calls) ⊎ ((2 ^ 64 - 1 ≤ new.calls) ⊎ ((2 ^ 64 - 1 ≤ new.failures) ⊎ (2 ^ 64 - 1 ≤ new.blocked)))
