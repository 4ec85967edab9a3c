-- What a device counts (this profile's).
use Rattle.std.specs.Prelude.{◌≡◌, ◌≢◌, ℕ, ◌+◌, ◌-◌, ◌^◌, ◌<◌, ◌≤◌, ◌⊎◌, min, List, length, Result, Ok, Err}
use Rattle.std.specs.IoError.{error_kind}
use Rattle.std.specs.declared.io.Error.{Error}
use Rattle.std.specs.declared.io.ErrorKind.TheVariants.{WouldBlock}
use Rattle.counted_devices.specs.declared.call_counts.CallCounts.{CallCounts}

-- a device that was not called yet
abbrev pub no_calls : CallCounts
no_calls = record { failures = 0; blocked = 0; calls = 0 }

-- a count stops at its greatest value
abbrev pub count_up : ℕ → ℕ
count_up n = min (n + 1) (2 ^ 64 - 1)

abbrev pub one_call : CallCounts → CallCounts
one_call t = record t { calls = count_up t.calls }

abbrev pub one_failure : CallCounts → CallCounts
one_failure t = record t { failures = count_up t.failures; calls = count_up t.calls }

abbrev pub one_blocked : CallCounts → CallCounts
one_blocked t = record t { blocked = count_up t.blocked; calls = count_up t.calls }

abbrev pub CountsError : CallCounts → CallCounts → Error → Type 0
CountsError old new e = (error_kind e ≡ WouldBlock → new ≡ one_blocked old) × (error_kind e ≢ WouldBlock → new ≡ one_failure old)

-- what a read, a seek or a flush that returned this counts
abbrev pub CountsCall : {X : Type 0} → CallCounts → CallCounts → Result X Error → Type 0
CountsCall old new (Ok x) = new ≡ one_call old
CountsCall old new (Err e) = CountsError old new e

-- what a write of these bytes that returned this counts: to take none of some is a failure
abbrev pub CountsWrite : CallCounts → CallCounts → Result ℕ Error → List ℕ → Type 0
CountsWrite old new (Ok n) bytes = (0 < n ⊎ (length bytes ≡ 0) → new ≡ one_call old) × ((n ≡ 0) × (0 < length bytes) → new ≡ one_failure old)
CountsWrite old new (Err e) bytes = CountsError old new e

-- no count falls
abbrev pub NoFewer : CallCounts → CallCounts → Type 0
NoFewer old new = (old.failures ≤ new.failures) × (old.blocked ≤ new.blocked) × (old.calls ≤ new.calls)

-- the device failed or would have blocked since, or a count is at its greatest value
abbrev pub HasFailed : CallCounts → CallCounts → Type 0
HasFailed old new = (old.failures < new.failures) ⊎ ((old.blocked < new.blocked) ⊎ ((new.failures ≡ 2 ^ 64 - 1) ⊎ (new.blocked ≡ 2 ^ 64 - 1)))
