-- What calls ask of a device (this profile's).
use Rattle.std.specs.Prelude.{◌≡◌, ℕ, ◌+◌, ◌-◌, ◌^◌, ◌≤◌, ◌⊎◌, List, length, take, drop, Option, Some, IfSome, Result, IfOk, IsErrOf}
use Rattle.counted_devices.specs.declared.call_counts.CallCounts.{CallCounts}
use Rattle.counted_devices.specs.CallCounts.{HasFailed}
use Rattle.wave.specs.declared.fault.WaveFault.{WaveFault}
use Rattle.wave.specs.declared.fault.WaveFault.TheVariants.{NotRiff, NoFormat, Unsupported, NoData, ReadFault, NoMemory}

-- the start of the buffer holds the bytes from an offset on: as many as it has room for, or all there are
abbrev pub FillsFrom : List ℕ → ℕ → ℕ → List ℕ → Type 0
FillsFrom bytes at n buf = take n buf ≡ take (length buf) (drop at bytes)

-- what remains to be read are the bytes from this offset on
abbrev pub RemainsAt : ℕ → List ℕ → Option (List ℕ) → Type 0
RemainsAt at bytes remaining = remaining ≡ Some (drop at bytes)

-- what the call gives is this of the device's bytes, where they are known
abbrev pub GivesOfBytes : {X E : Type 0} → Option (List ℕ) → (List ℕ → X) → Result X E → Type 0
GivesOfBytes known value r = IfSome known (λ bytes. IfOk r (λ found. found ≡ value bytes))

-- the device was called 2 ^ 32 times since, or its count is at its greatest value
abbrev pub CalledTooOften : CallCounts → CallCounts → Type 0
CalledTooOften old new = (old.calls + 2 ^ 32 ≤ new.calls) ⊎ (new.calls ≡ 2 ^ 64 - 1)

-- a read fault comes only where the device failed since, or was called too often
abbrev pub ReadFaultHasCause : {X : Type 0} → CallCounts → CallCounts → Result X WaveFault → Type 0
ReadFaultHasCause old new r = IsErrOf r ReadFault → HasFailed old new ⊎ CalledTooOften old new

-- the device failed since, or its count of calls has come to a limit
abbrev pub Ends : ℕ → CallCounts → CallCounts → Type 0
Ends limit old new = HasFailed old new ⊎ ((limit ≤ new.calls) × (new.calls ≤ 2 ^ 64 - 1))

-- a read fault comes only where the device has ended
abbrev pub ReadFaultEnds : {X : Type 0} → ℕ → CallCounts → CallCounts → Result X WaveFault → Type 0
ReadFaultEnds limit old new r = IsErrOf r ReadFault → Ends limit old new

-- no count of calls passes the limit
abbrev pub KeepsTo : ℕ → CallCounts → CallCounts → Type 0
KeepsTo limit old new = old.calls ≤ limit → new.calls ≤ limit

-- a fault of the device or of memory, and none of the file
abbrev pub IsOutside : ℕ → CallCounts → CallCounts → WaveFault → Type 0
IsOutside limit old new NotRiff = ⊥
IsOutside limit old new NoFormat = ⊥
IsOutside limit old new Unsupported = ⊥
IsOutside limit old new NoData = ⊥
IsOutside limit old new ReadFault = Ends limit old new
IsOutside limit old new NoMemory = Unit {0}
