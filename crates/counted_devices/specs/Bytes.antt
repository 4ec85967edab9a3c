-- Where a device is, and where it fails (this profile's).
use Rattle.std.specs.Prelude.{◌≡◌, ℕ, ◌-◌, ◌^◌, List, drop, length, Result, Option, Some, IfSome, MatchResult, ◌==◌, if◌then◌else◌}
use Rattle.std.specs.Io.Cursor.{cursor_remaining}
use Rattle.std.specs.declared.io.Cursor.{Cursor}
use Rattle.counted_devices.specs.CallCounts.{count_up}
use Rattle.counted_devices.specs.declared.fail_at.FailurePoint.{FailurePoint}
use Rattle.counted_devices.specs.declared.fail_at.FailurePoint.TheVariants.{Never, Call, Byte}

-- A seek to an offset, where all bytes are known: at Ok those from the offset on remain, and at Err what
-- remained before.
abbrev pub Seeks : {X E : Type 0} → Option (List ℕ) → ℕ → Option (List ℕ) → Option (List ℕ) → Result X E → Type 0
Seeks bytes offset old new r = IfSome bytes (λ all. MatchResult r (λ _. new ≡ Some (drop offset all)) (λ _. new ≡ old))

-- a seek after the last byte, where all bytes are known
abbrev pub SeeksToEnd : {X E : Type 0} → Option (List ℕ) → Option (List ℕ) → Option (List ℕ) → Result X E → Type 0
SeeksToEnd bytes old new r = IfSome bytes (λ all. Seeks bytes (length all) old new r)

-- the same two of a cursor over something whose bytes this function gives
abbrev pub CursorSeeks : {T X E : Type 0} → (T → Option (List ℕ)) → ℕ → Cursor T → Cursor T → Result X E → Type 0
CursorSeeks bytes offset old new r =
    Seeks (bytes old.inner) offset (cursor_remaining bytes old) (cursor_remaining bytes new) r

abbrev pub CursorSeeksToEnd : {T X E : Type 0} → (T → Option (List ℕ)) → Cursor T → Cursor T → Result X E → Type 0
CursorSeeksToEnd bytes old new r =
    SeeksToEnd (bytes old.inner) (cursor_remaining bytes old) (cursor_remaining bytes new) r

-- how many bytes a call lets through that comes after so many calls and bytes; none where it is to fail
abbrev pub room_after : FailurePoint → ℕ → ℕ → ℕ
room_after Never calls bytes = 2 ^ 64 - 1
room_after (Call call) calls bytes = if count_up calls == call then 0 else 2 ^ 64 - 1
room_after (Byte byte) calls bytes = byte - bytes
