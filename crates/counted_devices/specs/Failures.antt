-- What a device over memory does, and how it fails (this profile's).
use Rattle.std.specs.Prelude.{◌≡◌, ℕ, min, List, drop, length, Result, Option, Some, IsErr, IfErr}
use Rattle.std.specs.Global.{Vec}
use Rattle.std.specs.Io.Seek.{SeekMoves}
use Rattle.std.specs.IoError.{error_kind}
use Rattle.std.specs.declared.io.Error.{Error}
use Rattle.std.specs.declared.io.ErrorKind.{ErrorKind}
use Rattle.std.specs.declared.io.traits.SeekFrom.{SeekFrom}
use Rattle.counted_devices.specs.CallCounts.{no_calls}
use Rattle.counted_devices.specs.Bytes.{room_after}
use Rattle.counted_devices.specs.declared.fail_at.FailAt.{FailAt}
use Rattle.counted_devices.specs.declared.fail_at.FailurePoint.{FailurePoint}

-- a device at the first of these bytes that was not called yet, and fails so at the point
abbrev pub fresh_device : Vec ℕ → FailurePoint → ErrorKind → FailAt
fresh_device bytes point kind =
    record { bytes = bytes; position = 0; call_counts = no_calls; point = point; kind = kind }

-- what is left to read: the bytes from the offset on
abbrev pub left_to_read : FailAt → List ℕ
left_to_read d = drop d.position d.bytes.items

-- the same, as what a reader of known bytes has left
abbrev pub rest_of : FailAt → Option (List ℕ)
rest_of d = Some (left_to_read d)

-- how many bytes the next call lets through that comes after so many bytes; none where it is to fail
abbrev pub room_for_call : FailAt → ℕ → ℕ
room_for_call d before = room_after d.point d.call_counts.calls before

-- how many bytes the next call lets through where it is a read, and where it is a write
abbrev pub room_to_read : FailAt → ℕ
room_to_read d = room_for_call d d.position

abbrev pub room_to_write : FailAt → ℕ
room_to_write d = room_for_call d (length d.bytes.items)

-- how many bytes a read gives that fills this buffer: as many as may pass, are left and have room
abbrev pub read_count : FailAt → List ℕ → ℕ
read_count d buf = min (min (room_to_read d) (length (left_to_read d))) (length buf)

-- where the call failed, its error is of this kind
abbrev pub AnyErrorIs : {X : Type 0} → ErrorKind → Result X Error → Type 0
AnyErrorIs kind r = IfErr r (λ e. error_kind e ≡ kind)

-- the call failed, with an error of this kind
abbrev pub FailsWith : {X : Type 0} → ErrorKind → Result X Error → Type 0
FailsWith kind r = IsErr r × AnyErrorIs kind r

-- the device's offset moved as this seek among its bytes moves it
abbrev pub PositionMoves : FailAt → FailAt → SeekFrom → Result ℕ Error → Type 0
PositionMoves old new to r = SeekMoves (Some old.position) (Some new.position) (Some old.bytes.items) to r
