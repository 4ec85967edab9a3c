-- What a window shows of its file.
use Rattle.std.specs.Prelude.{ℕ, List, Option}
use Rattle.std.specs.declared.io.traits.Read as Read
use Rattle.counted_devices.specs.declared.device.Failing as Failing
use Rattle.counted_devices.specs.declared.device.Media as Media
use Rattle.library_scan.specs.Windows.{IsEnd, IsPastEnd, from_offset, left, whole}
use Rattle.library_scan.specs.declared.window.Windowed.{Windowed}

module _ {M : Type 0} {media : Media.Ghosts M} {read : Read.Ghosts M} {failing : Failing.Ghosts M} where
  -- how many of the bytes that were read are still to be given
  abbrev pub left_in : Windowed M media read failing → ℕ
  left_in w = left w.offset w.start w.filled

  -- all bytes of the file, where they are known and as many as it had when it was looked at
  abbrev pub whole_in : Windowed M media read failing → Option (List ℕ)
  whole_in w = whole (media.all_bytes w.file) w.len

  -- those from the window's offset on
  abbrev pub rest_in : Windowed M media read failing → Option (List ℕ)
  rest_in w = from_offset w.offset (whole_in w)

  -- no byte stands from the window's offset on
  abbrev pub IsPastFileEnd : Windowed M media read failing → Type 0
  IsPastFileEnd w = IsPastEnd (media.all_bytes w.file) w.offset

  -- the same, where the file is as long as was told
  abbrev pub IsAtFileEnd : Windowed M media read failing → Type 0
  IsAtFileEnd w = IsEnd (media.all_bytes w.file) w.len w.offset
