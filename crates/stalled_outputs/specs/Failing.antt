-- After which faults of its path an output is off (this profile's).
use Rattle.std.specs.Prelude.{Bool, true, false}
use Rattle.std.specs.declared.io.ErrorKind.{ErrorKind}
use Rattle.std.specs.declared.io.ErrorKind.TheVariants.{Interrupted, BrokenPipe, WouldBlock}

-- An output is off after every fault. One with patience goes on where its reader went away, where its path has no
-- room, and where a write was interrupted.
abbrev pub ends_output : Bool → ErrorKind → Bool
ends_output true Interrupted = false
ends_output true BrokenPipe = false
ends_output true WouldBlock = false
ends_output is_patient kind = true
