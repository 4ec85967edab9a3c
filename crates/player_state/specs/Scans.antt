-- The scans of the music folder (MPD protocol reference, The music database: `update`; that one scan
-- runs at a time and that the numbers begin with 1 is this profile's).
use Rattle.std.specs.Prelude.{ℕ, ◌+◌, nat_le, ◌||◌, Bool, true, false, if◌then◌else◌, Option, Some, None}
use Rattle.player_state.specs.declared.scan.ScanMove.{ScanMove}
use Rattle.player_state.specs.declared.scan.ScanMove.TheVariants.{Stay, Begin, End}

-- the number of the last scan that began, and whether it runs
pub record ScanData : Type 0 where
  pub last : ℕ
  pub runs : Bool

abbrev pub never_scanned : ScanData
never_scanned = record { last = 0; runs = false }

-- the number of the scan that runs, if one does
abbrev pub running : ScanData → Option ℕ
running scan = if scan.runs then Some scan.last else None

-- no scan begins after one of the greatest number
abbrev pub is_last : ScanData → Bool
is_last scan = nat_le 9223372036854775807 scan.last

-- a scan begins if none runs and there is a number for it, and one that runs ends
abbrev pub scan_after : ScanData → ScanMove → ScanData
scan_after scan Stay = scan
scan_after scan Begin = if scan.runs || is_last scan then scan else record { last = scan.last + 1; runs = true }
scan_after scan (End songs second) = record scan { runs = false }
