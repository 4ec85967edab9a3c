-- What a scan keeps of a file, by what its bytes mean.
use Rattle.std.specs.Prelude.{◌≡◌, ◌<◌, ⊤, ℕ, Bool, true, false, List, length, codes, Option, Result, Ok, Err, IfSome, IfOk}
use Rattle.std.specs.declared.alloc.AllocError.{AllocError}
use Rattle.counted_devices.specs.declared.call_counts.CallCounts.{CallCounts}
use Rattle.wave.specs.Waves.{Wave, wave_of}
use Rattle.wave.specs.declared.fault.WaveFault.{WaveFault}
use Rattle.wave.specs.declared.fault.WaveFault.TheVariants.{NotRiff, NoFormat, Unsupported, NoData}
use Rattle.library_scan.specs.declared.content.Content.{Content}
use Rattle.library_scan.specs.declared.content.Content.TheVariants.{Song, Empty, Refused}
use Rattle.library_scan.specs.declared.content.Refusal.{Refusal}
use Rattle.library_scan.specs.declared.content.Refusal.TheVariants as refusal
use Rattle.library_scan.specs.Causes.{BlamesFile}

-- a refusal of the bytes is theirs; one of the device says nothing of them
abbrev pub Refuses : Refusal → Result Wave WaveFault → Type 0
Refuses refusal.NotRiff meaning = meaning ≡ Err NotRiff
Refuses refusal.NoFormat meaning = meaning ≡ Err NoFormat
Refuses refusal.Unsupported meaning = meaning ≡ Err Unsupported
Refuses refusal.NoData meaning = meaning ≡ Err NoData
Refuses refusal.ReadFault meaning = ⊤

-- a song has the tags and the number of frames that the bytes mean, of which there is one at least
abbrev pub Keeps : Content → Result Wave WaveFault → Type 0
Keeps (Song tags frames) meaning = (wave : Wave) × (meaning ≡ Ok wave) × (tags.items ≡ wave.tags) × (frames ≡ length wave.frames) × (0 < frames)
Keeps Empty meaning = (wave : Wave) × (meaning ≡ Ok wave) × (length wave.frames ≡ 0)
Keeps (Refused r) meaning = Refuses r meaning

-- what is kept of a file is what its bytes mean, where they are known
abbrev pub KeepsBytes : Bool → ℕ → Option (List ℕ) → Result Content AllocError → Type 0
KeepsBytes everyday rate known result = IfSome known (λ bytes. IfOk result (λ content. Keeps content (wave_of everyday rate bytes)))

-- a refusal that says that the file could not be opened or read
abbrev pub is_read_fault : Refusal → Bool
is_read_fault refusal.NotRiff = false
is_read_fault refusal.NoFormat = false
is_read_fault refusal.Unsupported = false
is_read_fault refusal.NoData = false
is_read_fault refusal.ReadFault = true

abbrev pub is_unread : Content → Bool
is_unread (Song tags frames) = false
is_unread Empty = false
is_unread (Refused cause) = is_read_fault cause

-- A file is unread exactly where its device failed in the call. Else it is unread only where the device was
-- called too often, or a count is at its greatest value.
abbrev pub UnreadOnFailure : CallCounts → CallCounts → Result Content AllocError → Type 0
UnreadOnFailure old new result = IfOk result (λ content. BlamesFile (is_unread content) old new)

-- the name that a refusal is shown by
abbrev pub name_of : Refusal → List ℕ
name_of refusal.NotRiff = codes "NotRiff"
name_of refusal.NoFormat = codes "NoFormat"
name_of refusal.Unsupported = codes "Unsupported"
name_of refusal.NoData = codes "NoData"
name_of refusal.ReadFault = codes "ReadFault"
