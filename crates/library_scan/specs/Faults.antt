-- Which answers of a disk tell of a fault, and how many files are called unreadable (this profile's).
use Rattle.std.specs.Prelude.{◌≡◌, ◌≤◌, ◌+◌, ◌⊎◌, ℕ, Bool, true, false, not, List, [], Option, Some, None, Result, IfOk, IsErrOf, OnOk, count_by}
use Rattle.std.specs.declared.alloc.AllocError.{AllocError}
use Rattle.counted_devices.specs.CallCounts.{HasFailed}
use Rattle.counted_devices.specs.declared.call_counts.CallCounts.{CallCounts}
use Rattle.library_scan.specs.declared.disk.Entry.{Entry}
use Rattle.library_scan.specs.declared.disk.Entry.TheVariants.{Name, NotText, Broken}
use Rattle.library_scan.specs.declared.fault.ScanFault.{ScanFault}
use Rattle.library_scan.specs.declared.fault.ScanFault.TheVariants.{NoFolder}
use Rattle.library_scan.specs.declared.found.Found.{Found}
use Rattle.library_scan.specs.declared.scanned.Refused.{Refused}
use Rattle.library_scan.specs.declared.scanned.Scanned.{Scanned}
use Rattle.library_scan.specs.declared.step.Kind.{Kind}
use Rattle.library_scan.specs.declared.step.Kind.TheVariants.{Folder, File, Other, Unseen}
use Rattle.library_scan.specs.Causes.{Blames, IsSpent, failed_calls}
use Rattle.library_scan.specs.Contents.{is_read_fault}

-- the system tells nothing of the path
abbrev pub is_unseen : Kind → Bool
is_unseen Folder = false
is_unseen File = false
is_unseen Other = false
is_unseen Unseen = true

-- a name that is passed over, or the end of a listing before its last name
abbrev pub misses : Option Entry → Bool
misses None = false
misses (Some (Name name)) = false
misses (Some NotText) = true
misses (Some Broken) = true

-- a folder is shut, a name is missed, and a path is unseen, exactly where a call of the disk failed
abbrev pub ShutOnFailure : CallCounts → CallCounts → Result Bool AllocError → Type 0
ShutOnFailure old new result = IfOk result (λ is_open. Blames (not is_open) old new)

abbrev pub MissedOnFailure : CallCounts → CallCounts → Result (Option Entry) AllocError → Type 0
MissedOnFailure old new result = IfOk result (λ told. Blames (misses told) old new)

abbrev pub UnseenOnFailure : CallCounts → CallCounts → Result Kind AllocError → Type 0
UnseenOnFailure old new result = IfOk result (λ kind. Blames (is_unseen kind) old new)

-- a folder is not listed whole, and a scan has no folder, only where a call of the disk failed
abbrev pub ShortOnFailure : {E : Type 0} → CallCounts → CallCounts → Result Bool E → Type 0
ShortOnFailure old new result = IfOk result (λ all. all ≡ false → HasFailed old new)

abbrev pub NoFolderOnFailure : {X : Type 0} → CallCounts → CallCounts → Result X ScanFault → Type 0
NoFolderOnFailure old new result = IsErrOf result NoFolder → HasFailed old new

-- how many of these files are called unreadable
abbrev pub unread_in : List Refused → ℕ
unread_in refused = count_by (λ (file : Refused). is_read_fault file.refusal) refused

-- Each file that is called unreadable, and was not before, has a call of its own that failed; or the counts
-- tell no more.
abbrev pub EachFailed : CallCounts → CallCounts → List Refused → List Refused → Type 0
EachFailed old new before after = (unread_in after + failed_calls old ≤ unread_in before + failed_calls new) ⊎ IsSpent old new

-- the same of the files that were found before a call and after it, of a disk with these counts, and of those that a
-- scan gives
abbrev pub FoundFailed : {D X : Type 0} → (D → CallCounts) → D → D → Found → Found → Result X ScanFault → Type 0
FoundFailed counts old new before after result = OnOk result (EachFailed (counts old) (counts new) before.refused.items after.refused.items)

abbrev pub GivenFailed : CallCounts → CallCounts → Result Scanned ScanFault → Type 0
GivenFailed old new result = IfOk result (λ scanned. EachFailed old new [] scanned.refused.items)
