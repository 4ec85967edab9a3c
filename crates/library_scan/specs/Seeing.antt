-- What the system's answers say (this profile's).
use Rattle.std.specs.Prelude.{◌≡◌, ◌≢◌, ⊤, Bool, false, Result, Ok, Err}
use Rattle.std.specs.IoError.{error_kind}
use Rattle.std.specs.declared.alloc.AllocError.{AllocError}
use Rattle.std.specs.Fs.{dir_entry_name, file_type, IsDir, IsFile}
use Rattle.std.specs.declared.fs.attrs.Metadata.{Metadata}
use Rattle.std.specs.declared.fs.dir.DirEntry.{DirEntry}
use Rattle.std.specs.declared.io.Error.{Error}
use Rattle.std.specs.declared.io.ErrorKind.{ErrorKind}
use Rattle.std.specs.declared.io.ErrorKind.TheVariants.{OutOfMemory, InvalidFilename}
use Rattle.library_scan.specs.declared.disk.Entry.{Entry}
use Rattle.library_scan.specs.declared.disk.Entry.TheVariants.{Name, NotText, Broken}
use Rattle.library_scan.specs.declared.step.Kind.{Kind}
use Rattle.library_scan.specs.declared.step.Kind.TheVariants.{Folder, File, Other, Unseen}
use Rattle.library_scan.specs.Faults.{is_unseen}

-- a path's type; of a path that the system tells nothing of, that it is unseen
pub record ShowsNode (metadata : Metadata) (kind : Kind) : Type 0 where
  pub folder : IsDir (file_type metadata) → kind ≡ Folder
  pub file : IsFile (file_type metadata) → kind ≡ File
  pub other : ¬ IsDir (file_type metadata) → ¬ IsFile (file_type metadata) → kind ≡ Other
  pub seen : is_unseen kind ≡ false

abbrev pub Shows : Result Metadata Error → Kind → Type 0
Shows (Ok metadata) kind = ShowsNode metadata kind
Shows (Err fault) kind = kind ≡ Unseen

-- an error of a listing: only that of a name that is no text leaves it going on
abbrev pub IsEntryOf : ErrorKind → Result Entry AllocError → Type 0
IsEntryOf kind (Err fault) = kind ≡ OutOfMemory
IsEntryOf kind (Ok (Name name)) = ⊥
IsEntryOf kind (Ok NotText) = kind ≡ InvalidFilename
IsEntryOf kind (Ok Broken) = (kind ≢ OutOfMemory) × (kind ≢ InvalidFilename)

-- what a listing gave: a name is told as it is
abbrev pub IsTold : {R A F D : Type 0} → Result (DirEntry R A F D) Error → Result Entry AllocError → Type 0
IsTold (Ok entry) (Ok told) = told ≡ Name (dir_entry_name entry)
IsTold (Ok entry) (Err fault) = ⊤
IsTold (Err fault) told = IsEntryOf (error_kind fault) told

-- an error of an opening: the folder is passed over, unless it was want of memory
abbrev pub IsShutBy : ErrorKind → Result Bool AllocError → Type 0
IsShutBy kind (Err fault) = kind ≡ OutOfMemory
IsShutBy kind (Ok is_open) = (kind ≢ OutOfMemory) × (is_open ≡ false)
