-- Folders and files on a disk, and what a scan keeps of them (this profile's).
use Rattle.std.specs.Prelude.{◌≡◌, ℕ, ◌+◌, ◌^◌, ◌<◌, ◌==◌, ◌⊎◌, Bool, true, false, List, [], ◌∷◌, ◌++◌, length, map, Option, Some, None, if◌then◌else◌, All, Contains, IsTrue, IfOk, IsErrOf, OnOk, Result}
use Rattle.std.specs.List.{flat_map, Any}
use Rattle.mpd_text.specs.Songs.Song.{SongData, TagData}
use Rattle.library_scan.specs.declared.content.Content.{Content}
use Rattle.library_scan.specs.declared.content.Content.TheVariants as content
use Rattle.library_scan.specs.declared.content.Refusal.{Refusal}
use Rattle.library_scan.specs.declared.content.Refusal.TheVariants as refusal
use Rattle.library_scan.specs.declared.scanned.Refused.{Refused}
use Rattle.library_scan.specs.declared.scanned.Scanned.{Scanned}
use Rattle.library_scan.specs.declared.disk.Entry.{Entry}
use Rattle.library_scan.specs.declared.disk.Entry.TheVariants.{Name, NotText, Broken}
use Rattle.library_scan.specs.declared.fault.ScanFault.{ScanFault}
use Rattle.library_scan.specs.declared.fault.ScanFault.TheVariants.{NoFolder, TooMany, NoMemory}
use Rattle.library_scan.specs.declared.found.Found.{Found}
use Rattle.library_scan.specs.declared.step.Kind.{Kind}
use Rattle.library_scan.specs.declared.step.Step.{Step}
use Rattle.library_scan.specs.declared.step.Step.TheVariants.{Skip, Descend, Read, Refuse}
use Rattle.library_scan.specs.Steps.{step_of, path_of}

-- what a file turned out to be
pub data Reading : Type 0 where
  AsSong : (tags : List TagData) → (frames : ℕ) → Reading
  AsNothing : Reading
  AsRefused : (cause : Refusal) → Reading

abbrev pub reading_of : Content → Reading
reading_of (content.Song tags frames) = AsSong tags.items frames
reading_of content.Empty = AsNothing
reading_of (content.Refused cause) = AsRefused cause

-- What lies on a disk, by URI: what a folder tells in its order, or that it cannot be opened; what the system
-- says that a path is; and what a file turns out to be, in the everyday profile or not, at a rate.
pub record Tree : Type 0 where
  pub told : List ℕ → Option (List Entry)
  pub kind : List ℕ → Kind
  pub reading : Bool → ℕ → List ℕ → Reading

-- what holds where the tree is known
abbrev pub OnTree : Option Tree → (Tree → Type 0) → Type 0
OnTree known P = (tree : Tree) → known ≡ Some tree → P tree

-- what a scan keeps of a name: one song, one refused file or one folder at most
pub record Kept : Type 0 where
  pub songs : List SongData
  pub refused : List Refused
  pub folders : List (List ℕ)

abbrev pub nothing : Kept
nothing = record { songs = []; refused = []; folders = [] }

abbrev pub one_song : List ℕ → List TagData → ℕ → Kept
one_song uri tags frames =
    record { songs = record { uri = uri; tags = tags; frames = frames } ∷ []; refused = []; folders = [] }

abbrev pub one_refused : List ℕ → Refusal → Kept
one_refused uri cause = record { songs = []; refused = record { uri = uri; refusal = cause } ∷ []; folders = [] }

abbrev pub one_folder : List ℕ → Kept
one_folder uri = record { songs = []; refused = []; folders = uri ∷ [] }

-- a file that was read: of no frames, nothing
abbrev pub kept_of_file : List ℕ → Reading → Kept
kept_of_file uri (AsSong tags frames) = if frames == 0 then nothing else one_song uri tags frames
kept_of_file uri AsNothing = nothing
kept_of_file uri (AsRefused cause) = one_refused uri cause

-- what is done with a path, and what the file there turns out to be
abbrev pub kept_of : List ℕ → Step → Reading → Kept
kept_of uri Skip reading = nothing
kept_of uri Descend reading = one_folder uri
kept_of uri Refuse reading = one_refused uri refusal.ReadFault
kept_of uri Read reading = kept_of_file uri reading

abbrev pub kept_at : Tree → Bool → ℕ → List ℕ → Kept
kept_at tree everyday rate uri = kept_of uri (step_of uri (tree.kind uri)) (tree.reading everyday rate uri)

-- of what a folder tells: a name that is no text is passed over
abbrev pub kept_of_entry : Tree → Bool → ℕ → List ℕ → Entry → Kept
kept_of_entry tree everyday rate folder (Name name) = kept_at tree everyday rate (path_of folder name)
kept_of_entry tree everyday rate folder NotText = nothing
kept_of_entry tree everyday rate folder Broken = nothing

-- what is heard of a folder: all that it tells, or all up to where its listing broke off
abbrev pub heard : List Entry → List Entry
heard [] = []
heard (Name name ∷ more) = Name name ∷ heard more
heard (NotText ∷ more) = NotText ∷ heard more
heard (Broken ∷ more) = Broken ∷ []

abbrev pub heard_of : Option (List Entry) → List Entry
heard_of None = []
heard_of (Some told) = heard told

-- it never broke off
abbrev pub never_breaks : List Entry → Bool
never_breaks [] = true
never_breaks (Name name ∷ more) = never_breaks more
never_breaks (NotText ∷ more) = never_breaks more
never_breaks (Broken ∷ more) = false

-- a folder was listed whole
abbrev pub is_whole : Option (List Entry) → Bool
is_whole None = false
is_whole (Some told) = never_breaks told

-- a folder is opened where it tells something, and then has all of it to tell
abbrev pub Opens : Option (List Entry) → List Entry → Bool → Type 0
Opens None left is_open = is_open ≡ false
Opens (Some told) left is_open = (is_open ≡ true) × (left ≡ told)

-- it tells the first of what it had to tell, or that there is nothing
abbrev pub Tells : List Entry → List Entry → Option Entry → Type 0
Tells old new None = old ≡ []
Tells old new (Some entry) = old ≡ entry ∷ new

-- a file turns out to be what it is
abbrev pub Reads : Tree → Bool → ℕ → List ℕ → Content → Type 0
Reads tree everyday rate uri content = reading_of content ≡ tree.reading everyday rate uri

-- what a disk answers, where its tree is known: it opens a folder, tells what comes next in one, and reads a file
abbrev pub OpensFolder : {E : Type 0} → Option Tree → List ℕ → List Entry → Result Bool E → Type 0
OpensFolder known folder left result = OnTree known (λ tree. IfOk result (Opens (tree.told folder) left))

abbrev pub TellsNext : {E : Type 0} → Option Tree → List Entry → List Entry → Result (Option Entry) E → Type 0
TellsNext known old new result = OnTree known (λ _. IfOk result (Tells old new))

abbrev pub ReadsFile : {E : Type 0} → Option Tree → Bool → ℕ → List ℕ → Result Content E → Type 0
ReadsFile known everyday rate uri result = OnTree known (λ tree. IfOk result (Reads tree everyday rate uri))

-- it is said whether a folder is listed whole, and whether all is heard that one has to tell
abbrev pub SaysIfWhole : {E : Type 0} → Option Tree → List ℕ → Result Bool E → Type 0
SaysIfWhole known folder result = OnTree known (λ tree. IfOk result (λ all. all ≡ is_whole (tree.told folder)))

abbrev pub SaysIfAllHeard : {E : Type 0} → Option Tree → List Entry → Result Bool E → Type 0
SaysIfAllHeard known told result = OnTree known (λ tree. IfOk result (λ all. all ≡ never_breaks told))

-- what is heard of a folder of a tree
abbrev pub told_in : Tree → List ℕ → List Entry
told_in tree folder = heard_of (tree.told folder)

-- what is kept of each name that a folder tells, in its order
abbrev pub kept_heard : Tree → Bool → ℕ → List ℕ → List Entry → List Kept
kept_heard tree everyday rate folder told = map (kept_of_entry tree everyday rate folder) (heard told)

abbrev pub kept_in : Tree → Bool → ℕ → List ℕ → List Kept
kept_in tree everyday rate folder = map (kept_of_entry tree everyday rate folder) (told_in tree folder)

abbrev pub songs_in : Tree → Bool → ℕ → List ℕ → List SongData
songs_in tree everyday rate folder = flat_map (λ kept. kept.songs) (kept_in tree everyday rate folder)

abbrev pub refused_in : Tree → Bool → ℕ → List ℕ → List Refused
refused_in tree everyday rate folder = flat_map (λ kept. kept.refused) (kept_in tree everyday rate folder)

abbrev pub folders_in : Tree → Bool → ℕ → List ℕ → List (List ℕ)
folders_in tree everyday rate folder = flat_map (λ kept. kept.folders) (kept_in tree everyday rate folder)

-- what is found gains this of a name
pub record Keeps (kept : Kept) (old new : Found) : Type 0 where
  pub songs : new.songs.items ≡ old.songs.items ++ kept.songs
  pub refused : new.refused.items ≡ old.refused.items ++ kept.refused
  pub folders : new.folders.items ≡ old.folders.items ++ kept.folders
  pub names : new.names ≡ old.names

-- what is found gains this of so many names
pub record Adds (kept : List Kept) (old new : Found) : Type 0 where
  pub songs : new.songs.items ≡ old.songs.items ++ flat_map (λ (k : Kept). k.songs) kept
  pub refused : new.refused.items ≡ old.refused.items ++ flat_map (λ (k : Kept). k.refused) kept
  pub folders : new.folders.items ≡ old.folders.items ++ flat_map (λ (k : Kept). k.folders) kept
  pub names : new.names ≡ old.names + length kept

-- what is found gains what is kept of a name of a folder, of all that the folder of a disk that is open has to tell, of a
-- folder
abbrev pub KeepsName : {X : Type 0} → Option Tree → Bool → ℕ → List ℕ → List ℕ → Found → Found → Result X ScanFault → Type 0
KeepsName known everyday rate folder name old new result =
    OnTree known (λ tree. OnOk result (Keeps (kept_at tree everyday rate (path_of folder name)) old new))

abbrev pub AddsAll : {D X : Type 0} → (D → Option Tree) → (D → List Entry) → D → Bool → ℕ → List ℕ → Found → Found → Result X ScanFault → Type 0
AddsAll known left disk everyday rate folder old new result =
    OnTree (known disk) (λ tree. OnOk result (Adds (kept_heard tree everyday rate folder (left disk)) old new))

abbrev pub AddsFolder : {X : Type 0} → Option Tree → Bool → ℕ → List ℕ → Found → Found → Result X ScanFault → Type 0
AddsFolder known everyday rate folder old new result = OnTree known (λ tree. OnOk result (Adds (kept_in tree everyday rate folder) old new))

-- why a listing ends early: the songs or the names are at their limit, or there is no memory
abbrev pub IsLimit : Found → ScanFault → Type 0
IsLimit found NoFolder = ⊥
IsLimit found TooMany = (length found.songs.items ≡ 100000) ⊎ (found.names ≡ 2 ^ 32)
IsLimit found NoMemory = Unit {0}

-- What was found is what these folders hold that were listed, the scanned one first; the folders known are
-- that one and each that lies in one that was listed; and each name that they told was counted.
pub record Holds (tree : Tree) (everyday : Bool) (rate : ℕ) (listed : List (List ℕ)) (found : Found) : Type 0 where
  pub folders : found.folders.items ≡ [] ∷ flat_map (folders_in tree everyday rate) listed
  pub songs : found.songs.items ≡ flat_map (songs_in tree everyday rate) listed
  pub refused : found.refused.items ≡ flat_map (refused_in tree everyday rate) listed
  pub names : found.names ≡ length (flat_map (told_in tree) listed)

-- the folder that is scanned was listed, and nothing else yet
abbrev pub RootListed : Tree → Bool → ℕ → Found → Type 0
RootListed tree everyday rate found = Holds tree everyday rate ([] ∷ []) found

-- then each folder that was found was listed
abbrev pub ListsAll : Tree → Bool → ℕ → Found → Found → Type 0
ListsAll tree everyday rate old new = RootListed tree everyday rate old → Holds tree everyday rate new.folders.items new

abbrev pub ListsEach : {X : Type 0} → Option Tree → Bool → ℕ → Found → Found → Result X ScanFault → Type 0
ListsEach known everyday rate old new result = OnTree known (λ tree. OnOk result (ListsAll tree everyday rate old new))

-- more songs than a library has, or more names than a scan looks at
abbrev pub IsOver : ℕ → ℕ → Type 0
IsOver songs names = (100000 < songs) ⊎ (2 ^ 32 < names)

-- with what is kept of so many names more, it would be
abbrev pub IsOverWith : Found → List Kept → Type 0
IsOverWith found kept =
    IsOver (length found.songs.items + length (flat_map (λ (k : Kept). k.songs) kept)) (found.names + length kept)

-- there is a song more, and no room for it
abbrev pub NoRoom : Found → Kept → Type 0
NoRoom found kept = (length found.songs.items ≡ 100000) × (0 < length kept.songs)

-- These folders have too much for a scan: those that it lists first, in the order in which they are found,
-- and the one that comes after them.
pub record IsTooLarge (tree : Tree) (everyday : Bool) (rate : ℕ) : Type 0 where
  pub before : List (List ℕ)
  pub folder : List ℕ
  pub after : List (List ℕ)
  pub reached : [] ∷ flat_map (folders_in tree everyday rate) before ≡ before ++ folder ∷ after
  pub over : IsOver (length (flat_map (songs_in tree everyday rate) (before ++ folder ∷ [])))
      (length (flat_map (told_in tree) (before ++ folder ∷ [])))

-- what holds where there is too much
abbrev pub OnTooMany : {X : Type 0} → Result X ScanFault → Type 0 → Type 0
OnTooMany result P = IsErrOf result TooMany → P

-- too much is what is kept of a name of a folder, of all that the folder of a disk that is open has to tell, of a folder
abbrev pub OverByName : {X : Type 0} → Option Tree → Bool → ℕ → List ℕ → List ℕ → Found → Result X ScanFault → Type 0
OverByName known everyday rate folder name found result =
    OnTree known (λ tree. OnTooMany result (NoRoom found (kept_at tree everyday rate (path_of folder name))))

abbrev pub OverByAll : {D X : Type 0} → (D → Option Tree) → (D → List Entry) → D → Bool → ℕ → List ℕ → Found → Result X ScanFault → Type 0
OverByAll known left disk everyday rate folder found result =
    OnTree (known disk) (λ tree. OnTooMany result (IsOverWith found (kept_heard tree everyday rate folder (left disk))))

abbrev pub OverByFolder : {X : Type 0} → Option Tree → Bool → ℕ → List ℕ → Found → Result X ScanFault → Type 0
OverByFolder known everyday rate folder found result = OnTree known (λ tree. OnTooMany result (IsOverWith found (kept_in tree everyday rate folder)))

abbrev pub RestIsTooLarge : Tree → Bool → ℕ → Found → Type 0
RestIsTooLarge tree everyday rate found = RootListed tree everyday rate found → IsTooLarge tree everyday rate

-- what else is to be listed is too much
abbrev pub OverByRest : {X : Type 0} → Option Tree → Bool → ℕ → Found → Result X ScanFault → Type 0
OverByRest known everyday rate found result = OnTree known (λ tree. OnTooMany result (RestIsTooLarge tree everyday rate found))

-- Why a tree has no scan: its own folder cannot be listed whole, or it has too much, or there is no memory.
abbrev pub Explains : Tree → Bool → ℕ → ScanFault → Type 0
Explains tree everyday rate NoFolder = is_whole (tree.told []) ≡ false
Explains tree everyday rate TooMany = IsTooLarge tree everyday rate
Explains tree everyday rate NoMemory = Unit {0}

-- each of these is among those, and of each of those one of its URI is left
pub record OnceEach {X : Type 0} (uri : X → List ℕ) (given left : List X) : Type 0 where
  pub among : All (Contains given) left
  pub each : (x : X) → Contains given x → Any (λ kept. uri kept ≡ uri x) left

-- A scan gives what all folders hold that can be found: the scanned one, and each that lies in one of them.
-- The list of these folders is the only one that the equation has.
pub record IsScanOf (tree : Tree) (everyday : Bool) (rate : ℕ) (scanned : Scanned) : Type 0 where
  pub whole : IsTrue (is_whole (tree.told []))
  pub folders : List (List ℕ)
  pub reached : folders ≡ [] ∷ flat_map (folders_in tree everyday rate) folders
  pub songs : OnceEach (λ (song : SongData). song.uri) (flat_map (songs_in tree everyday rate) folders) scanned.songs.items
  pub refused : OnceEach (λ (file : Refused). file.uri) (flat_map (refused_in tree everyday rate) folders) scanned.refused.items
