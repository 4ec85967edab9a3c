-- What a folder answers of the files below it (this profile's).
use Rattle.std.specs.Prelude.{ℕ, ◌≡◌, ◌⊎◌, ◌++◌, List, ◌∷◌, Result, Err}
use Rattle.std.specs.declared.io.ErrorKind.{ErrorKind}
use Rattle.std.specs.declared.io.ErrorKind.TheVariants.{OutOfMemory}
use Rattle.crew_steps.specs.declared.song_source.SongFault.{SongFault}
use Rattle.crew_steps.specs.declared.song_source.SongFault.TheVariants.{NoMemory, Unopened}

-- the path of a file below a folder: that of the folder, a slash, and the URI
abbrev pub path_below : List ℕ → List ℕ → List ℕ
path_below folder uri = folder ++ 47 ∷ uri

-- A folder answers of a URI what is answered of the path below it, or that there was no memory for that path.
abbrev pub AnswersBelow : {R F : Type 0} → (R → List ℕ → Result F SongFault → Type 0) → R → List ℕ → List ℕ → Result F SongFault → Type 0
AnswersBelow answers files folder uri answer = answers files (path_below folder uri) answer ⊎ (answer ≡ Err NoMemory)

-- without memory a file may be had later; for whatever else it cannot be opened
abbrev pub fault_of : ErrorKind → SongFault
fault_of OutOfMemory = NoMemory
fault_of _ = Unopened
