-- What one statement of a shelf shows or makes, and why it is refused.
use Rattle.std.specs.Prelude.{◌≡◌, ◌≢◌, ◌⊎◌, ℕ, List, [], ◌∷◌, map, true, false, slice_get, string_bytes, Option, Some, None, option_map, Result, Ok, Err, IfOk, IfErr}
use Rattle.std.specs.Global.{Vec, Global}
use Rattle.std.specs.declared.string.String.{String}
use Rattle.sqlite.specs.declared.error.Error.{Error}
use Rattle.sqlite.specs.declared.error.Error.TheVariants.{SqliteFailure}
use Rattle.sqlite.specs.declared.error.ErrorCode.TheVariants as code
use Rattle.sqlite.specs.declared.types.Value.TheVariants.{Text}
use Rattle.sqlite.specs.Order.{Row, column}
use Rattle.sqlite.specs.Store.{Ghosts}
use Rattle.sqlite.specs.Held.{Held, state}
use Rattle.sqlite.specs.State.{State, HasCleanDisk, Shown, FailsToQuery, Executes, Survives, CommitsBy, CommitsShowing}
use Rattle.shelf.specs.declared.faults.ShelfFault.{ShelfFault}
use Rattle.shelf.specs.declared.faults.ShelfFault.TheVariants.{StoreFault, NoMemory}
use Rattle.shelf.specs.Maps.{Maps, Changes}
use Rattle.shelf_database.specs.Tables.{IsReady, database_standing}
use Rattle.shelf_database.specs.Faults.{LacksText}

-- want of memory, or the store's fault for this reason
abbrev pub IsFor : Type 0 → ShelfFault → Type 0
IsFor reason fault = (fault ≡ NoMemory) ⊎ ((fault ≡ StoreFault) × reason)

-- the query was answered with an error
abbrev pub IsRefused : List ℕ → Row → State → State → ShelfFault → Type 0
IsRefused text params old new fault = (e : Error) × FailsToQuery text params old new e × IsFor (e ≢ SqliteFailure code.OutOfMemory) fault

-- the first row has no text, or there was no memory for it
abbrev pub IsTextless : List ℕ → Row → State → State → ShelfFault → Type 0
IsTextless text params old new fault = (rows : List Row) × Shown text params old new rows × IsFor (LacksText (0 ∷ []) (λ _. true) rows) fault

-- the rows show, in this column, the texts of these items, in order
abbrev pub ShowTexts : {X : Type 0} → ℕ → List Row → (X → List ℕ) → List X → Type 0
ShowTexts at rows text items = map (λ row. column row at) rows ≡ map (λ item. Text (text item)) items

-- the text of the first row, if there is one
abbrev pub IsFirst : List Row → Option (List ℕ) → Type 0
IsFirst rows None = slice_get rows 0 ≡ None
IsFirst rows (Some text) = (row : Row) × (slice_get rows 0 ≡ Some row) × (column row 0 ≡ Text text)

-- the query shows rows, and the first has this text, if there is one
abbrev pub ShowsFirst : List ℕ → Row → State → State → Option (List ℕ) → Type 0
ShowsFirst text params old new first = (rows : List Row) × Shown text params old new rows × IsFirst rows first

-- the query was answered with an error, or the first row has no text, or there was no memory for it
abbrev pub IsWithoutFirst : List ℕ → Row → State → State → ShelfFault → Type 0
IsWithoutFirst text params old new fault = IsRefused text params old new fault ⊎ IsTextless text params old new fault

-- the statement was run, or answered with an error
abbrev pub Ran : List ℕ → Row → State → State → Result (Unit {0}) ShelfFault → Type 0
Ran text params old new (Ok done) = (count : ℕ) × Executes text params old new (Ok count)
Ran text params old new (Err fault) = (e : Error) × Executes text params old new (Err e) × IsFor (e ≢ SqliteFailure code.OutOfMemory) fault

-- A query that was refused leaves the maps, whatever the call was to do. The store is blamed for this reason
-- alone.
pub record Refuses (old new : State) (reason : Type 0) (fault : ShelfFault) : Type 0 where
  pub changes : (after : Maps) → Changes (database_standing old) (database_standing new) false after
  pub told : HasCleanDisk new → IsReady old → IsFor reason fault

-- what a statement on a connection showed or made, from before it to after it
module _ {S : Type 0} (store : Ghosts S) (old new : Held S) where
  -- where the disk is clean, a success is the rows that the query shows
  abbrev pub TellsRows : List ℕ → Row → Result (Vec Row) ShelfFault → Type 0
  TellsRows query params result =
      HasCleanDisk (state store new) → IfOk result (λ rows. Shown query params (state store old) (state store new) rows.items)

  -- where the disk is clean, a refusal is that of the query
  abbrev pub TellsRefusal : {X : Type 0} → List ℕ → Row → Result X ShelfFault → Type 0
  TellsRefusal query params result =
      HasCleanDisk (state store new) → IfErr result (IsRefused query params (state store old) (state store new))

  -- where the disk is clean, a success is the text of the first row that the query shows, if there is one
  abbrev pub TellsFirst : List ℕ → Row → Result (Option (String Global)) ShelfFault → Type 0
  TellsFirst query params result =
      HasCleanDisk (state store new)
      → IfOk result (λ text. ShowsFirst query params (state store old) (state store new) (option_map string_bytes text))

  -- where the disk is clean, a refusal is that of the query, or of the first row's text
  abbrev pub TellsNoFirst : {X : Type 0} → List ℕ → Row → Result X ShelfFault → Type 0
  TellsNoFirst query params result =
      HasCleanDisk (state store new) → IfErr result (IsWithoutFirst query params (state store old) (state store new))

  -- where the disk is clean, the statement was run, or answered with an error
  abbrev pub TellsRun : List ℕ → Row → Result (Unit {0}) ShelfFault → Type 0
  TellsRun statement params result =
      HasCleanDisk (state store new) → Ran statement params (state store old) (state store new) result

  -- no fault is forgotten, and a stop finds what it found before or what the query commits
  abbrev pub SurvivesQuery : List ℕ → Row → Type 0
  SurvivesQuery query params = Survives (state store old) (state store new) (CommitsShowing query params (state store old))

  -- no fault is forgotten, and a stop finds what it found before or what the change commits
  abbrev pub SurvivesChange : List ℕ → Row → Type 0
  SurvivesChange statement params = Survives (state store old) (state store new) (CommitsBy statement params (state store old))
