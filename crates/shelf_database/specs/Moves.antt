-- What a change of a list and of its stickers makes, in one transaction.
use Rattle.std.specs.Prelude.{◌≤◌, IsTrue, ◌≡◌, ◌≢◌, ◌⊎◌, ℕ, true, false, not, List, filter, None, is_some, is_ok, Result, IfErr}
use Rattle.sqlite.specs.declared.error.Error.{Error}
use Rattle.sqlite.specs.declared.error.Error.TheVariants.{SqliteFailure}
use Rattle.sqlite.specs.declared.error.ErrorCode.TheVariants as code
use Rattle.sqlite.specs.Order.{Row}
use Rattle.sqlite.specs.Effect.{Database}
use Rattle.sqlite.specs.Disk.{MoreFaults}
use Rattle.sqlite.specs.Store.{Ghosts}
use Rattle.sqlite.specs.Held.{Held, state}
use Rattle.sqlite.specs.State.{State, HasCleanDisk}
use Rattle.sqlite_rules.specs.Lists.{Has}
use Rattle.shelf.specs.declared.faults.ShelfFault.{ShelfFault}
use Rattle.shelf.specs.declared.kinds.StickerKind.TheVariants.{Playlist}
use Rattle.shelf.specs.Calls.{Rename, Remove}
use Rattle.shelf.specs.Maps.{Maps, Same, Changes, with_list, with_stickers, with_renamed, with_removed, no_stickers}
use Rattle.shelf_database.specs.Tables.{note_maps, of_target, IsShelf, IsReady, HoldsTexts, database_standing}
use Rattle.shelf_database.specs.Asks.{IsFor}
use Rattle.shelf_database.specs.Faults.{StoreFailed, CannotCopy, KeepsItsRow, KeepsItsSticker}
use Rattle.shelf_database.specs.Opens.{IsStoppedOnFor, LeadsBy}

-- a database with the tables of profile 2 and these maps; its number is that of another, and so its rows hold
-- texts where those of the other do
pub record Carries (after : Maps) (was db : Database) : Type 0 where
  pub shelf : IsShelf db
  pub maps : Same after (note_maps db.trees)
  pub profile : db.trees 0 ≡ was.trees 0
  pub texts : HoldsTexts was.trees → HoldsTexts db.trees

-- the list is gone, and the stickers are left
pub record RemovesRow (name : List ℕ) (was db : Database) : Type 0 where
  pub carries : Carries (with_list (note_maps was.trees) name None) was db
  pub notes : db.trees 5 ≡ was.trees 5

-- the stickers of the list are gone
pub record ClearsNotes (name : List ℕ) (was db : Database) : Type 0 where
  pub carries : Carries (with_stickers (note_maps was.trees) Playlist name no_stickers) was db
  pub notes : db.trees 5 ≡ filter (λ row. not (of_target Playlist name row)) (was.trees 5)

-- a list has the one name, and none has the other
pub record HasNames (name other : List ℕ) (db : Database) : Type 0 where
  pub shelf : IsShelf db
  pub there : is_some ((note_maps db.trees).lists name) ≡ true
  pub free : is_some ((note_maps db.trees).lists other) ≡ false

-- the list has the other name, and the stickers are left
abbrev pub with_moved_list : Maps → List ℕ → List ℕ → Maps
with_moved_list m name other = with_list (with_list m name None) other (m.lists name)

pub record RenamesRow (name other : List ℕ) (was db : Database) : Type 0 where
  pub carries : Carries (with_moved_list (note_maps was.trees) name other) was db
  pub notes : db.trees 5 ≡ was.trees 5

-- a database whose list has no sticker
pub record LacksNotes (name : List ℕ) (db : Database) : Type 0 where
  pub shelf : IsShelf db
  pub none : (row : Row) → Has (db.trees 5) row → of_target Playlist name row ≡ false

-- the other name has the stickers that the one has
abbrev pub CopiesNotes : List ℕ → List ℕ → Database → Database → Type 0
CopiesNotes name other was db =
    Carries (with_stickers (note_maps was.trees) Playlist other ((note_maps was.trees).stickers Playlist name)) was db

abbrev pub RemovesAll : List ℕ → Database → Database → Type 0
RemovesAll name was db = Carries (with_removed (note_maps was.trees) name) was db

abbrev pub RenamesAll : List ℕ → List ℕ → Database → Database → Type 0
RenamesAll name other was db = Carries (with_renamed (note_maps was.trees) name other) was db

-- why a list keeps its name: its row is not stored under the other, or one of its stickers is not
abbrev pub KeepsTheRow : List ℕ → List ℕ → Database → Type 0
KeepsTheRow name other db = KeepsItsRow db.trees name other

abbrev pub KeepsASticker : List ℕ → List ℕ → Database → Type 0
KeepsASticker name other db = CannotCopy (db.trees 5) name other

abbrev pub KeepsTheName : List ℕ → List ℕ → Database → Type 0
KeepsTheName name other db = KeepsItsRow db.trees name other ⊎ KeepsItsSticker db.trees name other

-- the disk is no cleaner later, forgets no fault, and only its failure shuts the store
abbrev pub IsLaterThan : State → State → Type 0
IsLaterThan old new =
    (HasCleanDisk new → HasCleanDisk old)
    × (old.faults ≤ new.faults)
    × (HasCleanDisk new → IsTrue old.is_open → IsTrue new.is_open ⊎ MoreFaults old.faults new.faults)

-- what a change of a list makes of the connection, from before it to after it, and why it is refused
module _ {S : Type 0} (store : Ghosts S) (old new : Held S) where
  -- the list is taken away with its stickers, or nothing is changed
  abbrev pub Removes : {X E : Type 0} → List ℕ → Result X E → Type 0
  Removes name result =
      Changes (database_standing (state store old)) (database_standing (state store new)) (is_ok result)
      (with_removed (note_maps (state store old).now.trees) name)

  -- where the disk is clean, over a shelf's tables, the store alone refuses
  abbrev pub BlamesRemove : List ℕ → Result (Unit {0}) ShelfFault → Type 0
  BlamesRemove name result =
      HasCleanDisk (state store new)
      → IsReady (state store old)
      → IfErr result (IsFor (StoreFailed (state store old) (state store new) (Remove name)))

  abbrev pub StopsRemove : List ℕ → Result (Unit {0}) Error → Type 0
  StopsRemove name result =
      HasCleanDisk (state store new)
      → IsReady (state store old)
      → IfErr result (λ e. e ≢ SqliteFailure code.OutOfMemory
      → StoreFailed (state store old) (state store new) (Remove name))

  -- where one name is there and the other is not
  abbrev pub CanRename : List ℕ → List ℕ → Type 0
  CanRename name other =
      HasCleanDisk (state store old) → IsReady (state store old) → HasNames name other (state store old).now

  -- the list gets the other name with its stickers, or nothing is changed
  abbrev pub Renames : {X E : Type 0} → List ℕ → List ℕ → Result X E → Type 0
  Renames name other result =
      CanRename name other
      → Changes (database_standing (state store old)) (database_standing (state store new)) (is_ok result)
      (with_renamed (note_maps (state store old).now.trees) name other)

  abbrev pub BlamesRename : List ℕ → List ℕ → Result (Unit {0}) ShelfFault → Type 0
  BlamesRename name other result =
      CanRename name other
      → HasCleanDisk (state store new)
      → IsReady (state store old)
      → IfErr result (IsFor (StoreFailed (state store old) (state store new) (Rename name other)))

  abbrev pub StopsRename : List ℕ → List ℕ → Result (Unit {0}) Error → Type 0
  StopsRename name other result =
      CanRename name other
      → HasCleanDisk (state store new)
      → IsReady (state store old)
      → IfErr result (λ e. e ≢ SqliteFailure code.OutOfMemory
      → StoreFailed (state store old) (state store new) (Rename name other))

-- what a step inside the transaction makes of the database, if it succeeds, and why it is stopped
module _ {S : Type 0} (store : Ghosts S) (old new : Held S) where
  -- the stickers of the list are gone
  abbrev pub AreCleared : {X : Type 0} → List ℕ → Result X Error → Type 0
  AreCleared name result = LeadsBy store IsShelf (ClearsNotes name) old new result

  -- the row of the list is gone
  abbrev pub IsRowRemoved : {X : Type 0} → List ℕ → Result X Error → Type 0
  IsRowRemoved name result = LeadsBy store IsShelf (RemovesRow name) old new result

  -- the list is gone with its stickers
  abbrev pub IsRemoved : {X : Type 0} → List ℕ → Result X Error → Type 0
  IsRemoved name result = LeadsBy store IsShelf (RemovesAll name) old new result

  -- the other name has the stickers too, or the store failed, or one of them is not stored
  abbrev pub AreCopied : {X : Type 0} → List ℕ → List ℕ → Result X Error → Type 0
  AreCopied name other result = LeadsBy store (LacksNotes other) (CopiesNotes name other) old new result

  abbrev pub IsUncopied : {X : Type 0} → List ℕ → List ℕ → Result X Error → Type 0
  IsUncopied name other result =
      IfErr result (IsStoppedOnFor store (LacksNotes other) (KeepsASticker name other) old new)

  -- the row of the list has the other name, or the store failed, or the row is not stored
  abbrev pub IsRowNamed : {X : Type 0} → List ℕ → List ℕ → Result X Error → Type 0
  IsRowNamed name other result = LeadsBy store (HasNames name other) (RenamesRow name other) old new result

  abbrev pub IsRowKept : {X : Type 0} → List ℕ → List ℕ → Result X Error → Type 0
  IsRowKept name other result =
      IfErr result (IsStoppedOnFor store (HasNames name other) (KeepsTheRow name other) old new)

  -- the list has the other name with its stickers, or the store failed, or one of the rows is not stored
  abbrev pub IsRenamed : {X : Type 0} → List ℕ → List ℕ → Result X Error → Type 0
  IsRenamed name other result = LeadsBy store (HasNames name other) (RenamesAll name other) old new result

  abbrev pub IsNameKept : {X : Type 0} → List ℕ → List ℕ → Result X Error → Type 0
  IsNameKept name other result =
      IfErr result (IsStoppedOnFor store (HasNames name other) (KeepsTheName name other) old new)
