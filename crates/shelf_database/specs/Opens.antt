-- What an open of a shelf makes of a connection.
use Rattle.std.specs.Prelude.{◌≡◌, ◌≢◌, ◌⊎◌, ◌≤◌, ◌<◌, ℕ, ℤ, pos, Bool, true, false, if◌then◌else◌, List, [], ◌∷◌, length, codes, Some, IsTrue, Result, Ok, Err, is_ok, IfOk, IfErr}
use Rattle.std.specs.Global.{Vec}
use Rattle.std.specs.List.{AllByRecursion}
use Rattle.sqlite.specs.Disk.{MoreFaults}
use Rattle.sqlite.specs.Order.{Row, column}
use Rattle.sqlite.specs.declared.types.Value.TheVariants.{Int, Text}
use Rattle.sqlite_rules.specs.Lists.{Has}
use Rattle.sqlite.specs.Tree.{Trees}
use Rattle.sqlite.specs.Schema.{Schema}
use Rattle.sqlite.specs.Change.{created}
use Rattle.sqlite.specs.Effect.{Database, IsDatabase}
use Rattle.sqlite.specs.Store.{Ghosts}
use Rattle.sqlite.specs.Held.{Held, state}
use Rattle.sqlite.specs.State.{State, HasCleanDisk, ExecutesInside, KeepsCommit, Survives, FailsToQuery, Shown, IsUnchanged}
use Rattle.sqlite.specs.declared.error.Error.{Error}
use Rattle.sqlite.specs.declared.error.Error.TheVariants.{SqliteFailure}
use Rattle.sqlite.specs.declared.error.ErrorCode.TheVariants as code
use Rattle.shelf.specs.declared.faults.ShelfFault.{ShelfFault}
use Rattle.shelf.specs.declared.faults.ShelfFault.TheVariants.{StoreFault}
use Rattle.shelf.specs.Maps.{Maps, Same, no_maps}
use Rattle.shelf_database.specs.Faults.{HasFailed, IsUnstorable, number_after}
use Rattle.shelf.specs.declared.kinds.StickerKind.TheVariants.{Song}
use Rattle.shelf_database.specs.Tables.{no_schema, former_schema, shelf_schema, profile_table, list_table, kind_text, note_maps, former_maps, number_of, profile_number, has_tables, has_notes, AreRows, IsShelf, IsReady, HaveTexts, HoldsTexts, database_standing}

-- a connection outside a transaction, over a database without tables
pub record IsBlank (s : State) : Type 0 where
  pub schema : s.now.schema ≡ no_schema
  pub sound : IsDatabase s.now
  pub settled : s.now ≡ s.committed
  pub autocommit : s.in_transaction ≡ false

-- a database with the tables of profile 1 and no others
pub record IsFormerShelf (db : Database) : Type 0 where
  pub schema : db.schema ≡ former_schema
  pub sound : IsDatabase db
  pub profile : AreRows (db.trees 0)
  pub lists : AreRows (db.trees 1)
  pub stickers : AreRows (db.trees 3)

-- a connection outside a transaction, over such a database
pub record IsFormer (s : State) : Type 0 where
  pub shelf : IsFormerShelf s.now
  pub settled : s.now ≡ s.committed
  pub autocommit : s.in_transaction ≡ false

-- what a shelf finds there: nothing, or the maps of the tables of profile 2, or of profile 1
abbrev pub Holds : State → Maps → Type 0
Holds s maps =
    (IsBlank s × (maps ≡ no_maps))
    ⊎ ((IsReady s × (maps ≡ note_maps s.now.trees)) ⊎ (IsFormer s × (maps ≡ former_maps s.now.trees)))

-- the rows of both tables of profile 1 have a text in every column but that of their number
pub record HoldsFormerTexts (trees : Trees) : Type 0 where
  pub lists : HaveTexts (1 ∷ 2 ∷ []) (trees 1)
  pub stickers : HaveTexts (1 ∷ 2 ∷ 3 ∷ []) (trees 3)

-- a store that an open makes a shelf's own: without tables, or with tables whose rows hold texts
abbrev pub MayBeOwn : State → Type 0
MayBeOwn s = IsBlank s ⊎ ((IsReady s × HoldsTexts s.now.trees) ⊎ (IsFormer s × HoldsFormerTexts s.now.trees))

-- the tables of profile 2, with no list and no sticker
pub record HasTables (db : Database) : Type 0 where
  pub schema : db.schema ≡ shelf_schema
  pub sound : IsDatabase db
  pub number : profile_number db.trees ≡ Some (pos 2)
  pub lists : db.trees 1 ≡ []
  pub stickers : db.trees 3 ≡ []
  pub notes : db.trees 5 ≡ []

-- the tables of profile 2, with the lists and stickers of a store of profile 1; the table sticker is empty
pub record HasMoved (was db : Database) : Type 0 where
  pub shelf : IsShelf db
  pub number : profile_number db.trees ≡ Some (pos 2)
  pub maps : Same (former_maps was.trees) (note_maps db.trees)
  pub stickers : db.trees 3 ≡ []
  pub texts : HoldsFormerTexts was.trees → HoldsTexts db.trees

-- What a stop leaves of a store that had tables or none: the same; or, where it had none, all the tables of
-- profile 2; or, where it had those of profile 1, those of profile 2 with the same maps.
abbrev pub IsLeft : State → Trees → Type 0
IsLeft old trees =
    (trees ≡ old.now.trees)
    ⊎ ((IsBlank old × HasTables (record { schema = shelf_schema; trees = trees }))
    ⊎ (IsFormer old × HasMoved old.now (record { schema = shelf_schema; trees = trees })))

-- The open shows the maps that were there, or changes nothing while the store is open; a stop during it
-- leaves them too. Tables of profile 2 that are there are only read, so that the store is a shelf's own only
-- where their rows hold texts. Only a failure of the disk shuts the store.
pub record Opens (old new : State) (is_done : Bool) : Type 0 where
  pub clean : HasCleanDisk new → HasCleanDisk old
  pub counts : old.faults ≤ new.faults
  pub stays_open : HasCleanDisk new → IsTrue old.is_open → IsTrue new.is_open ⊎ MoreFaults old.faults new.faults
  pub done : HasCleanDisk new → (maps : Maps) → Holds old maps → IsTrue is_done → IsTrue new.is_open × IsReady new × (profile_number new.now.trees ≡ Some (pos 2)) × Same maps (note_maps new.now.trees)
  pub ours : HasCleanDisk new → MayBeOwn old → IsTrue is_done → (database_standing new).IsOurs
  pub moved : HasCleanDisk new → IsFormer old → IsTrue is_done → HasMoved old.now new.now
  pub kept : HasCleanDisk new → (maps : Maps) → Holds old maps → is_done ≡ false → IsTrue new.is_open → new.now ≡ old.now
  pub spared : HasCleanDisk new → IsReady old → IsTrue new.is_open → new.now ≡ old.now
  pub stop : HasCleanDisk new → (maps : Maps) → Holds old maps → (m : Maps) → (database_standing new).MayLeave m → (database_standing old).MayLeave m ⊎ Same maps m
  pub whole : HasCleanDisk new → IsTrue old.is_open → (maps : Maps) → Holds old maps → (trees : Trees) → new.may_leave trees → IsLeft old trees

-- the same, over a database with the table note
abbrev pub OpensNoted : State → State → Bool → Type 0
OpensNoted old new is_done = has_notes old.now.schema ≡ true → Opens old new is_done

-- the same, over a database that has something in it, but no such table
abbrev pub OpensFormer : State → State → Bool → Type 0
OpensFormer old new is_done = old.now.schema ≢ no_schema → has_notes old.now.schema ≡ false → Opens old new is_done

-- the same, over a database that has something in it
abbrev pub OpensFilled : State → State → Bool → Type 0
OpensFilled old new is_done = old.now.schema ≢ no_schema → Opens old new is_done

-- the same, over a database that has nothing in it
abbrev pub OpensEmpty : State → State → Bool → Type 0
OpensEmpty old new is_done = old.now.schema ≡ no_schema → Opens old new is_done

-- Tables of profile 2 whose number is 2 are refused since the store failed, or for lack of memory.
abbrev pub IsUnread : State → State → ShelfFault → Type 0
IsUnread old new fault = HasCleanDisk new → IsReady old → profile_number old.now.trees ≡ Some (pos 2) → fault ≡ StoreFault → HasFailed old new

-- a sticker of profile 1 is not stored with its kind, and with the number that one of so many gets
abbrev pub KeepsASticker : Trees → Type 0
KeepsASticker trees =
    (row : Row)
    × Has (trees 3) row
    × (others : ℕ)
    × (others < length (trees 3))
    × IsUnstorable (Int (number_after [] others) ∷ Text (kind_text Song) ∷ column row 1 ∷ column row 2 ∷ column row 3 ∷ [])

-- Tables of profile 1 whose number is 1 are refused since the store failed or has a sticker that is too long,
-- or for lack of memory.
abbrev pub IsUnmoved : State → State → ShelfFault → Type 0
IsUnmoved old new fault =
    HasCleanDisk new
    → IsFormer old
    → profile_number old.now.trees ≡ Some (pos 1)
    → fault ≡ StoreFault
    → HasFailed old new ⊎ KeepsASticker old.now.trees

abbrev pub number_query : List ℕ
number_query = codes "SELECT number FROM profile"

-- the number that the tables should have: 2 where note is there, and else 1
abbrev pub own_number : Schema → ℤ
own_number schema = if has_notes schema then pos 2 else pos 1

-- the statements of the move to profile 2
abbrev pub note_query : List ℕ
note_query =
    codes "CREATE TABLE note (kind TEXT NOT NULL, target TEXT NOT NULL, name TEXT NOT NULL, value TEXT NOT NULL, PRIMARY KEY (kind, target, name))"

abbrev pub copy_query : List ℕ
copy_query = codes "INSERT OR REPLACE INTO note (kind, target, name, value) SELECT 'song', uri, name, value FROM sticker"

abbrev pub clear_query : List ℕ
clear_query = codes "DELETE FROM sticker"

abbrev pub forget_query : List ℕ
forget_query = codes "DELETE FROM profile"

abbrev pub insert_query : List ℕ
insert_query = codes "INSERT INTO profile (one, number) VALUES (1, 2)"

abbrev pub renumber_texts : List (List ℕ)
renumber_texts = clear_query ∷ forget_query ∷ insert_query ∷ []

abbrev pub move_texts : List (List ℕ)
move_texts = note_query ∷ copy_query ∷ renumber_texts

module _ {S : Type 0} (store : Ghosts S) where
  -- the statements are executed in a transaction, one after another, up to one that is answered with this
  -- error
  abbrev pub StopsAmong : List (List ℕ) → Held S → Held S → Error → Type 0
  StopsAmong [] old new error = ⊥
  StopsAmong (text ∷ more) old new error =
      ExecutesInside 0 text [] (state store old) (state store new) (Err error)
      ⊎ ((mid : Held S)
      × (count : ℕ)
      × ExecutesInside 0 text [] (state store old) (state store mid) (Ok count)
      × StopsAmong more mid new error)

  -- all of them are executed
  abbrev pub ExecutesEach : List (List ℕ) → Held S → Held S → Type 0
  ExecutesEach [] old new = new ≡ old
  ExecutesEach (text ∷ more) old new =
      (mid : Held S)
      × (count : ℕ)
      × ExecutesInside 0 text [] (state store old) (state store mid) (Ok count)
      × ExecutesEach more mid new

  -- Where the disk is clean, in a transaction, all of them are executed, or those up to one that is answered
  -- with the error.
  abbrev pub RunInside : {X : Type 0} → Held S → Held S → List (List ℕ) → Result X Error → Type 0
  RunInside old new texts (Ok done) =
      HasCleanDisk (state store new) → IsTrue old.in_transaction → ExecutesEach texts old new
  RunInside old new texts (Err error) =
      HasCleanDisk (state store new) → IsTrue old.in_transaction → StopsAmong texts old new error

  -- one of the statements of the move is answered with this error, in a transaction over what is there
  abbrev pub IsStoppedInMove : Held S → Error → Type 0
  IsStoppedInMove old error = (last : Held S) × StopsAmong move_texts (record old { in_transaction = true }) last error

  -- after the query for the number, which showed 1, a statement of the move was answered with an error
  abbrev pub IsStoppedMoving : Held S → Type 0
  IsStoppedMoving old =
      (mid : Held S)
      × (rows : List Row)
      × Shown number_query [] (state store old) (state store mid) rows
      × (number_of 0 rows ≡ Some (pos 1))
      × (e : Error)
      × (e ≢ SqliteFailure code.OutOfMemory)
      × IsStoppedInMove mid e

  -- so it was, or the store failed
  abbrev pub FailsToMove : Held S → Held S → Type 0
  FailsToMove old new = HasFailed (state store old) (state store new) ⊎ IsStoppedMoving old

  -- Where the disk is clean, outside a transaction, the move ends with an error since the store failed, or
  -- for an error of one of its statements.
  pub record StopsMove (old new : Held S) (error : Error) : Type 0 where
    pub why :
        HasCleanDisk (state store new)
        → old.in_transaction ≡ false
        → error ≢ SqliteFailure code.OutOfMemory
        → HasFailed (state store old) (state store new) ⊎ IsStoppedInMove old error

-- the query for the number was answered with an error
abbrev pub FailsToNumber : State → State → Type 0
FailsToNumber old new = (e : Error) × (e ≢ SqliteFailure code.OutOfMemory) × FailsToQuery number_query [] old new e

-- the query for the number showed another
abbrev pub ShowsOther : ℤ → State → State → Type 0
ShowsOther number old new = (rows : List Row) × Shown number_query [] old new rows × (number_of 0 rows ≢ Some number)

-- Where the disk is clean, `StoreFault` is for an error of the query for the number.
abbrev pub BlamesQuery : {X : Type 0} → State → State → Result X ShelfFault → Type 0
BlamesQuery old new result = HasCleanDisk new → IfErr result (λ fault. fault ≡ StoreFault → FailsToNumber old new)

-- Where the disk is clean, `StoreFault` is for such an error, or for another number than this.
abbrev pub BlamesNumber : {X : Type 0} → State → State → ℤ → Result X ShelfFault → Type 0
BlamesNumber old new number result =
    HasCleanDisk new → IfErr result (λ fault. fault ≡ StoreFault → FailsToNumber old new ⊎ ShowsOther number old new)

-- A store that is asked for its number answers an error, or shows another; or it has no table note, and is
-- stopped in the move.
abbrev pub IsOther : {S : Type 0} → Ghosts S → Held S → Held S → Type 0
IsOther store old new =
    FailsToNumber (state store old) (state store new)
    ⊎ (ShowsOther (own_number old.schema) (state store old) (state store new)
    ⊎ ((has_notes old.schema ≡ false) × FailsToMove store old new))

-- Where the disk is clean, outside a transaction, `StoreFault` is since it lacks a table of a shelf, or for
-- such an answer.
abbrev pub BlamesTables : {S X : Type 0} → Ghosts S → Held S → Held S → Result X ShelfFault → Type 0
BlamesTables store old new result =
    HasCleanDisk (state store new)
    → old.in_transaction ≡ false
    → IfErr result (λ fault. fault ≡ StoreFault → (has_tables old.schema ≡ false) ⊎ IsOther store old new)

-- The query for the number was answered with an error, or showed another number than 1, or the move is
-- stopped.
abbrev pub IsOfNoMove : {S : Type 0} → Ghosts S → Held S → Held S → Type 0
IsOfNoMove store old new =
    FailsToNumber (state store old) (state store new)
    ⊎ (ShowsOther (pos 1) (state store old) (state store new) ⊎ FailsToMove store old new)

-- Where the disk is clean, outside a transaction, `StoreFault` is for such a reason.
abbrev pub BlamesMove : {S X : Type 0} → Ghosts S → Held S → Held S → Result X ShelfFault → Type 0
BlamesMove store old new result =
    HasCleanDisk (state store new)
    → old.in_transaction ≡ false
    → IfErr result (λ fault. fault ≡ StoreFault → IsOfNoMove store old new)

-- Over a shelf's tables of either profile, the query for the number is refused since the store failed, or for
-- want of memory.
abbrev pub IsUnasked : State → State → ShelfFault → Type 0
IsUnasked old new fault = HasCleanDisk new → IsReady old ⊎ IsFormer old → fault ≡ StoreFault → HasFailed old new

-- a query that showed its rows, over the tables of profile 1
pub record ReadsFormer (old new : State) : Type 0 where
  pub same : HasCleanDisk new → IsFormer old → IsUnchanged old new
  pub leaves : HasCleanDisk new → IsFormer old → (db : Trees) → new.may_leave db → old.may_leave db

-- Where the disk is clean, over a shelf's tables of either profile, a success is the rows that show the
-- profile's number.
abbrev pub TellsNumber : State → State → Result (Vec Row) ShelfFault → Type 0
TellsNumber old new result =
    HasCleanDisk new → IsReady old ⊎ IsFormer old → IfOk result (λ rows. number_of 0 rows.items ≡ profile_number old.now.trees)

-- Where the disk is clean, tables are not made since the store failed, or for lack of memory.
abbrev pub IsUnmade : State → State → Error → Type 0
IsUnmade old new error = HasCleanDisk new → IsBlank old → error ≢ SqliteFailure code.OutOfMemory → HasFailed old new

-- Why a shelf is refused with `StoreFault`: since the store failed, where it has no tables, or those of
-- profile 2 with the number 2; so it is for those of profile 1 with the number 1, or since a sticker is too
-- long; where it has any, since they lack one of a shelf's, or for what it answers.
pub record IsBlamed {S : Type 0} (store : Ghosts S) (old new : Held S) (fault : ShelfFault) : Type 0 where
  pub made : HasCleanDisk (state store new) → IsBlank (state store old) → fault ≡ StoreFault → HasFailed (state store old) (state store new)
  pub read : IsUnread (state store old) (state store new) fault
  pub moved : IsUnmoved (state store old) (state store new) fault
  pub other : HasCleanDisk (state store new) → old.schema ≢ no_schema → old.in_transaction ≡ false → fault ≡ StoreFault → (has_tables old.schema ≡ false) ⊎ IsOther store old new

-- ---- the tables, made one after another

-- A step inside a transaction, over such a database, makes this of it, if it is done. It commits nothing.
pub record Leads (Before : Database → Type 0) (Made : Database → Database → Type 0) (old new : State) (is_done : Bool) : Type 0 where
  pub done : HasCleanDisk new → IsTrue is_done → IsTrue old.in_transaction → Before old.now → IsTrue new.in_transaction × Made old.now new.now
  pub kept : HasCleanDisk new → KeepsCommit old new
  pub survives : Survives old new (λ _. ⊥)

-- A step inside a transaction, over such a database, is answered with an error since the store failed, for
-- this reason, or for lack of memory.
abbrev pub IsStoppedFor : (Database → Type 0) → (Database → Type 0) → State → State → Error → Type 0
IsStoppedFor Before Reason old new error =
    HasCleanDisk new
    → IsTrue old.in_transaction
    → Before old.now
    → error ≢ SqliteFailure code.OutOfMemory
    → HasFailed old new ⊎ Reason old.now

abbrev pub NoReason : Database → Type 0
NoReason db = ⊥

module _ {S : Type 0} (store : Ghosts S) where
  -- the step on the connection makes this of such a database, if it succeeds
  abbrev pub LeadsBy : {X : Type 0} → (Database → Type 0) → (Database → Database → Type 0) → Held S → Held S → Result X Error → Type 0
  LeadsBy Before Made old new result = Leads Before Made (state store old) (state store new) (is_ok result)

  -- the step on the connection leads from such a database to such a one, if it succeeds
  abbrev pub LeadsFrom : {X : Type 0} → (Before After : Database → Type 0) → Held S → Held S → Result X Error → Type 0
  LeadsFrom Before After old new result = LeadsBy Before (λ was. After) old new result

  -- the step on the connection, over such a database, is stopped for this error
  abbrev pub IsStoppedOn : (Database → Type 0) → Held S → Held S → Error → Type 0
  IsStoppedOn Before old new error = IsStoppedFor Before NoReason (state store old) (state store new) error

  -- so it is, or for this reason
  abbrev pub IsStoppedOnFor : (Database → Type 0) → (Database → Type 0) → Held S → Held S → Error → Type 0
  IsStoppedOnFor Before Reason old new error = IsStoppedFor Before Reason (state store old) (state store new) error

abbrev pub profile_schema : Schema
profile_schema = created no_schema profile_table

abbrev pub list_schema : Schema
list_schema = created profile_schema list_table

abbrev pub HasNothing : Database → Type 0
HasNothing db = db.schema ≡ no_schema

abbrev pub HasProfile : Database → Type 0
HasProfile db = (db.schema ≡ profile_schema) × (db.trees 0 ≡ [])

abbrev pub HasLists : Database → Type 0
HasLists db = (db.schema ≡ list_schema) × (db.trees 0 ≡ []) × (db.trees 1 ≡ [])

abbrev pub HasStickers : Database → Type 0
HasStickers db = (db.schema ≡ former_schema) × (db.trees 0 ≡ []) × (db.trees 1 ≡ []) × (db.trees 3 ≡ [])

-- the tables of profile 1, whatever they hold
abbrev pub HasFormer : Database → Type 0
HasFormer db = db.schema ≡ former_schema

-- the table note is made, and the others are as they were
pub record MakesNotes (was db : Database) : Type 0 where
  pub schema : db.schema ≡ shelf_schema
  pub sound : IsDatabase db
  pub profile : db.trees 0 ≡ was.trees 0
  pub lists : db.trees 1 ≡ was.trees 1
  pub stickers : db.trees 3 ≡ was.trees 3
  pub notes : db.trees 5 ≡ []

-- the tables of profile 2 without a number
pub record HasNoNumber (db : Database) : Type 0 where
  pub schema : db.schema ≡ shelf_schema
  pub sound : IsDatabase db
  pub profile : db.trees 0 ≡ []

-- the number 2 is noted, and the other tables are as they were
pub record NotesNumber (was db : Database) : Type 0 where
  pub schema : db.schema ≡ shelf_schema
  pub sound : IsDatabase db
  pub number : profile_number db.trees ≡ Some (pos 2)
  pub lists : db.trees 1 ≡ was.trees 1
  pub stickers : db.trees 3 ≡ was.trees 3
  pub notes : db.trees 5 ≡ was.trees 5

-- ---- the move to profile 2

-- a database of profile 2 whose table has this tree, with rows in the order of their rowids
abbrev pub HasRows : ℕ → Database → Type 0
HasRows tree db = (db.schema ≡ shelf_schema) × IsDatabase db × AreRows (db.trees tree)

-- the table has no row any more, and the others are as they were
pub record Clears (tree : ℕ) (was db : Database) : Type 0 where
  pub schema : db.schema ≡ shelf_schema
  pub sound : IsDatabase db
  pub gone : db.trees tree ≡ []
  pub others : AllByRecursion (λ t. t.tree ≢ tree → db.trees t.tree ≡ was.trees t.tree) shelf_schema.tables

-- the table sticker has its rows, and note has none
pub record HasNoNotes (db : Database) : Type 0 where
  pub schema : db.schema ≡ shelf_schema
  pub sound : IsDatabase db
  pub lists : AreRows (db.trees 1)
  pub stickers : AreRows (db.trees 3)
  pub notes : db.trees 5 ≡ []

-- each sticker is one of a song in note, and the other tables are as they were
pub record CopiesStickers (was db : Database) : Type 0 where
  pub schema : db.schema ≡ shelf_schema
  pub sound : IsDatabase db
  pub profile : db.trees 0 ≡ was.trees 0
  pub lists : db.trees 1 ≡ was.trees 1
  pub stickers : db.trees 3 ≡ was.trees 3
  pub notes : AreRows (db.trees 5)
  pub maps : Same (former_maps was.trees) (note_maps db.trees)
  pub texts : HaveTexts (1 ∷ 2 ∷ 3 ∷ []) (was.trees 3) → HaveTexts (1 ∷ 2 ∷ 3 ∷ 4 ∷ []) (db.trees 5)

-- a sticker of the database is not stored with its kind
abbrev pub KeepsOne : Database → Type 0
KeepsOne db = KeepsASticker db.trees

-- the tables profile and sticker have their rows
abbrev pub HasBoth : Database → Type 0
HasBoth db = (db.schema ≡ shelf_schema) × IsDatabase db × AreRows (db.trees 0) × AreRows (db.trees 3)

-- sticker is emptied, and the number 2 is noted; list and note are as they were
pub record Renumbers (was db : Database) : Type 0 where
  pub schema : db.schema ≡ shelf_schema
  pub sound : IsDatabase db
  pub number : profile_number db.trees ≡ Some (pos 2)
  pub lists : db.trees 1 ≡ was.trees 1
  pub stickers : db.trees 3 ≡ []
  pub notes : db.trees 5 ≡ was.trees 5

-- A transaction makes this of such a database, and commits it, if it is done. Else it leaves what was
-- committed before, and so does a stop during it, or what it commits.
pub record Commits (Before : Database → Type 0) (Made : Database → Database → Type 0) (old new : State) (is_done : Bool) : Type 0 where
  pub clean : HasCleanDisk new → HasCleanDisk old
  pub counts : old.faults ≤ new.faults
  pub stays_open : HasCleanDisk new → IsTrue old.is_open → IsTrue new.is_open ⊎ MoreFaults old.faults new.faults
  pub done : HasCleanDisk new → IsTrue is_done → Before old.now → IsTrue new.is_open × (new.now ≡ new.committed) × (new.in_transaction ≡ false) × Made old.now new.now
  pub kept : HasCleanDisk new → is_done ≡ false → old.in_transaction ≡ false → Before old.now → IsTrue new.is_open → new.now ≡ old.committed
  pub left : HasCleanDisk new → Before old.now → (trees : Trees) → new.may_leave trees → old.may_leave trees ⊎ ((db : Database) × Made old.now db × (trees ≡ db.trees))

-- A move of tables of profile 1 is refused since the store failed, or has a sticker that is too long, or for
-- want of memory.
pub record IsStuck (old new : State) (error : Error) : Type 0 where
  pub why :
      HasCleanDisk new
      → IsFormer old
      → error ≢ SqliteFailure code.OutOfMemory
      → HasFailed old new ⊎ KeepsASticker old.now.trees

module _ {S : Type 0} (store : Ghosts S) (old new : Held S) where
  -- the tables of profile 1 are moved to profile 2 in one transaction, or left as they were committed
  abbrev pub Moves : {X E : Type 0} → Result X E → Type 0
  Moves result = Commits IsFormerShelf HasMoved (state store old) (state store new) (is_ok result)

  -- a step over such a database is stopped by this error since the store failed, or for a sticker that is not
  -- stored
  abbrev pub IsStuckOn : (Database → Type 0) → Error → Type 0
  IsStuckOn Before error = IsStoppedOnFor store Before KeepsOne old new error
