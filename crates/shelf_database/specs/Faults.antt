-- Why a shelf over a database answers `StoreFault`.
use Rattle.std.specs.Prelude.{not, filter, ℤ, pos, ◌+ℤ◌, ◌≡◌, ◌⊎◌, ℕ, ◌+◌, ◌^◌, ◌<◌, Bool, false, List, [], ◌∷◌, find, length, sum_by, Some, IsSome, IsTrue}
use Rattle.std.specs.Str.{IsUtf8}
use Rattle.sqlite.specs.declared.types.Value.{Value}
use Rattle.sqlite.specs.declared.types.Value.TheVariants.{Int, Text}
use Rattle.sqlite.specs.Order.{Row, column, bytes}
use Rattle.sqlite.specs.Tree.{Trees, rowid}
use Rattle.sqlite.specs.Ops.{fits_i64}
use Rattle.sqlite.specs.Edit.{id_in, next_rowid}
use Rattle.sqlite.specs.Disk.{MoreFaults}
use Rattle.sqlite.specs.State.{State}
use Rattle.sqlite_rules.specs.Lists.{Has}
use Rattle.shelf.specs.Lines.{text_of}
use Rattle.shelf.specs.Calls.{Call, Put, Create, Rename, SetSticker}
use Rattle.shelf.specs.declared.kinds.StickerKind.TheVariants.{Playlist}
use Rattle.shelf_database.specs.Tables.{has_text, kind_text, of_target}

-- the disk failed or refused, or the store was shut, or the steps of a statement are bounded
abbrev pub HasFailed : State → State → Type 0
HasFailed old new = MoreFaults old.faults new.faults ⊎ ((old.is_open ≡ false) ⊎ IsSome old.step_limit)

-- a row that is not stored: its number does not fit 64 bits, or it has more than a billion bytes, with 18 for
-- each value
abbrev pub IsUnstorable : Row → Type 0
IsUnstorable row = (fits_i64 (id_in (rowid row)) ≡ false) ⊎ (10 ^ 9 < sum_by (λ v. 18 + length (bytes v)) row)

-- a text column may hold bytes that are no text, where something else than a shelf wrote it
abbrev pub IsNoText : Value → Type 0
IsNoText v = (text : List ℕ) → v ≡ Text text → IsUtf8 text → ⊥

-- the row has no text in one of these columns
abbrev pub HasNoTextIn : List ℕ → Row → Type 0
HasNoTextIn columns row = (at : ℕ) × Has columns at × IsNoText (column row at)

-- A row that is asked for has no text in one of these columns. A shelf's own store has no such row.
abbrev pub LacksText : List ℕ → (Row → Bool) → List Row → Type 0
LacksText columns is_asked rows = (row : Row) × Has rows row × IsTrue (is_asked row) × (at : ℕ) × Has columns at × IsNoText (column row at)

-- the row of the list is not stored under the other name
abbrev pub KeepsItsRow : Trees → List ℕ → List ℕ → Type 0
KeepsItsRow trees name new = (row : Row) × (find (has_text 1 name) (trees 1) ≡ Some row) × IsUnstorable (rowid row ∷ Text new ∷ column row 2 ∷ [])

-- the number that a row gets which is put in after this many others
abbrev pub number_after : List Row → ℕ → ℤ
number_after rows others = next_rowid rows +ℤ pos others

-- one of these stickers is a list's, and is not stored under the other name, with a number from the next on
abbrev pub CannotCopy : List Row → List ℕ → List ℕ → Type 0
CannotCopy rows name new =
    (row : Row)
    × Has rows row
    × IsTrue (of_target Playlist name row)
    × (others : ℕ)
    × (others < length rows)
    × IsUnstorable (Int (number_after rows others) ∷ Text (kind_text Playlist) ∷ Text new ∷ column row 3 ∷ column row 4 ∷ [])

-- a sticker of the list is not stored under the other name, once those that the other name had are gone
abbrev pub KeepsItsSticker : Trees → List ℕ → List ℕ → Type 0
KeepsItsSticker trees name new = CannotCopy (filter (λ row. not (of_target Playlist new row)) (trees 5)) name new

-- The row that a call would write is not stored. A call that writes no row can always be done.
abbrev pub CannotDo : Trees → Call → Type 0
CannotDo trees (Put name uris) = IsUnstorable (Int (next_rowid (trees 1)) ∷ Text name ∷ Text (text_of uris) ∷ [])
CannotDo trees (Create name uris) = IsUnstorable (Int (next_rowid (trees 1)) ∷ Text name ∷ Text (text_of uris) ∷ [])
CannotDo trees (Rename name new) = KeepsItsRow trees name new ⊎ KeepsItsSticker trees name new
CannotDo trees (SetSticker kind target name value) =
    IsUnstorable (Int (next_rowid (trees 5)) ∷ Text (kind_text kind) ∷ Text target ∷ Text name ∷ Text value ∷ [])
CannotDo trees _ = ⊥

-- the store failed during the call, or it cannot do what the call asks
abbrev pub StoreFailed : State → State → Call → Type 0
StoreFailed old new call = HasFailed old new ⊎ CannotDo old.now.trees call
