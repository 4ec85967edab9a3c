-- The tables of a shelf in a database, and the two maps that they hold (this profile's tables of stored
-- playlists and stickers).
use Rattle.std.specs.Prelude.{if◌then◌else◌, true, false, Bool, ◌&&◌, [], ◌∷◌, Some, None, Option, option_map, unwrap_or, slice_get, bytes_eq, find, codes, List, ℕ, ℤ, pos, IsTrue, ◌≡◌, ◌≤◌, ◌⊎◌}
use Rattle.std.specs.List.{AllByRecursion, list_any}
use Rattle.std.specs.Ordering.{is_eq, int_cmp}
use Rattle.std.specs.Str.{IsUtf8}
use Rattle.sqlite.specs.Collation.TheVariants.{Binary}
use Rattle.sqlite.specs.declared.types.Value.{Value}
use Rattle.sqlite.specs.declared.types.Value.TheVariants.{Null, Int, Text as Words}
use Rattle.sqlite.specs.Order.{Row, column, bytes, value_cmp}
use Rattle.sqlite.specs.Tree.{Trees, IsTable, rowid}
use Rattle.sqlite.specs.View.{is_int}
use Rattle.sqlite.specs.Table.{Table}
use Rattle.sqlite.specs.Term.{lit, col, op2}
use Rattle.sqlite_sql.specs.declared.ops.BinaryOp.TheVariants.{Compare}
use Rattle.sqlite_sql.specs.declared.ops.CompareOp.TheVariants.{Eq}
use Rattle.sqlite_schema.specs.declared.schema.Column.{Column}
use Rattle.sqlite.specs.Schema.{Schema}
use Rattle.sqlite.specs.Change.{created}
use Rattle.sqlite.specs.Effect.{Database, IsDatabase}
use Rattle.sqlite.specs.Kind.TheVariants.{Integer, Text}
use Rattle.sqlite.specs.Disk.{MoreFaults}
use Rattle.sqlite.specs.State.{State, HasCleanDisk, IsUnchanged}
use Rattle.sqlite_rules.specs.Lists.{Has}
use Rattle.shelf.specs.Lines.{lines_of}
use Rattle.shelf.specs.declared.kinds.StickerKind.{StickerKind}
use Rattle.shelf.specs.declared.kinds.StickerKind.TheVariants.{Song, Playlist}
use Rattle.shelf.specs.Maps.{Maps, Standing}

abbrev text_column : List ℕ → Column
text_column name = record { name = name; kind = Text; is_strict = false; not_null = true; default = Null; collation = Binary }

abbrev pub profile_table : Table
profile_table = record {
  name = codes "profile";
  tree = 0;
  columns = record { name = codes "one"; kind = Integer; is_strict = false; not_null = false; default = Null; collation = Binary }
      ∷ record { name = codes "number"; kind = Integer; is_strict = false; not_null = true; default = Null; collation = Binary } ∷ [];
  key = Some 0;
  primary = 0 ∷ [];
  uniques = [];
  orders = [];
  checks = op2 (Compare Eq Binary) (col 1 0) (lit (Int (pos 1))) ∷ [];
  references = [];
  computed = [];
  stamps = record { places = []; terms = []; formats = [] };
  is_counted = false;
}

abbrev pub list_table : Table
list_table = record {
  name = codes "list";
  tree = 0;
  columns = text_column (codes "name") ∷ text_column (codes "uris") ∷ [];
  key = None;
  primary = 1 ∷ [];
  uniques = (1 ∷ []) ∷ [];
  orders = record { digits = 0 } ∷ [];
  checks = [];
  references = [];
  computed = [];
  stamps = record { places = []; terms = []; formats = [] };
  is_counted = false;
}

abbrev pub sticker_table : Table
sticker_table = record {
  name = codes "sticker";
  tree = 0;
  columns = text_column (codes "uri") ∷ text_column (codes "name") ∷ text_column (codes "value") ∷ [];
  key = None;
  primary = 1 ∷ 2 ∷ [];
  uniques = (1 ∷ 2 ∷ []) ∷ [];
  orders = record { digits = 0 } ∷ [];
  checks = [];
  references = [];
  computed = [];
  stamps = record { places = []; terms = []; formats = [] };
  is_counted = false;
}

abbrev pub note_table : Table
note_table = record {
  name = codes "note";
  tree = 0;
  columns = text_column (codes "kind") ∷ text_column (codes "target") ∷ text_column (codes "name") ∷ text_column (codes "value") ∷ [];
  key = None;
  primary = 1 ∷ 2 ∷ 3 ∷ [];
  uniques = (1 ∷ 2 ∷ 3 ∷ []) ∷ [];
  orders = record { digits = 0 } ∷ [];
  checks = [];
  references = [];
  computed = [];
  stamps = record { places = []; terms = []; formats = [] };
  is_counted = false;
}

abbrev pub no_schema : Schema
no_schema = record { tables = []; indexes = []; views = [] }

-- the tables of profile 1, as they are made one after another: profile has tree 0, list 1, sticker 3
abbrev pub former_schema : Schema
former_schema = created (created (created no_schema profile_table) list_table) sticker_table

-- the tables of profile 2: those of profile 1, and then note with tree 5
abbrev pub shelf_schema : Schema
shelf_schema = created former_schema note_table

-- the tables with their trees
abbrev pub placed_list : Table
placed_list = record list_table { tree = 1 }

abbrev pub placed_sticker : Table
placed_sticker = record sticker_table { tree = 3 }

abbrev pub placed_note : Table
placed_note = record note_table { tree = 5 }

-- a table of this name, with this primary key; a table's columns are counted from 1, and 0 is the number of a
-- row
abbrev pub is_keyed : List ℕ → List ℕ → Table → Bool
is_keyed name primary table = bytes_eq table.name name && bytes_eq table.primary primary

-- the column at this index, counted from 0, has this name
abbrev pub has_column : Table → ℕ → List ℕ → Bool
has_column table at name = unwrap_or (option_map (λ c. bytes_eq c.name name) (slice_get table.columns at)) false

abbrev pub is_profile : Table → Bool
is_profile table = is_keyed (codes "profile") (0 ∷ []) table && has_column table 0 (codes "one") && has_column table 1 (codes "number")

abbrev pub is_list : Table → Bool
is_list table = is_keyed (codes "list") (1 ∷ []) table && has_column table 0 (codes "name") && has_column table 1 (codes "uris")

abbrev pub is_sticker : Table → Bool
is_sticker table =
    is_keyed (codes "sticker") (1 ∷ 2 ∷ []) table && has_column table 0 (codes "uri") && has_column table 1 (codes "name") && has_column table 2 (codes "value")

abbrev pub is_note : Table → Bool
is_note table =
    is_keyed (codes "note") (1 ∷ 2 ∷ 3 ∷ []) table
    && has_column table 0 (codes "kind")
    && has_column table 1 (codes "target")
    && has_column table 2 (codes "name")
    && has_column table 3 (codes "value")

-- a schema with the tables of profile 1, and perhaps with others, with indexes or with views
abbrev pub has_tables : Schema → Bool
has_tables schema = list_any is_profile schema.tables && list_any is_list schema.tables && list_any is_sticker schema.tables

-- a schema with the table that profile 2 has more
abbrev pub has_notes : Schema → Bool
has_notes schema = list_any is_note schema.tables

-- a database with nothing, or with the tables of a shelf and perhaps with others
abbrev pub MayHoldShelf : State → Type 0
MayHoldShelf s = (s.now.schema ≡ no_schema) ⊎ IsTrue (has_tables s.now.schema)

-- a row whose column has the text
abbrev pub has_text : ℕ → List ℕ → Row → Bool
has_text at text row = is_eq (value_cmp (column row at) (Words text))

-- the text of a column in the row that passes the test
abbrev pub text_where : ℕ → (Row → Bool) → List Row → Option (List ℕ)
text_where at test rows = option_map (λ row. bytes (column row at)) (find test rows)

-- how a kind is written in a row of note
abbrev pub kind_text : StickerKind → List ℕ
kind_text Song = codes "song"
kind_text Playlist = codes "playlist"

-- the rows of note that are of a target, and those that have a key
abbrev pub of_target : StickerKind → List ℕ → Row → Bool
of_target kind target row = has_text 1 (kind_text kind) row && has_text 2 target row

abbrev pub has_key : StickerKind → List ℕ → List ℕ → Row → Bool
has_key kind target name row = has_text 1 (kind_text kind) row && (has_text 2 target row && has_text 3 name row)

abbrev pub lists_in : Trees → List ℕ → Option (List (List ℕ))
lists_in trees name = option_map lines_of (text_where 2 (has_text 1 name) (trees 1))

-- the maps of a store of profile 2, whose stickers are in note
abbrev pub note_maps : Trees → Maps
note_maps trees = record { lists = lists_in trees; stickers = λ kind target name. text_where 4 (has_key kind target name) (trees 5) }

-- the maps of a store of profile 1, whose stickers are in sticker, and are all of songs
abbrev pub former_stickers : List Row → StickerKind → List ℕ → List ℕ → Option (List ℕ)
former_stickers rows Song uri name = text_where 3 (λ row. has_text 1 uri row && has_text 2 name row) rows
former_stickers rows Playlist target name = None

abbrev pub former_maps : Trees → Maps
former_maps trees = record { lists = lists_in trees; stickers = former_stickers (trees 3) }

-- the rows of a table, in the order of their rowids
pub record AreRows (rows : List Row) : Type 0 where
  pub rise : IsTable rows
  pub keyed : AllByRecursion (λ row. IsTrue (is_int (rowid row))) rows

-- a database with the tables of profile 2 and no others
pub record IsShelf (db : Database) : Type 0 where
  pub schema : db.schema ≡ shelf_schema
  pub sound : IsDatabase db
  pub lists : AreRows (db.trees 1)
  pub notes : AreRows (db.trees 5)

-- a connection outside a transaction, over such a database
pub record IsReady (s : State) : Type 0 where
  pub shelf : IsShelf s.now
  pub settled : s.now ≡ s.committed
  pub autocommit : s.in_transaction ≡ false

abbrev pub int_in : Value → Option ℤ
int_in (Int n) = Some n
int_in _ = None

-- the integer at this index of the one row
abbrev pub number_of : ℕ → List Row → Option ℤ
number_of at [] = None
number_of at (row ∷ []) = int_in (column row at)
number_of at (row ∷ other ∷ more) = None

-- the number of the profile
abbrev pub profile_number : Trees → Option ℤ
profile_number trees = number_of 2 (trees 0)

-- the number of profile 1
abbrev pub is_former : Trees → Bool
is_former trees = unwrap_or (option_map (λ n. is_eq (int_cmp n (pos 1))) (profile_number trees)) false

-- the maps of a store of either profile, by its number
abbrev pub maps_in : Trees → Maps
maps_in trees = if is_former trees then former_maps trees else note_maps trees

-- a text of UTF-8
abbrev pub IsText : Value → Type 0
IsText v = (text : List ℕ) × (v ≡ Words text) × IsUtf8 text

-- each row has a text in each of these columns
abbrev pub HaveTexts : List ℕ → List Row → Type 0
HaveTexts columns rows = (row : Row) → Has rows row → (at : ℕ) → Has columns at → IsText (column row at)

-- the rows of both tables have a text in every column but that of their number
pub record HoldsTexts (trees : Trees) : Type 0 where
  pub lists : HaveTexts (1 ∷ 2 ∷ []) (trees 1)
  pub notes : HaveTexts (1 ∷ 2 ∷ 3 ∷ 4 ∷ []) (trees 5)

-- a shelf's own store: open, with its tables, the number 2, and rows that hold texts
pub record IsOwn (s : State) : Type 0 where
  pub is_open : IsTrue s.is_open
  pub ready : IsReady s
  pub number : profile_number s.now.trees ≡ Some (pos 2)
  pub texts : HoldsTexts s.now.trees

-- a query that showed its rows
pub record Reads (old new : State) : Type 0 where
  pub clean : HasCleanDisk new → HasCleanDisk old
  pub counts : old.faults ≤ new.faults
  pub stays_open : HasCleanDisk new → IsTrue old.is_open → IsTrue new.is_open ⊎ MoreFaults old.faults new.faults
  pub limit : new.step_limit ≡ old.step_limit
  pub same : HasCleanDisk new → IsReady old → IsUnchanged old new
  pub leaves : HasCleanDisk new → IsReady old → (db : Trees) → new.may_leave db → old.may_leave db

-- What a shelf over a connection shows, by the table note. A stop may leave the store of profile 1 that an
-- open was about to move.
abbrev pub database_standing : State → Standing
database_standing s = record {
  maps = note_maps s.now.trees;
  IsClean = HasCleanDisk s;
  IsOurs = IsOwn s;
  is_open = s.is_open;
  faults = s.faults;
  MayLeave = λ m. (trees : Trees) × s.may_leave trees × (m ≡ maps_in trees);
}
