-- What the texts of the statements mean under the schema of a shelf.
use Rattle.std.proofs.Common.{◌≡◌, ℕ, pos, negsuc, List, [], ◌∷◌, codes, false, None, Ok, refl}
use Rattle.sqlite.specs.declared.types.Value.TheVariants.{Null, Int, Text}
use Rattle.sqlite.specs.Collation.{Collation}
use Rattle.sqlite.specs.Collation.TheVariants.{Binary}
use Rattle.sqlite.specs.Term.{Term, lit, col, op2}
use Rattle.sqlite_value.specs.declared.keys.Key.{Key}
use Rattle.sqlite_sql.specs.declared.ops.BinaryOp.TheVariants.{Compare}
use Rattle.sqlite_sql.specs.declared.ops.CompareOp.TheVariants.{Eq}
use Rattle.sqlite_schema.specs.declared.command.Conflict.TheVariants.{Replace}
use Rattle.sqlite.specs.Query.{Query, inner, end}
use Rattle.sqlite.specs.Schema.{Schema}
use Rattle.sqlite_schema.specs.declared.program.Program.{Program}
use Rattle.sqlite.specs.Source.TheVariants.{Values, Query as Asked}
use Rattle.sqlite.specs.Command.{Command}
use Rattle.sqlite.specs.Command.TheVariants.{InsertOr, Select, Delete, Update}
use Rattle.sqlite.specs.Compile.{table_defined_by}
use Rattle.sqlite_tied.specs.Compute.{everything}
use Rattle.sqlite.specs.Listing.{understood, reads_listing}
use Rattle.sqlite.proofs.Callers.{IsPlain, command_of}
use Rattle.shelf_database.specs.Tables.{profile_table, list_table, sticker_table, note_table, shelf_schema}

-- the rows of one table that pass a filter; what is inserted names a collation for each column
abbrev pub over_by : List Collation → ℕ → List Term → List Term → List (Term × Key) → Query
over_by collations tree filter project order = record {
  from = inner tree end;
  filter = filter;
  group = None;
  project = project;
  distinct = false;
  collations = collations;
  order = order;
  limit = lit (Int (negsuc 0));
  offset = lit (Int (pos 0));
}

abbrev pub over : ℕ → List Term → List Term → List (Term × Key) → Query
over = over_by []

abbrev pub five_columns : List Collation
five_columns = Binary ∷ Binary ∷ Binary ∷ Binary ∷ Binary ∷ []

abbrev pub equals : ℕ → ℕ → Term
equals column parameter = op2 (Compare Eq Binary) (col 1 column) (col 0 parameter)

abbrev pub rising : ℕ → List (Term × Key)
rising column = (col 1 column, record { collation = Binary; descending = false }) ∷ []

-- ---- tables

pub profile_is : table_defined_by (codes "CREATE TABLE profile (one INTEGER PRIMARY KEY CHECK (one = 1), number INTEGER NOT NULL)") ≡ Ok profile_table
unfolding understood everything
profile_is = refl

pub list_is : table_defined_by (codes "CREATE TABLE list (name TEXT NOT NULL PRIMARY KEY, uris TEXT NOT NULL)") ≡ Ok list_table
unfolding understood everything
list_is = refl

pub sticker_is : table_defined_by (codes "CREATE TABLE sticker (uri TEXT NOT NULL, name TEXT NOT NULL, value TEXT NOT NULL, PRIMARY KEY (uri, name))") ≡ Ok sticker_table
unfolding understood everything
sticker_is = refl

pub note_is : table_defined_by (codes "CREATE TABLE note (kind TEXT NOT NULL, target TEXT NOT NULL, name TEXT NOT NULL, value TEXT NOT NULL, PRIMARY KEY (kind, target, name))") ≡ Ok note_table
unfolding understood everything
note_is = refl

-- ---- reads

abbrev pub ReadingIn : Schema → List ℕ → Query → List (List ℕ) → Type 0
ReadingIn schema text query names =
    (command_of (understood schema text) ≡ Select (record { lets = []; body = query }) names) × (reads_listing schema text ≡ false) × IsPlain (understood schema text)

abbrev pub Reading : List ℕ → Query → List (List ℕ) → Type 0
Reading = ReadingIn shelf_schema

abbrev pub uris_text : List ℕ
uris_text = codes "SELECT uris FROM list WHERE name = ?1"

pub uris_is : Reading uris_text (over 1 (equals 1 0 ∷ []) (col 1 2 ∷ []) []) (codes "uris" ∷ [])
unfolding understood everything
uris_is = (refl, refl, (refl, refl))

abbrev pub names_text : List ℕ
names_text = codes "SELECT name FROM list ORDER BY name"

pub names_are : Reading names_text (over 1 [] (col 1 1 ∷ []) (rising 1)) (codes "name" ∷ [])
unfolding understood everything
names_are = (refl, refl, (refl, refl))

abbrev pub named_text : List ℕ
named_text = codes "SELECT name FROM list WHERE name = ?1"

pub named_is : Reading named_text (over 1 (equals 1 0 ∷ []) (col 1 1 ∷ []) []) (codes "name" ∷ [])
unfolding understood everything
named_is = (refl, refl, (refl, refl))

abbrev pub value_text : List ℕ
value_text = codes "SELECT value FROM note WHERE kind = ?1 AND target = ?2 AND name = ?3"

-- what WHERE asks of a row of note
abbrev pub key_terms : List Term
key_terms = equals 1 0 ∷ equals 2 1 ∷ equals 3 2 ∷ []

abbrev pub target_terms : List Term
target_terms = equals 1 0 ∷ equals 2 1 ∷ []

abbrev pub name_terms : List Term
name_terms = equals 1 0 ∷ equals 3 1 ∷ []

pub value_is : Reading value_text (over 5 key_terms (col 1 4 ∷ []) []) (codes "value" ∷ [])
unfolding understood everything
value_is = (refl, refl, (refl, refl))

abbrev pub names_of_target_text : List ℕ
names_of_target_text = codes "SELECT name FROM note WHERE kind = ?1 AND target = ?2 ORDER BY name"

pub names_of_target_are : Reading names_of_target_text (over 5 target_terms (col 1 3 ∷ []) (rising 3)) (codes "name" ∷ [])
unfolding understood everything
names_of_target_are = (refl, refl, (refl, refl))

abbrev pub of_target_text : List ℕ
of_target_text = codes "SELECT name, value FROM note WHERE kind = ?1 AND target = ?2 ORDER BY name"

pub of_target_is : Reading of_target_text (over 5 target_terms (col 1 3 ∷ col 1 4 ∷ []) (rising 3)) (codes "name" ∷ codes "value" ∷ [])
unfolding understood everything
of_target_is = (refl, refl, (refl, refl))

abbrev pub of_name_text : List ℕ
of_name_text = codes "SELECT target, value FROM note WHERE kind = ?1 AND name = ?2 ORDER BY target"

pub of_name_is : Reading of_name_text (over 5 name_terms (col 1 2 ∷ col 1 4 ∷ []) (rising 2)) (codes "target" ∷ codes "value" ∷ [])
unfolding understood everything
of_name_is = (refl, refl, (refl, refl))

-- ---- writes

abbrev pub Writing : List ℕ → Command → Type 0
Writing text command = (command_of (understood shelf_schema text) ≡ command) × IsPlain (understood shelf_schema text)

abbrev pub put_text : List ℕ
put_text = codes "INSERT OR REPLACE INTO list (name, uris) VALUES (?1, ?2)"

pub put_is : Writing put_text (InsertOr 1 Replace (Values (lit Null ∷ col 0 0 ∷ col 0 1 ∷ []) 3) [])
unfolding understood everything
put_is = (refl, (refl, refl))

abbrev pub note_values : List Term
note_values = lit Null ∷ col 0 0 ∷ col 0 1 ∷ col 0 2 ∷ col 0 3 ∷ []

abbrev pub set_text : List ℕ
set_text = codes "INSERT OR REPLACE INTO note (kind, target, name, value) VALUES (?1, ?2, ?3, ?4)"

pub set_is : Writing set_text (InsertOr 3 Replace (Values note_values 5) [])
unfolding understood everything
set_is = (refl, (refl, refl))

abbrev pub remove_text : List ℕ
remove_text = codes "DELETE FROM list WHERE name = ?1"

pub remove_is : Writing remove_text (Delete 1 (record { lets = []; body = over 1 (equals 1 0 ∷ []) (col 1 0 ∷ []) [] }))
unfolding understood everything
remove_is = (refl, (refl, refl))

abbrev pub delete_text : List ℕ
delete_text = codes "DELETE FROM note WHERE kind = ?1 AND target = ?2 AND name = ?3"

pub delete_is : Writing delete_text (Delete 3 (record { lets = []; body = over 5 key_terms (col 1 0 ∷ []) [] }))
unfolding understood everything
delete_is = (refl, (refl, refl))

abbrev pub delete_all_text : List ℕ
delete_all_text = codes "DELETE FROM note WHERE kind = ?1 AND target = ?2"

pub delete_all_is : Writing delete_all_text (Delete 3 (record { lets = []; body = over 5 target_terms (col 1 0 ∷ []) [] }))
unfolding understood everything
delete_all_is = (refl, (refl, refl))

abbrev pub copy_terms : List Term
copy_terms = lit Null ∷ col 1 1 ∷ col 0 2 ∷ col 1 3 ∷ col 1 4 ∷ []

abbrev pub copy_program : Program
copy_program = record { lets = []; body = over_by five_columns 5 target_terms copy_terms [] }

abbrev pub copy_text : List ℕ
copy_text = codes "INSERT OR REPLACE INTO note (kind, target, name, value) SELECT kind, ?3, name, value FROM note WHERE kind = ?1 AND target = ?2"

pub copy_is : Writing copy_text (InsertOr 3 Replace (Asked copy_program) [])
unfolding understood everything
copy_is = (refl, (refl, refl))

abbrev pub move_terms : List Term
move_terms = lit Null ∷ lit (Text (codes "song")) ∷ col 1 1 ∷ col 1 2 ∷ col 1 3 ∷ []

abbrev pub move_program : Program
move_program = record { lets = []; body = over_by five_columns 3 [] move_terms [] }

abbrev pub move_text : List ℕ
move_text = codes "INSERT OR REPLACE INTO note (kind, target, name, value) SELECT 'song', uri, name, value FROM sticker"

pub move_is : Writing move_text (InsertOr 3 Replace (Asked move_program) [])
unfolding understood everything
move_is = (refl, (refl, refl))

abbrev pub empty_text : List ℕ
empty_text = codes "DELETE FROM sticker"

pub empty_is : Writing empty_text (Delete 2 (record { lets = []; body = over 3 [] (col 1 0 ∷ []) [] }))
unfolding understood everything
empty_is = (refl, (refl, refl))

abbrev pub forget_text : List ℕ
forget_text = codes "DELETE FROM profile"

pub forget_is : Writing forget_text (Delete 0 (record { lets = []; body = over 0 [] (col 1 0 ∷ []) [] }))
unfolding understood everything
forget_is = (refl, (refl, refl))

abbrev pub rename_text : List ℕ
rename_text = codes "UPDATE list SET name = ?2 WHERE name = ?1"

pub rename_is : Writing rename_text (Update 1 (record { lets = []; body = over 1 (equals 1 0 ∷ []) (col 1 0 ∷ col 1 0 ∷ col 0 1 ∷ col 1 2 ∷ []) [] }))
unfolding understood everything
rename_is = (refl, (refl, refl))
