-- Why the statement of a rename is answered with an error: the row with the new name is not stored, or the
-- steps are bounded.
use Rattle.std.proofs.Common.{◌≡◌, ◌⊎◌, inl, inr, ℕ, List, [], ◌∷◌, find, Some, None, Option, Ok, Err, refl, subst, IsSome}
use Rattle.sqlite.specs.declared.error.Error.{Error}
use Rattle.sqlite.specs.declared.types.Value.TheVariants.{Null, Text}
use Rattle.sqlite.specs.Order.{Row}
use Rattle.sqlite.specs.Tree.{Trees}
use Rattle.sqlite.specs.Program.{overlay}
use Rattle.sqlite.specs.Rows.{Task, Queried, Edited, Updates}
use Rattle.sqlite.specs.Does.{Does}
use Rattle.sqlite.specs.Edit.{edit_of}
use Rattle.sqlite.specs.Rowids.TheVariants.{Given}
use Rattle.sqlite.specs.State.{State, mode_of}
use Rattle.sqlite.specs.Listing.{understood}
use Rattle.sqlite.proofs.Callers.{statement_of}
use Rattle.sqlite_schema.specs.declared.program.Program.{Program}
use Rattle.sqlite_schema.specs.declared.schema.Keys.TheVariants.{Enforced}
use Rattle.sqlite_tied.specs.Compute.{everything}
use Rattle.sqlite_rules.specs.Calls.{ids_of}
use Rattle.sqlite_rules.proofs.ListLemmas.{has_found}
use Rattle.shelf_database.specs.Moves.{HasNames, KeepsTheRow}
use Rattle.shelf_database.specs.Tables.{shelf_schema, placed_list, has_text, IsShelf}
use Rattle.shelf_database.specs.Faults.{IsUnstorable}
use Rattle.shelf_database.proofs.Statements.{over, equals, rename_text}
use Rattle.shelf_database.proofs.ReadLemmas.{answer_is}
use Rattle.shelf_database.proofs.RenameLemmas.{renamed, wide_terms, renaming, first_test, cast_wide, one_wide, row_there, row_missing}
use Rattle.shelf_database.proofs.RefusalLemmas.{query_limited, concludes_done}
use Rattle.shelf_database.proofs.RenameEdit.{edit_for, edit_stopped}
use Rattle.shelf_database.proofs.WriteBlame.{RefusedFor}
use Rattle.shelf_database.proofs.BlameLemmas.{IsWhole}

abbrev asking : Program
asking = record { lets = []; body = over 1 (equals 1 0 ∷ []) wide_terms [] }

module _ (s : State) (name new : List ℕ) (is : IsShelf s.now) (row : Row) (found : find (has_text 1 name) (s.now.trees 1) ≡ Some row) (free : find (has_text 1 new) (s.now.trees 1) ≡ None) where
  abbrev db : Trees
  db = s.now.trees

  abbrev params : Row
  params = Text name ∷ Text new ∷ []

  abbrev reason : Type 0
  reason = IsUnstorable (renamed new row)

  abbrev task : Task
  task = record { limit = s.step_limit; keys = Enforced; schema = shelf_schema; table = placed_list; params = params }

  -- the one row that was found is the source of the edit
  edited_one : (stop : Option Error) (rows : List Row) → Queried s.step_limit (record { schema = shelf_schema; trees = db }) asking params (Ok rows)
      → Edited shelf_schema Enforced db (edit_of db placed_list (ids_of rows) Given 1 rows) (Err stop) → reason
  edited_one stop rows answers h =
      let read = answer_is params 1 (equals 1 0 ∷ []) wide_terms [] (has_text 1 name) (first_test name new) (overlay db []) rows (answers.answer Null) in
      let one = one_wide s name new row is found rows read in
      let on = subst (λ xs. Edited shelf_schema Enforced db (edit_of db placed_list (ids_of xs) Given 1 xs) (Err stop)) one h in
      let cast = cast_wide new s.now row is (has_found (has_text 1 name) (db 1) row found).0 in
      let it = subst (λ r. Edited shelf_schema Enforced db (edit_for row r) (Err stop)) cast on in
      edit_stopped s name new is row found free stop it

  updates : (stop : Option Error) → Updates task asking params db (Err stop) → IsSome s.step_limit ⊎ reason
  updates stop (inl h) = inl (query_limited 1 (equals 1 0 ∷ []) wide_terms [] s.step_limit (record { schema = shelf_schema; trees = db }) params h.0 refl h.1)
  updates stop (inr h) = elim h.2 [ inl stopped ↦ inr (edited_one stopped.0 h.0 h.1 stopped.1) | inr gives ↦ absurd (let e = gives.2 in cc) ]

  row_refused : RefusedFor s rename_text params renaming reason
  row_refused stop h =
      let run : List ℕ = statement_of rename_text (understood shelf_schema rename_text) in
      elim (subst (λ schema. Does s.step_limit (mode_of s) params (record s.now { schema = schema }) run None renaming (Err stop)) is.schema h) [
        | inl stopped ↦ updates stopped.0 stopped.1
        | inr wrote ↦ absurd (concludes_done s.step_limit placed_list params (mode_of s) wrote.0 stop wrote.2)
      ]

pub rename_refused : (s : State) (name new : List ℕ) → HasNames name new s.now → RefusedFor s rename_text (Text name ∷ Text new ∷ []) renaming (KeepsTheRow name new s.now)
rename_refused s name new has stop h =
    let found = row_there (find (has_text 1 name) (s.now.trees 1)) has.there in
    elim (row_refused s name new has.shelf found.0 found.1 (row_missing (find (has_text 1 new) (s.now.trees 1)) has.free) stop h) [
      | inl limited ↦ inl limited
      | inr why ↦ inr (found.0, found.1, why)
    ]

-- the text is one statement, which takes two values
pub rename_whole : (name new : List ℕ) → IsWhole rename_text (Text name ∷ Text new ∷ [])
unfolding understood everything
rename_whole name new = (refl, refl)
