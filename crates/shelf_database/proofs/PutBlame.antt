-- Why INSERT OR REPLACE may be refused: the limit on steps, or its row is not stored.
use Rattle.std.proofs.Common.{◌≡◌, ◌⊎◌, inl, inr, ℕ, ◌+◌, ◌^◌, ◌<◌, ℤ, List, [], ◌∷◌, length, sum_by, None, Option, Err, refl, ap, subst, IsSome, arith}
use lib.Ieee.{is_nan}
use Rattle.sqlite.specs.declared.types.Value.TheVariants.{Null, Int, Text}
use Rattle.sqlite.specs.declared.error.Error.{Error}
use Rattle.sqlite.specs.Order.{Row, bytes}
use Rattle.sqlite.specs.View.{IsStorable}
use Rattle.sqlite.specs.Cast.{cast_row}
use Rattle.sqlite.specs.Source.TheVariants.{Values}
use Rattle.sqlite.specs.Command.{Command}
use Rattle.sqlite.specs.Command.TheVariants.{InsertOr}
use Rattle.sqlite.specs.Rows.{InsertsOr, Task}
use Rattle.sqlite.specs.Does.{Does}
use Rattle.sqlite.specs.Edit.{next_rowid, with_rowid}
use Rattle.sqlite.specs.Rowids.TheVariants.{Chosen}
use Rattle.sqlite.specs.State.{State, mode_of}
use Rattle.sqlite.specs.Listing.{understood}
use Rattle.sqlite_sql.specs.Catalog.{entry_of}
use Rattle.sqlite_schema.specs.declared.command.Conflict.TheVariants.{Replace}
use Rattle.sqlite_schema.specs.Rules.{table_reals, index_reals}
use Rattle.sqlite_schema.specs.declared.schema.Index.{Index}
use Rattle.sqlite_rules.specs.Edit.{IsOversized}
use Rattle.sqlite_rules.proofs.PlaceLemmas.{next_is_free}
use Rattle.sqlite.proofs.Callers.{statement_of}
use Rattle.shelf.specs.declared.kinds.StickerKind.{StickerKind}
use Rattle.shelf_database.specs.Tables.{shelf_schema, placed_list, placed_note, kind_text, IsReady}
use Rattle.shelf_database.specs.Faults.{IsUnstorable}
use Rattle.shelf_database.proofs.Statements.{put_text, set_text}
use Rattle.shelf_database.proofs.PutLemmas.{task}
use Rattle.shelf_database.proofs.PutListLemmas.{cast_int, cast_null, list_values}
use Rattle.shelf_database.proofs.Statements.{note_values}
use Rattle.shelf_database.proofs.EditBlame.{stored, whole_number, by_length}
use Rattle.shelf_database.proofs.RefusalLemmas.{unique_now, concludes_done}
use Rattle.shelf_database.proofs.ReplaceBlame.{inserts_stopped}
use Rattle.shelf_database.proofs.WriteBlame.{RefusedFor}

-- ---- the lists

abbrev list_row : ℤ → List ℕ → List ℕ → Row
list_row id name text = Int id ∷ Text name ∷ Text text ∷ []

list_long : (id : ℤ) (name text : List ℕ) → IsOversized shelf_schema placed_list (list_row id name text) → 10 ^ 9 < sum_by (λ v. 18 + length (bytes v)) (list_row id name text)
unfolding is_nan
list_long id name text big = by_length (list_row id name text) (λ short. elim big [
  | inl row ↦ row (stored (list_row id name text) (whole_number id, (tt, (tt, tt))) (omega arith) (omega arith) short, omega arith)
  | inr (i, inl is, of, entry) ↦ subst (λ (x : Index). IsStorable (index_reals (table_reals placed_list) x.columns) (entry_of x.columns (list_row id name text)) → ⊥) is entry
      (stored (Text name ∷ Int id ∷ []) (tt, (whole_number id, tt)) (omega arith) (omega arith) (omega (arith, short)))
  | inr (i, inr (inl is), of, entry) ↦ let other : 3 ≡ 1 = subst (λ (x : Index). x.table ≡ 1) is of in omega (arith, other)
  | inr (i, inr (inr (inl is)), of, entry) ↦ let other : 5 ≡ 1 = subst (λ (x : Index). x.table ≡ 1) is of in omega (arith, other)
  | inr (i, inr (inr (inr none)), of, entry) ↦ none
])

module _ (s : State) (name text : List ℕ) (ready : IsReady s) where
  abbrev list_id : ℤ
  list_id = next_rowid (s.now.trees 1)

  abbrev list_params : Row
  list_params = Text name ∷ Text text ∷ []

  list_cast : cast_row placed_list (list_row list_id name text) ≡ list_row list_id name text
  list_cast = rw (cast_int list_id) refl

  abbrev list_task : Task
  list_task = task placed_list (λ olds news. refl) s.step_limit list_params (list_row list_id name text) list_cast refl

  list_stopped : (stop : Option Error) → InsertsOr list_task Replace [] (Values list_values 3) s.now.trees (Err stop) → IsSome s.step_limit ⊎ IsUnstorable (list_row list_id name text)
  list_stopped stop h =
      let free = next_is_free Chosen (s.now.trees 1) list_params ready.shelf.lists.rise ready.shelf.lists.keyed in
      inserts_stopped placed_list (inr (inl refl)) (λ olds news. refl) s.step_limit list_params (list_row list_id name text) list_cast (refl, refl, refl, refl) (list_long list_id name text) s.now.trees list_values 3 (Null ∷ list_params) ready.shelf.lists
      (unique_now s ready) free refl refl refl (λ top. ap (λ v. with_rowid Chosen (s.now.trees 1) (v ∷ list_params)) cast_null) stop h

pub put_refused : (s : State) (name text : List ℕ) → IsReady s
    → RefusedFor s put_text (Text name ∷ Text text ∷ []) (InsertOr 1 Replace (Values list_values 3) []) (IsUnstorable (Int (next_rowid (s.now.trees 1)) ∷ Text name ∷ Text text ∷ []))
put_refused s name text ready stop h =
    let params : Row = Text name ∷ Text text ∷ [] in
    let command : Command = InsertOr 1 Replace (Values list_values 3) [] in
    let text_run : List ℕ = statement_of put_text (understood shelf_schema put_text) in
    elim (subst (λ schema. Does s.step_limit (mode_of s) params (record s.now { schema = schema }) text_run None command (Err stop)) ready.shelf.schema h) [
      | inl wrote ↦ list_stopped s name text ready wrote.0 wrote.1
      | inr (w, wrote, ends) ↦ absurd (concludes_done s.step_limit placed_list params (mode_of s) w stop ends)
    ]

-- ---- the stickers

abbrev note_row : ℤ → StickerKind → List ℕ → List ℕ → List ℕ → Row
note_row id kind target name value = Int id ∷ Text (kind_text kind) ∷ Text target ∷ Text name ∷ Text value ∷ []

note_long : (id : ℤ) (kind : StickerKind) (target name value : List ℕ) → IsOversized shelf_schema placed_note (note_row id kind target name value) → 10 ^ 9 < sum_by (λ v. 18 + length (bytes v)) (note_row id kind target name value)
unfolding is_nan
note_long id kind target name value big = by_length (note_row id kind target name value) (λ short. elim big [
  | inl row ↦ row (stored (note_row id kind target name value) (whole_number id, (tt, (tt, (tt, (tt, tt))))) (omega arith) (omega arith) short, omega arith)
  | inr (i, inl is, of, entry) ↦ let other : 1 ≡ 5 = subst (λ (x : Index). x.table ≡ 5) is of in omega (arith, other)
  | inr (i, inr (inl is), of, entry) ↦ let other : 3 ≡ 5 = subst (λ (x : Index). x.table ≡ 5) is of in omega (arith, other)
  | inr (i, inr (inr (inl is)), of, entry) ↦ subst (λ (x : Index). IsStorable (index_reals (table_reals placed_note) x.columns) (entry_of x.columns (note_row id kind target name value)) → ⊥) is entry
      (stored (Text (kind_text kind) ∷ Text target ∷ Text name ∷ Int id ∷ []) (tt, (tt, (tt, (whole_number id, tt)))) (omega arith) (omega arith) (omega (arith, short)))
  | inr (i, inr (inr (inr none)), of, entry) ↦ none
])

module _ (s : State) (kind : StickerKind) (target name value : List ℕ) (ready : IsReady s) where
  abbrev note_id : ℤ
  note_id = next_rowid (s.now.trees 5)

  abbrev note_params : Row
  note_params = Text (kind_text kind) ∷ Text target ∷ Text name ∷ Text value ∷ []

  note_cast : cast_row placed_note (note_row note_id kind target name value) ≡ note_row note_id kind target name value
  note_cast = rw (cast_int note_id) refl

  abbrev note_task : Task
  note_task = task placed_note (λ olds news. refl) s.step_limit note_params (note_row note_id kind target name value) note_cast refl

  note_stopped : (stop : Option Error) → InsertsOr note_task Replace [] (Values note_values 5) s.now.trees (Err stop) → IsSome s.step_limit ⊎ IsUnstorable (note_row note_id kind target name value)
  note_stopped stop h =
      let free = next_is_free Chosen (s.now.trees 5) note_params ready.shelf.notes.rise ready.shelf.notes.keyed in
      inserts_stopped placed_note (inr (inr (inr (inl refl)))) (λ olds news. refl) s.step_limit note_params (note_row note_id kind target name value) note_cast (refl, refl, refl, refl) (note_long note_id kind target name value) s.now.trees note_values 5
      (Null ∷ note_params) ready.shelf.notes (unique_now s ready) free refl refl refl (λ top. ap (λ v. with_rowid Chosen (s.now.trees 5) (v ∷ note_params)) cast_null) stop h

pub set_refused : (s : State) (kind : StickerKind) (target name value : List ℕ) → IsReady s
    → RefusedFor s set_text (Text (kind_text kind) ∷ Text target ∷ Text name ∷ Text value ∷ []) (InsertOr 3 Replace (Values note_values 5) []) (IsUnstorable (Int (next_rowid (s.now.trees 5)) ∷ Text (kind_text kind) ∷ Text target ∷ Text name ∷ Text value ∷ []))
set_refused s kind target name value ready stop h =
    let params : Row = Text (kind_text kind) ∷ Text target ∷ Text name ∷ Text value ∷ [] in
    let command : Command = InsertOr 3 Replace (Values note_values 5) [] in
    let text_run : List ℕ = statement_of set_text (understood shelf_schema set_text) in
    elim (subst (λ schema. Does s.step_limit (mode_of s) params (record s.now { schema = schema }) text_run None command (Err stop)) ready.shelf.schema h) [
      | inl wrote ↦ note_stopped s kind target name value ready wrote.0 wrote.1
      | inr (w, wrote, ends) ↦ absurd (concludes_done s.step_limit placed_note params (mode_of s) w stop ends)
    ]
