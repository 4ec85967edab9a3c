-- Why a deletion may be answered with an error: the limit on steps alone refuses it.
use Rattle.std.proofs.Common.{◌≡◌, inl, inr, ℕ, List, [], ◌∷◌, slice_get, Bool, true, Option, Some, None, Err, refl, subst, IsSome}
use Rattle.std.specs.List.{list_all}
use Rattle.sqlite.specs.declared.error.Error.{Error}
use Rattle.sqlite.specs.declared.types.Value.TheVariants.{Text}
use Rattle.sqlite.specs.Order.{Row}
use Rattle.sqlite.specs.Tree.{IsTable}
use Rattle.sqlite.specs.Table.{Table}
use Rattle.sqlite.specs.Term.{Term, col, holds}
use Rattle.sqlite.specs.Effect.{Database}
use Rattle.sqlite.specs.Does.{Does}
use Rattle.sqlite.specs.Listing.{understood}
use Rattle.sqlite.specs.State.{State, mode_of}
use Rattle.sqlite.proofs.Callers.{statement_of}
use Rattle.sqlite_tied.specs.Compute.{everything}
use Rattle.sqlite_rules.specs.Calls.{ids_of}
use Rattle.sqlite_rules.proofs.ListLemmas.{has_got}
use Rattle.sqlite_typing.specs.Types.{accepts_program}
use Rattle.shelf.specs.declared.kinds.StickerKind.{StickerKind}
use Rattle.shelf_database.specs.Tables.{shelf_schema, placed_list, placed_note, kind_text, has_text, has_key, of_target, IsShelf, IsReady}
use Rattle.shelf_database.proofs.Statements.{over, equals, key_terms, target_terms, remove_text, delete_text, delete_all_text}
use Rattle.shelf_database.proofs.TextLemmas.{one_test, target_test, key_test}
use Rattle.shelf_database.proofs.DeleteLemmas.{deletion}
use Rattle.shelf_database.proofs.RefusalLemmas.{query_limited, unique_in, concludes_done}
use Rattle.shelf_database.proofs.EditBlame.{taking_done}
use Rattle.shelf_database.proofs.WriteBlame.{RefusedFor}
use Rattle.shelf_database.proofs.BlameLemmas.{IsWhole}

module _ (params : Row) (tree : ℕ) (terms : List Term) (test : Row → Bool) (tests : (row : Row) → list_all (holds (params ∷ row ∷ [])) terms ≡ test row) where
  pub deletion_refused : (at : ℕ) (table : Table) → slice_get shelf_schema.tables at ≡ Some table → accepts_program shelf_schema [] (over tree terms (col 1 0 ∷ []) []) params ≡ true
      → (s : State) (text : List ℕ) → IsShelf s.now → IsTable (s.now.trees table.tree) → (stop : Option Error)
      → Does s.step_limit (mode_of s) params s.now text None (deletion params tree terms test tests at) (Err stop) → IsSome s.step_limit
  deletion_refused at table placed typed s text shelf ordered stop h =
      let known : Database = record s.now { schema = shelf_schema } in
      let here = subst (λ schema. Does s.step_limit (mode_of s) params (record s.now { schema = schema }) text None (deletion params tree terms test tests at) (Err stop)) shelf.schema h in
      let listed = has_got shelf_schema.tables at table placed in
      elim (rw placed at here) [
        | inl unwritten ↦ elim unwritten.1 [
          | inl unread ↦ query_limited tree terms (col 1 0 ∷ []) [] s.step_limit known params unread.0 typed unread.1
          | inr read ↦ elim read.2 [
            | inl stopped ↦ absurd (taking_done s.now.trees table (ids_of read.0) stopped.0 listed ordered (unique_in s.now shelf) stopped.1)
            | inr edited ↦ absurd (let e = edited.2 in cc)
          ]
        ]
        | inr written ↦ absurd (concludes_done s.step_limit table params (mode_of s) written.0 stop written.2)
      ]

pub removal_refused : (s : State) (name : List ℕ) → IsReady s → RefusedFor s remove_text (Text name ∷ []) (deletion (Text name ∷ []) 1 (equals 1 0 ∷ []) (has_text 1 name) (one_test 1 name) 1) ⊥
removal_refused s name ready stop h =
    let run : List ℕ = statement_of remove_text (understood shelf_schema remove_text) in
    inl (deletion_refused (Text name ∷ []) 1 (equals 1 0 ∷ []) (has_text 1 name) (one_test 1 name) 1 placed_list refl refl s run ready.shelf ready.shelf.lists.rise stop h)

module _ (s : State) (kind : StickerKind) (target : List ℕ) (ready : IsReady s) where
  pub deletion_of_one_refused : (name : List ℕ)
      → RefusedFor s delete_text (Text (kind_text kind) ∷ Text target ∷ Text name ∷ []) (deletion (Text (kind_text kind) ∷ Text target ∷ Text name ∷ []) 5 key_terms (has_key kind target name) (key_test kind target name) 3) ⊥
  deletion_of_one_refused name stop h =
      let run : List ℕ = statement_of delete_text (understood shelf_schema delete_text) in
      inl (deletion_refused (Text (kind_text kind) ∷ Text target ∷ Text name ∷ []) 5 key_terms (has_key kind target name) (key_test kind target name) 3 placed_note refl refl s run ready.shelf ready.shelf.notes.rise stop h)

  pub deletion_of_all_refused : RefusedFor s delete_all_text (Text (kind_text kind) ∷ Text target ∷ []) (deletion (Text (kind_text kind) ∷ Text target ∷ []) 5 target_terms (of_target kind target) (target_test kind target) 3) ⊥
  deletion_of_all_refused stop h =
      let run : List ℕ = statement_of delete_all_text (understood shelf_schema delete_all_text) in
      inl (deletion_refused (Text (kind_text kind) ∷ Text target ∷ []) 5 target_terms (of_target kind target) (target_test kind target) 3 placed_note refl refl s run ready.shelf ready.shelf.notes.rise stop h)

-- ---- the statements and their values

pub remove_whole : (name : List ℕ) → IsWhole remove_text (Text name ∷ [])
unfolding understood everything
remove_whole name = (refl, refl)

pub delete_whole : (kind : StickerKind) (target name : List ℕ) → IsWhole delete_text (Text (kind_text kind) ∷ Text target ∷ Text name ∷ [])
unfolding understood everything
delete_whole kind target name = (refl, refl)

pub delete_all_whole : (kind : StickerKind) (target : List ℕ) → IsWhole delete_all_text (Text (kind_text kind) ∷ Text target ∷ [])
unfolding understood everything
delete_all_whole kind target = (refl, refl)
