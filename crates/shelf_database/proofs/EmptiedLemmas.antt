-- What DELETE without WHERE makes of a table: it has no row any more.
use Rattle.std.proofs.Common.{◌≡◌, inl, inr, ℕ, List, [], ◌∷◌, filter, slice_get, true, false, Some, None, Ok, Err, refl, subst, ◌∙◌}
use Rattle.sqlite.specs.Order.{Row}
use Rattle.sqlite.specs.Tree.{Trees}
use Rattle.sqlite.specs.Table.{Table}
use Rattle.sqlite.specs.Term.{col}
use Rattle.sqlite.specs.Program.{overlay}
use Rattle.sqlite.specs.Command.{Command}
use Rattle.sqlite.specs.Does.{Tally, Does}
use Rattle.sqlite.specs.Effect.{Database, IsDatabase}
use Rattle.sqlite.specs.Listing.{understood}
use Rattle.sqlite.specs.State.{State, mode_of}
use Rattle.sqlite.proofs.Callers.{statement_of}
use Rattle.sqlite_tied.specs.Compute.{everything}
use Rattle.sqlite_schema.specs.declared.schema.Constraint.TheVariants.{Unique}
use Rattle.sqlite_schema.specs.declared.schema.Keys.TheVariants.{Enforced}
use Rattle.sqlite_schema.specs.Rules.{Keeps}
use Rattle.sqlite_rules.specs.Action.{works}
use Rattle.sqlite_rules.specs.Calls.{ids_of}
use Rattle.sqlite_rules.proofs.ListLemmas.{has_got}
use Rattle.sqlite_typing.specs.Types.{accepts_program}
use Rattle.shelf_database.specs.Tables.{shelf_schema, placed_sticker}
use Rattle.shelf_database.specs.Opens.{HasRows, Clears}
use Rattle.shelf_database.proofs.Statements.{over, empty_text, forget_text}
use Rattle.shelf_database.proofs.DeleteLemmas.{deletion, deletes}
use Rattle.shelf_database.proofs.RefusalLemmas.{query_limited, concludes_done}
use Rattle.shelf_database.proofs.EditBlame.{taking_done}
use Rattle.shelf_database.proofs.BlameLemmas.{IsWhole}
use Rattle.shelf_database.proofs.MakingBlame.{IsSure}
use Rattle.shelf_database.proofs.TablesLemmas.{placed_profile}

none_stay : (rows : List Row) → filter (λ _. false) rows ≡ []
none_stay [] = refl
none_stay (r ∷ rows) = none_stay rows

module _ (tree at : ℕ) (table : Table) (placed : slice_get shelf_schema.tables at ≡ Some table) (treed : table.tree ≡ tree) (quiet : (olds : List Row) → works shelf_schema Enforced 0 table.tree olds [] ≡ [])
    (bare : (db : Trees) → overlay db [] tree ≡ db tree) (typed : accepts_program shelf_schema [] (over tree [] (col 1 0 ∷ []) []) [] ≡ true) where
  abbrev clearing : Command
  clearing = deletion [] tree [] (λ _. true) (λ _. refl) at

  clears : (s : State) (text : List ℕ) (tally : Tally) (after : Database) → HasRows tree s.now → Does s.step_limit (mode_of s) [] s.now text None clearing (Ok (tally, after)) → IsDatabase after → Clears tree s.now after
  clears s text tally after has h sound =
      let out = deletes [] tree [] (λ _. true) (λ _. refl) at table placed treed quiet bare s s.step_limit s.now after text tally has.0 has.2 h in
      record { schema = out.schema; sound = sound; gone = out.rows ∙ none_stay (s.now.trees tree); others = out.others }

  clearing_sure : (text : List ℕ) → IsSure (HasRows tree) text clearing
  clearing_sure text s stop has h =
      let known : Database = record s.now { schema = shelf_schema } in
      let here = subst (λ schema. Does s.step_limit (mode_of s) [] (record s.now { schema = schema }) text None clearing (Err stop)) has.0 h in
      let listed = has_got shelf_schema.tables at table placed in
      let unique = subst (λ schema. Keeps Unique schema s.now.trees) has.0 (has.1.obeys.rules Unique) in
      elim (rw placed at here) [
        | inl unwritten ↦ elim unwritten.1 [
          | inl unread ↦ query_limited tree [] (col 1 0 ∷ []) [] s.step_limit known [] unread.0 typed unread.1
          | inr read ↦ elim read.2 [
            | inl stopped ↦ absurd (taking_done s.now.trees table (ids_of read.0) stopped.0 listed (rw treed has.2.rise) unique stopped.1)
            | inr edited ↦ absurd (let e = edited.2 in cc)
          ]
        ]
        | inr written ↦ absurd (concludes_done s.step_limit table [] (mode_of s) written.0 stop written.2)
      ]

-- ---- the two tables

abbrev pub stickers_clearing : Command
stickers_clearing = deletion [] 3 [] (λ _. true) (λ _. refl) 2

abbrev pub number_clearing : Command
number_clearing = deletion [] 0 [] (λ _. true) (λ _. refl) 0

pub clears_stickers : (s : State) (text : List ℕ) (tally : Tally) (after : Database) → HasRows 3 s.now → Does s.step_limit (mode_of s) [] s.now text None stickers_clearing (Ok (tally, after)) → IsDatabase after → Clears 3 s.now after
clears_stickers = clears 3 2 placed_sticker refl refl (λ olds. refl) (λ db. refl) refl

pub clears_number : (s : State) (text : List ℕ) (tally : Tally) (after : Database) → HasRows 0 s.now → Does s.step_limit (mode_of s) [] s.now text None number_clearing (Ok (tally, after)) → IsDatabase after → Clears 0 s.now after
clears_number = clears 0 0 placed_profile refl refl (λ olds. refl) (λ db. refl) refl

pub stickers_sure : IsSure (HasRows 3) (statement_of empty_text (understood shelf_schema empty_text)) stickers_clearing
stickers_sure = clearing_sure 3 2 placed_sticker refl refl (λ olds. refl) (λ db. refl) refl (statement_of empty_text (understood shelf_schema empty_text))

pub forgetting_sure : IsSure (HasRows 0) (statement_of forget_text (understood shelf_schema forget_text)) number_clearing
forgetting_sure = clearing_sure 0 0 placed_profile refl refl (λ olds. refl) (λ db. refl) refl (statement_of forget_text (understood shelf_schema forget_text))

pub empty_whole : IsWhole empty_text []
unfolding understood everything
empty_whole = (refl, refl)

pub forget_whole : IsWhole forget_text []
unfolding understood everything
forget_whole = (refl, refl)
