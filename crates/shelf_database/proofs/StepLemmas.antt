-- What the statements make that take a list away, and its stickers.
use Rattle.std.proofs.Common.{◌≡◌, ℕ, List, [], ◌∷◌, None, Option, Ok, Err, refl, sym, subst, ◌∙◌, IsSome, arith}
use Rattle.sqlite.specs.declared.error.Error.{Error}
use Rattle.sqlite.specs.declared.types.Value.TheVariants.{Text}
use Rattle.sqlite.specs.Command.{Command}
use Rattle.sqlite.specs.Does.{Tally, Does}
use Rattle.sqlite.specs.Effect.{Database, IsDatabase}
use Rattle.sqlite.specs.Listing.{understood}
use Rattle.sqlite.specs.State.{State, mode_of}
use Rattle.sqlite.proofs.Callers.{statement_of}
use Rattle.shelf.specs.declared.kinds.StickerKind.TheVariants.{Playlist}
use Rattle.shelf.specs.Maps.{Maps, Same, with_list, with_stickers, no_stickers}
use Rattle.shelf_database.specs.Tables.{shelf_schema, placed_list, placed_note, kind_text, note_maps, has_text, of_target, IsShelf}
use Rattle.shelf_database.specs.Moves.{Carries, RemovesRow, ClearsNotes, RemovesAll}
use Rattle.shelf_database.proofs.DeleteBlame.{deletion_refused}
use Rattle.shelf_database.proofs.DeleteLemmas.{deletion, deletes}
use Rattle.shelf_database.proofs.RemoveLemmas.{removes_list, clears_target}
use Rattle.shelf_database.proofs.Statements.{equals, target_terms, remove_text, delete_all_text}
use Rattle.shelf_database.proofs.TextLemmas.{one_test, target_test}

-- maps that answer the same are the same
pub same_is : (a b : Maps) → Same a b → a ≡ b
same_is a b same = λ i. record { lists = λ name. sym (same.lists name) i; stickers = λ kind target name. sym (same.stickers kind target name) i }

abbrev pub removal : List ℕ → Command
removal name = deletion (Text name ∷ []) 1 (equals 1 0 ∷ []) (has_text 1 name) (one_test 1 name) 1

abbrev pub clearing : List ℕ → Command
clearing name = deletion (Text (kind_text Playlist) ∷ Text name ∷ []) 5 target_terms (of_target Playlist name) (target_test Playlist name) 3

module _ (s : State) (name : List ℕ) (is : IsShelf s.now) where
  pub removes_row : (tally : Tally) (after : Database) → Does s.step_limit (mode_of s) (Text name ∷ []) s.now (statement_of remove_text (understood shelf_schema remove_text)) None (removal name) (Ok (tally, after)) → IsDatabase after → RemovesRow name s.now after
  removes_row tally after h sound =
      let run : List ℕ = statement_of remove_text (understood shelf_schema remove_text) in
      let it = removes_list s name is tally after h sound in
      let out = deletes (Text name ∷ []) 1 (equals 1 0 ∷ []) (has_text 1 name) (one_test 1 name) 1 placed_list refl refl (λ olds. refl) (λ db. refl) s s.step_limit s.now after run tally is.schema is.lists h in
      record { carries = record { shelf = it.0; maps = it.1; profile = it.2; texts = it.3 }; notes = out.others.1.1.1.0 (λ e. omega (arith, e)) }

  pub clears_notes : (tally : Tally) (after : Database)
      → Does s.step_limit (mode_of s) (Text (kind_text Playlist) ∷ Text name ∷ []) s.now (statement_of delete_all_text (understood shelf_schema delete_all_text)) None (clearing name) (Ok (tally, after)) → IsDatabase after → ClearsNotes name s.now after
  clears_notes tally after h sound =
      let it = clears_target s Playlist name is tally after h sound in
      record { carries = record { shelf = it.shelf; maps = it.maps; profile = it.profile; texts = it.texts }; notes = it.rows }

  pub removal_sure : (stop : Option Error) → Does s.step_limit (mode_of s) (Text name ∷ []) s.now (statement_of remove_text (understood shelf_schema remove_text)) None (removal name) (Err stop) → IsSome s.step_limit
  removal_sure stop h =
      deletion_refused (Text name ∷ []) 1 (equals 1 0 ∷ []) (has_text 1 name) (one_test 1 name) 1 placed_list refl refl s (statement_of remove_text (understood shelf_schema remove_text)) is is.lists.rise stop h

  pub clearing_sure : (stop : Option Error)
      → Does s.step_limit (mode_of s) (Text (kind_text Playlist) ∷ Text name ∷ []) s.now (statement_of delete_all_text (understood shelf_schema delete_all_text)) None (clearing name) (Err stop) → IsSome s.step_limit
  clearing_sure stop h =
      deletion_refused (Text (kind_text Playlist) ∷ Text name ∷ []) 5 target_terms (of_target Playlist name) (target_test Playlist name) 3 placed_note refl refl s (statement_of delete_all_text (understood shelf_schema delete_all_text)) is is.notes.rise stop h

-- one change after another
pub carries_then : (first : Maps → Maps) (second : Maps → Maps) (was mid db : Database) → Carries (first (note_maps was.trees)) was mid → Carries (second (note_maps mid.trees)) mid db → Carries (second (first (note_maps was.trees))) was db
carries_then first second was mid db one two = record {
  shelf = two.shelf;
  maps = subst (λ m. Same (second m) (note_maps db.trees)) (sym (same_is _ _ one.maps)) two.maps;
  profile = two.profile ∙ one.profile;
  texts = λ held. two.texts (one.texts held);
}

pub removes_all : (name : List ℕ) (was mid db : Database) → RemovesRow name was mid → ClearsNotes name mid db → RemovesAll name was db
removes_all name was mid db one two = carries_then (λ m. with_list m name None) (λ m. with_stickers m Playlist name no_stickers) was mid db one.carries two.carries
