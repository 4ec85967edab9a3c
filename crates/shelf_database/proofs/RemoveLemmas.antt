-- What each deletion makes of the maps.
use Rattle.std.proofs.Common.{◌≡◌, ℕ, List, [], ◌∷◌, filter, Bool, not, None, Ok, refl, sym, subst, arith}
use Rattle.sqlite.specs.declared.types.Value.TheVariants.{Text}
use Rattle.sqlite.specs.Order.{Row}
use Rattle.sqlite.specs.Tree.{Trees}
use Rattle.sqlite.specs.Effect.{Database, IsDatabase}
use Rattle.sqlite.specs.Does.{Tally, Does}
use Rattle.sqlite.specs.Listing.{understood}
use Rattle.sqlite.specs.State.{State, mode_of}
use Rattle.sqlite.proofs.Callers.{statement_of}
use Rattle.sqlite_trees.proofs.TreeLemmas.{IsShaped-filter}
use Rattle.sqlite_trees.specs.declared.store.Shape.TheVariants as shape
use Rattle.shelf.specs.Maps.{Same, with_list, with_sticker, with_stickers, no_stickers}
use Rattle.shelf.specs.declared.kinds.StickerKind.{StickerKind}
use Rattle.shelf_database.specs.Tables.{shelf_schema, placed_list, placed_note, kind_text, note_maps, has_text, has_key, of_target, AreRows, HaveTexts, HoldsTexts, IsShelf}
use Rattle.shelf_database.proofs.Statements.{equals, key_terms, target_terms, remove_text, delete_text, delete_all_text}
use Rattle.shelf_database.proofs.DeleteLemmas.{deletion, deletes}
use Rattle.shelf_database.proofs.HoldsLemmas.{filtered_texts}
use Rattle.shelf_database.proofs.TextLemmas.{one_test, target_test, key_test, list_removed, note_deleted, all_deleted}
use Rattle.shelf_database.proofs.WriteLemmas.{DoesSo}

pub filtered_rows : (p : Row → Bool) (rows : List Row) → AreRows rows → AreRows (filter p rows)
filtered_rows p rows are = let shaped = IsShaped-filter shape.Table p rows (are.rise, are.keyed) in record { rise = shaped.0; keyed = shaped.1 }

-- the rows that are left of one table, and the other table as it was
fewer_lists : (p : Row → Bool) (old now : Trees) → now 1 ≡ filter p (old 1) → now 5 ≡ old 5 → HoldsTexts old → HoldsTexts now
fewer_lists p old now left others texts = record {
  lists = subst (λ rows. HaveTexts (1 ∷ 2 ∷ []) rows) (sym left) (filtered_texts (1 ∷ 2 ∷ []) p (old 1) texts.lists);
  notes = subst (λ rows. HaveTexts (1 ∷ 2 ∷ 3 ∷ 4 ∷ []) rows) (sym others) texts.notes;
}

fewer_notes : (p : Row → Bool) (old now : Trees) → now 5 ≡ filter p (old 5) → now 1 ≡ old 1 → HoldsTexts old → HoldsTexts now
fewer_notes p old now left others texts = record {
  lists = subst (λ rows. HaveTexts (1 ∷ 2 ∷ []) rows) (sym others) texts.lists;
  notes = subst (λ rows. HaveTexts (1 ∷ 2 ∷ 3 ∷ 4 ∷ []) rows) (sym left) (filtered_texts (1 ∷ 2 ∷ 3 ∷ 4 ∷ []) p (old 5) texts.notes);
}

pub removes_list : (s : State) (name : List ℕ) → IsShelf s.now
    → DoesSo s remove_text (Text name ∷ []) (deletion (Text name ∷ []) 1 (equals 1 0 ∷ []) (has_text 1 name) (one_test 1 name) 1) (with_list (note_maps s.now.trees) name None)
removes_list s name shelf tally after h sound =
    let run : List ℕ = statement_of remove_text (understood shelf_schema remove_text) in
    let out = deletes (Text name ∷ []) 1 (equals 1 0 ∷ []) (has_text 1 name) (one_test 1 name) 1 placed_list refl refl (λ olds. refl) (λ db. refl) s s.step_limit s.now after run tally shelf.schema shelf.lists h in
    let others : after.trees 5 ≡ s.now.trees 5 = out.others.1.1.1.0 (λ e. omega (arith, e)) in (
      record { schema = out.schema; sound = sound; lists = subst AreRows (sym out.rows) (filtered_rows _ _ shelf.lists); notes = subst AreRows (sym others) shelf.notes },
      list_removed name s.now.trees after.trees out.rows others,
      out.others.0 (λ e. omega (arith, e)),
      fewer_lists (λ r. not (has_text 1 name r)) s.now.trees after.trees out.rows others,
    )

module _ (s : State) (kind : StickerKind) (target : List ℕ) (is : IsShelf s.now) where
  abbrev params_of : Row
  params_of = Text (kind_text kind) ∷ Text target ∷ []

  pub deletes_note : (name : List ℕ)
      → DoesSo s delete_text (Text (kind_text kind) ∷ Text target ∷ Text name ∷ []) (deletion (Text (kind_text kind) ∷ Text target ∷ Text name ∷ []) 5 key_terms (has_key kind target name) (key_test kind target name) 3) (with_sticker (note_maps s.now.trees) kind target name None)
  deletes_note name tally after h sound =
      let run : List ℕ = statement_of delete_text (understood shelf_schema delete_text) in
      let out = deletes (Text (kind_text kind) ∷ Text target ∷ Text name ∷ []) 5 key_terms (has_key kind target name) (key_test kind target name) 3 placed_note refl refl (λ olds. refl) (λ db. refl) s s.step_limit s.now after run tally is.schema is.notes h in
      let others : after.trees 1 ≡ s.now.trees 1 = out.others.1.0 (λ e. omega (arith, e)) in (
        record { schema = out.schema; sound = sound; lists = subst AreRows (sym others) is.lists; notes = subst AreRows (sym out.rows) (filtered_rows _ _ is.notes) },
        note_deleted kind target name s.now.trees after.trees out.rows others,
        out.others.0 (λ e. omega (arith, e)),
        fewer_notes (λ r. not (has_key kind target name r)) s.now.trees after.trees out.rows others,
      )

  -- the rows of the target go, and the others stay
  pub record ClearsTarget (after : Database) : Type 0 where
    pub shelf : IsShelf after
    pub rows : after.trees 5 ≡ filter (λ r. not (of_target kind target r)) (s.now.trees 5)
    pub lists : after.trees 1 ≡ s.now.trees 1
    pub profile : after.trees 0 ≡ s.now.trees 0
    pub maps : Same (with_stickers (note_maps s.now.trees) kind target no_stickers) (note_maps after.trees)
    pub texts : HoldsTexts s.now.trees → HoldsTexts after.trees

  pub clears_target : (tally : Tally) (after : Database)
      → Does s.step_limit (mode_of s) params_of s.now (statement_of delete_all_text (understood shelf_schema delete_all_text)) None (deletion params_of 5 target_terms (of_target kind target) (target_test kind target) 3) (Ok (tally, after))
      → IsDatabase after → ClearsTarget after
  clears_target tally after h sound =
      let run : List ℕ = statement_of delete_all_text (understood shelf_schema delete_all_text) in
      let out = deletes params_of 5 target_terms (of_target kind target) (target_test kind target) 3 placed_note refl refl (λ olds. refl) (λ db. refl) s s.step_limit s.now after run tally is.schema is.notes h in
      let others : after.trees 1 ≡ s.now.trees 1 = out.others.1.0 (λ e. omega (arith, e)) in
      record {
        shelf = record { schema = out.schema; sound = sound; lists = subst AreRows (sym others) is.lists; notes = subst AreRows (sym out.rows) (filtered_rows _ _ is.notes) };
        rows = out.rows;
        lists = others;
        profile = out.others.0 (λ e. omega (arith, e));
        maps = all_deleted kind target s.now.trees after.trees out.rows others;
        texts = fewer_notes (λ r. not (of_target kind target r)) s.now.trees after.trees out.rows others;
      }

  pub deletes_all : DoesSo s delete_all_text params_of (deletion params_of 5 target_terms (of_target kind target) (target_test kind target) 3) (with_stickers (note_maps s.now.trees) kind target no_stickers)
  deletes_all tally after h sound = let out = clears_target tally after h sound in (out.shelf, out.maps, out.profile, out.texts)
