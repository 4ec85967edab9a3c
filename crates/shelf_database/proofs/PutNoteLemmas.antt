-- What setting a sticker makes of the stickers.
use Rattle.std.proofs.Common.{codes, ◌≡◌, ℕ, ℤ, List, [], ◌∷◌, Bool, true, false, not, ◌&&◌, ◌||◌, filter, Some, None, Ok, refl, sym, ap, subst, ◌∙◌, IsTrue, arith}
use Rattle.std.specs.Ordering.{is_eq}
use Rattle.std.specs.Str.{IsUtf8}
use Rattle.sqlite.specs.declared.types.Value.TheVariants.{Int, Text}
use Rattle.sqlite.specs.Order.{Row, column, value_cmp}
use Rattle.sqlite.specs.Tree.{Trees, rowid, put_row}
use Rattle.sqlite.specs.View.{is_int}
use Rattle.sqlite.specs.Cast.{cast_row}
use Rattle.sqlite.specs.Source.TheVariants.{Values}
use Rattle.sqlite.specs.Command.{Command}
use Rattle.sqlite.specs.Command.TheVariants.{InsertOr}
use Rattle.sqlite.specs.Rows.{Written, Tries, TriesEach, count_of, nothing}
use Rattle.sqlite.specs.Does.{Tally, Does}
use Rattle.sqlite.specs.Edit.{next_rowid, with_rowid}
use Rattle.sqlite.specs.Rowids.TheVariants.{Chosen}
use Rattle.sqlite.specs.Effect.{Database}
use Rattle.sqlite.specs.State.{State, mode_of}
use Rattle.sqlite.specs.Listing.{understood}
use Rattle.sqlite.proofs.Callers.{statement_of}
use Rattle.sqlite_value.specs.Keys.{first_key}
use Rattle.sqlite_schema.specs.declared.command.Conflict.TheVariants.{Replace}
use Rattle.sqlite_rules.specs.Keys.{conflicts}
use Rattle.sqlite_rules.proofs.PlaceLemmas.{next_is_free}
use Rattle.shelf.specs.Maps.{with_sticker}
use Rattle.shelf.specs.declared.kinds.StickerKind.{StickerKind}
use Rattle.shelf.specs.declared.kinds.StickerKind.TheVariants.{Song, Playlist}
use Rattle.shelf_database.specs.Tables.{has_key, kind_text, shelf_schema, placed_note, note_maps, has_text, AreRows, HaveTexts, HoldsTexts, IsShelf}
use Rattle.shelf_database.proofs.Statements.{note_values, set_text}
use Rattle.shelf_database.proofs.DeleteLemmas.{went, same_value}
use Rattle.shelf_database.proofs.HoldsLemmas.{text_there, four_texts, put_texts, filtered_texts}
use Rattle.shelf_database.proofs.TextLemmas.{equal_text, note_put}
use Rattle.shelf_database.proofs.PutLemmas.{equal_id, task, tried}
use Rattle.shelf_database.proofs.WriteLemmas.{DoesSo}
use Rattle.shelf_database.proofs.PutListLemmas.{cast_null, cast_int}

abbrev new_row : ℤ → StickerKind → List ℕ → List ℕ → List ℕ → Row
new_row id kind target name text = Int id ∷ Text (kind_text kind) ∷ Text target ∷ Text name ∷ Text text ∷ []

cast_new : (id : ℤ) (kind : StickerKind) (target name text : List ℕ) → cast_row placed_note (new_row id kind target name text) ≡ new_row id kind target name text
cast_new id kind target name text = rw (cast_int id) refl

tidy : (a b c d : Bool) → ((a && true) || ((b && (c && (d && true))) || false)) ≡ (a || (b && (c && d)))
tidy true b c d = refl
tidy false true true true = refl
tidy false true true false = refl
tidy false true false d = refl
tidy false false c d = refl

conflict_is : (id : ℤ) (kind : StickerKind) (target name text : List ℕ) (row : Row) → IsTrue (is_int (rowid row))
    → conflicts None shelf_schema.indexes placed_note (new_row id kind target name text) row ≡ (is_eq (value_cmp (rowid row) (Int id)) || has_key kind target name row)
unfolding first_key
conflict_is id kind target name text row keyed =
    rw (equal_id (rowid row) id keyed, equal_text (column row 1) (kind_text kind), equal_text (column row 2) target, equal_text (column row 3) name)
    (tidy (is_eq (value_cmp (rowid row) (Int id))) (has_text 1 (kind_text kind) row) (has_text 2 target row) (has_text 3 name row))

-- a kind is written in text
pub kind_utf8 : (kind : StickerKind) → IsUtf8 (kind_text kind)
unfolding lib.Utf8.encode
kind_utf8 Song = (codes "song", (refl, refl))
kind_utf8 Playlist = (codes "playlist", (refl, refl))

-- the row with the key is replaced by one with these texts
more_notes : (id : ℤ) (kind : StickerKind) (target name text : List ℕ) → IsUtf8 target → IsUtf8 name → IsUtf8 text → (p : Row → Bool) (old now : Trees) → now 5 ≡ put_row (new_row id kind target name text) (filter p (old 5)) → now 1 ≡ old 1
    → HoldsTexts old → HoldsTexts now
more_notes id kind target name text first second third p old now put others texts = record {
  lists = subst (λ rows. HaveTexts (1 ∷ 2 ∷ []) rows) (sym others) texts.lists;
  notes = subst (λ rows. HaveTexts (1 ∷ 2 ∷ 3 ∷ 4 ∷ []) rows) (sym put) (put_texts (1 ∷ 2 ∷ 3 ∷ 4 ∷ []) (new_row id kind target name text) (filter p (old 5))
      (four_texts (Int id) (Text (kind_text kind)) (Text target) (Text name) (Text text) (text_there (kind_text kind) (kind_utf8 kind)) (text_there target first) (text_there name second) (text_there text third))
      (filtered_texts (1 ∷ 2 ∷ 3 ∷ 4 ∷ []) p (old 5) texts.notes));
}

pub puts_note : (s : State) (kind : StickerKind) (target name text : List ℕ) → IsUtf8 target → IsUtf8 name → IsUtf8 text → IsShelf s.now
    → DoesSo s set_text (Text (kind_text kind) ∷ Text target ∷ Text name ∷ Text text ∷ []) (InsertOr 3 Replace (Values note_values 5) []) (with_sticker (note_maps s.now.trees) kind target name (Some text))
puts_note s kind target name text target_utf8 name_utf8 text_utf8 shelf tally after h sound =
    let word : List ℕ = kind_text kind in
    let params : Row = Text word ∷ Text target ∷ Text name ∷ Text text ∷ [] in
    let command : Command = InsertOr 3 Replace (Values note_values 5) [] in
    let text_run : List ℕ = statement_of set_text (understood shelf_schema set_text) in
    let db = s.now.trees in
    let id = next_rowid (db 5) in
    let new : Row = new_row id kind target name text in
    let the_task = task placed_note (λ olds news. refl) s.step_limit params new (cast_new id kind target name text) refl in
    let done = went (subst (λ schema. Does s.step_limit (mode_of s) params (record s.now { schema = schema }) text_run None command (Ok (tally, after))) shelf.schema h) in
    let now = ap (λ (p : Tally × Database). p.1) (same_value (went (went done.2).2).2) in
    let given = went done.1 in
    let counter = went given.2 in
    let tries = went counter.2 in
    let counted = went tries.2 in
    let each = subst (λ rows. TriesEach the_task Replace [] rows (count_of counter.0) (nothing db) (Ok tries.0)) given.1.1 tries.1 in
    let one = went each in
    let try = subst (λ v. Tries the_task Replace [] (with_rowid Chosen (db 5) (v ∷ Text word ∷ Text target ∷ Text name ∷ Text text ∷ [])) db (Ok one.0)) cast_null one.1 in
    let free = next_is_free Chosen (db 5) params shelf.notes.rise shelf.notes.keyed in
    let put = tried placed_note (λ olds news. refl) s.step_limit params new (cast_new id kind target name text) refl (has_key kind target name) (conflict_is id kind target name text) db one.0 shelf.notes free try in
    let last : done.0.trees ≡ one.0.trees = ap (λ (it : Written). it.trees) (same_value counted.2) ∙ same_value counted.1 ∙ ap (λ (p : Written × ℤ). p.0.trees) (same_value one.2) in
    let trees : after.trees ≡ one.0.trees = ap (λ (d : Database). d.trees) now ∙ last in
    let others : after.trees 1 ≡ db 1 = ap (λ (t : Trees). t 1) trees ∙ put.others.1.0 (λ e. omega (arith, e)) in
    let notes : after.trees 5 ≡ one.0.trees 5 = ap (λ (t : Trees). t 5) trees in (
      record { schema = ap (λ (d : Database). d.schema) now; sound = sound; lists = subst AreRows (sym others) shelf.lists; notes = subst AreRows (sym notes) put.are },
      note_put kind target name text (Int id) db after.trees put.fresh (notes ∙ put.rows) others,
      ap (λ (t : Trees). t 0) trees ∙ put.others.0 (λ e. omega (arith, e)),
      more_notes id kind target name text target_utf8 name_utf8 text_utf8 (λ r. not (has_key kind target name r)) db after.trees (notes ∙ put.rows) others,
    )
