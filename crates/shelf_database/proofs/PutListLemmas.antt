-- What a put makes of the lists.
use Rattle.std.proofs.Common.{◌≡◌, ℕ, ℤ, List, [], ◌∷◌, Bool, true, false, not, ◌&&◌, ◌||◌, filter, cond, Some, None, Ok, refl, sym, ap, subst, ◌∙◌, IsTrue, arith}
use Rattle.std.specs.Ordering.{is_eq}
use Rattle.std.specs.Str.{IsUtf8}
use Rattle.sqlite.specs.declared.types.Value.{Value}
use Rattle.sqlite.specs.declared.types.Value.TheVariants.{Null, Int, Text}
use Rattle.sqlite.specs.Order.{Row, column, value_cmp}
use Rattle.sqlite.specs.Tree.{Trees, rowid, put_row}
use Rattle.sqlite.specs.Ops.{unary}
use Rattle.sqlite.specs.Kind.TheVariants.{Integer}
use Rattle.sqlite.specs.View.{is_int}
use Rattle.sqlite.specs.Cast.{cast, cast_row}
use Rattle.sqlite.specs.Term.{Term, lit, col}
use Rattle.sqlite.specs.Source.TheVariants.{Values}
use Rattle.sqlite.specs.Command.{Command}
use Rattle.sqlite.specs.Command.TheVariants.{InsertOr}
use Rattle.sqlite.specs.Rows.{Written, Tries, TriesEach, count_of, nothing}
use Rattle.sqlite.specs.Does.{Tally, Does}
use Rattle.sqlite.specs.Edit.{next_rowid, with_rowid}
use Rattle.sqlite.specs.Rowids.TheVariants.{Chosen}
use Rattle.sqlite.specs.Effect.{Database}
use Rattle.sqlite.specs.State.{State, mode_of}
use Rattle.sqlite.specs.Listing.{understood}
use Rattle.sqlite.proofs.Callers.{statement_of}
use Rattle.sqlite_value.specs.Keys.{first_key}
use Rattle.sqlite_schema.specs.declared.command.Conflict.TheVariants.{Replace}
use Rattle.sqlite_rules.specs.Keys.{conflicts}
use Rattle.sqlite_rules.proofs.PlaceLemmas.{next_is_free}
use Rattle.shelf.specs.Lines.{lines_of}
use Rattle.shelf.specs.Maps.{with_list}
use Rattle.shelf_database.specs.Tables.{shelf_schema, placed_list, note_maps, has_text, AreRows, IsText, HaveTexts, HoldsTexts, IsShelf}
use Rattle.shelf_database.proofs.Statements.{put_text}
use Rattle.shelf_database.proofs.DeleteLemmas.{went, same_value}
use Rattle.shelf_database.proofs.HoldsLemmas.{text_there, two_texts, put_texts, filtered_texts}
use Rattle.shelf_database.proofs.TextLemmas.{equal_text, list_put}
use Rattle.shelf_database.proofs.PutLemmas.{equal_id, task, tried}
use Rattle.shelf_database.proofs.WriteLemmas.{DoesSo}

either : (b : Bool) (x : Value) → cond b x x ≡ x
either true x = refl
either false x = refl

pub cast_null : cast Integer Null ≡ Null
unfolding unary
cast_null = either _ Null

pub cast_int : (n : ℤ) → cast Integer (Int n) ≡ Int n
unfolding unary
cast_int n = either _ (Int n)

abbrev new_row : ℤ → List ℕ → List ℕ → Row
new_row id name text = Int id ∷ Text name ∷ Text text ∷ []

cast_new : (id : ℤ) (name text : List ℕ) → cast_row placed_list (new_row id name text) ≡ new_row id name text
cast_new id name text = rw (cast_int id) refl

tidy : (a b : Bool) → ((a && true) || ((b && true) || false)) ≡ (a || b)
tidy true b = refl
tidy false true = refl
tidy false false = refl

conflict_is : (id : ℤ) (name text : List ℕ) (row : Row) → IsTrue (is_int (rowid row))
    → conflicts None shelf_schema.indexes placed_list (new_row id name text) row ≡ (is_eq (value_cmp (rowid row) (Int id)) || has_text 1 name row)
unfolding first_key
conflict_is id name text row keyed = rw (equal_id (rowid row) id keyed, equal_text (column row 1) name) (tidy (is_eq (value_cmp (rowid row) (Int id))) (has_text 1 name row))

abbrev pub list_values : List Term
list_values = lit Null ∷ col 0 0 ∷ col 0 1 ∷ []

-- the row with the key is replaced by one with these values
pub more_lists : (id a b : Value) (p : Row → Bool) (old now : Trees) → now 1 ≡ put_row (id ∷ a ∷ b ∷ []) (filter p (old 1)) → now 5 ≡ old 5 → (HoldsTexts old → IsText a) → (HoldsTexts old → IsText b)
    → HoldsTexts old → HoldsTexts now
more_lists id a b p old now put others first second texts = record {
  lists = subst (λ rows. HaveTexts (1 ∷ 2 ∷ []) rows) (sym put) (put_texts (1 ∷ 2 ∷ []) (id ∷ a ∷ b ∷ []) (filter p (old 1)) (two_texts id a b (first texts) (second texts)) (filtered_texts (1 ∷ 2 ∷ []) p (old 1) texts.lists));
  notes = subst (λ rows. HaveTexts (1 ∷ 2 ∷ 3 ∷ 4 ∷ []) rows) (sym others) texts.notes;
}

pub puts_list : (s : State) (name text : List ℕ) → IsUtf8 name → IsUtf8 text → IsShelf s.now → DoesSo s put_text (Text name ∷ Text text ∷ []) (InsertOr 1 Replace (Values list_values 3) []) (with_list (note_maps s.now.trees) name (Some (lines_of text)))
puts_list s name text name_utf8 text_utf8 shelf tally after h sound =
    let params : Row = Text name ∷ Text text ∷ [] in
    let command : Command = InsertOr 1 Replace (Values list_values 3) [] in
    let text_run : List ℕ = statement_of put_text (understood shelf_schema put_text) in
    let db = s.now.trees in
    let id = next_rowid (db 1) in
    let done = went (subst (λ schema. Does s.step_limit (mode_of s) params (record s.now { schema = schema }) text_run None command (Ok (tally, after))) shelf.schema h) in
    let now = ap (λ (p : Tally × Database). p.1) (same_value (went (went done.2).2).2) in
    let given = went done.1 in
    let counter = went given.2 in
    let tries = went counter.2 in
    let counted = went tries.2 in
    let each = subst (λ rows. TriesEach (task placed_list (λ olds news. refl) s.step_limit params (new_row id name text) (cast_new id name text) refl) Replace [] rows (count_of counter.0) (nothing db) (Ok tries.0)) given.1.1 tries.1 in
    let one = went each in
    let try = subst (λ v. Tries (task placed_list (λ olds news. refl) s.step_limit params (new_row id name text) (cast_new id name text) refl) Replace [] (with_rowid Chosen (db 1) (v ∷ Text name ∷ Text text ∷ [])) db (Ok one.0)) cast_null one.1 in
    let free = next_is_free Chosen (db 1) (Text name ∷ Text text ∷ []) shelf.lists.rise shelf.lists.keyed in
    let put = tried placed_list (λ olds news. refl) s.step_limit params (new_row id name text) (cast_new id name text) refl (has_text 1 name) (conflict_is id name text) db one.0 shelf.lists free try in
    let last : done.0.trees ≡ one.0.trees = ap (λ (it : Written). it.trees) (same_value counted.2) ∙ same_value counted.1 ∙ ap (λ (p : Written × ℤ). p.0.trees) (same_value one.2) in
    let trees : after.trees ≡ one.0.trees = ap (λ (d : Database). d.trees) now ∙ last in
    let others : after.trees 5 ≡ db 5 = ap (λ (t : Trees). t 5) trees ∙ put.others.1.1.1.0 (λ e. omega (arith, e)) in
    let lists : after.trees 1 ≡ one.0.trees 1 = ap (λ (t : Trees). t 1) trees in (
      record { schema = ap (λ (d : Database). d.schema) now; sound = sound; lists = subst AreRows (sym lists) put.are; notes = subst AreRows (sym others) shelf.notes },
      list_put name text (Int id) db after.trees put.fresh (lists ∙ put.rows) others,
      ap (λ (t : Trees). t 0) trees ∙ put.others.0 (λ e. omega (arith, e)),
      more_lists (Int id) (Text name) (Text text) (λ r. not (has_text 1 name r)) db after.trees (lists ∙ put.rows) others (λ _. text_there name name_utf8) (λ _. text_there text text_utf8),
    )
