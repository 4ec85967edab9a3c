-- What a rename makes of the lists: the row with the old name has the new one, at its own place.
use Rattle.std.proofs.Common.{◌≡◌, inl, inr, ℕ, List, [], ◌∷◌, map, filter, find, drop, true, false, not, ◌&&◌, Some, None, Option, option_map, is_some, bytes_eq, Ok, refl, sym, ap, subst, ◌∙◌, IsTrue, arith}
use Rattle.std.specs.List.{list_all}
use Rattle.std.specs.Str.{IsUtf8}
use Rattle.std.proofs.Math.Bool.{and-true}
use Rattle.std.proofs.lemmas.Bool.{cases_Bool, true≢false, not-true, and_parts, not_from_true, not_from_false}
use Rattle.std.proofs.lemmas.Slice.Eq.{bytes_eq-Decides}
use Rattle.sqlite.specs.declared.types.Value.{Value}
use Rattle.sqlite.specs.declared.types.Value.TheVariants.{Null, Int, Real, Text, Blob}
use Rattle.sqlite.specs.Order.{Row, column, bytes}
use Rattle.sqlite.specs.Tree.{Trees, rowid, put_row}
use Rattle.sqlite.specs.Kind.TheVariants as kind
use Rattle.sqlite.specs.View.{is_int}
use Rattle.sqlite.specs.Cast.{as_text, cast_row}
use Rattle.sqlite.specs.Term.{Term, col, holds}
use Rattle.sqlite.specs.Query.{Output}
use Rattle.sqlite.specs.Program.{overlay}
use Rattle.sqlite.specs.Command.{Command}
use Rattle.sqlite.specs.Command.TheVariants.{Update}
use Rattle.sqlite.specs.Rows.{Written, Edited}
use Rattle.sqlite.specs.Does.{Tally, Does}
use Rattle.sqlite.specs.Edit.{edit_of, id_in, is_taken, without_all}
use Rattle.sqlite.specs.Rowids.TheVariants.{Given}
use Rattle.sqlite.specs.Effect.{Database, IsDatabase}
use Rattle.sqlite.specs.State.{State, mode_of}
use Rattle.sqlite.specs.Listing.{understood}
use Rattle.sqlite.proofs.Callers.{statement_of, one_step, one_permutation}
use Rattle.sqlite_schema.specs.declared.schema.Keys.TheVariants.{Enforced}
use Rattle.sqlite_schema.specs.declared.schema.Constraint.TheVariants.{Datatype}
use Rattle.sqlite_schema.specs.Rules.{Keeps, are_typed, has_affinity}
use Rattle.sqlite_trees.proofs.TreeLemmas.{IsShaped-put_row}
use Rattle.sqlite_rules.specs.Calls.{ids_of}
use Rattle.sqlite_rules.specs.Lists.{Has}
use Rattle.sqlite_rules.proofs.ListLemmas.{all_has, has_found}
use Rattle.sqlite_rules.proofs.TableLemmas.{int_is}
use Rattle.shelf.specs.Lines.{lines_of}
use Rattle.shelf.specs.Maps.{Same}
use Rattle.shelf_database.specs.Moves.{HasNames, RenamesRow, with_moved_list}
use Rattle.shelf_database.specs.Tables.{shelf_schema, placed_list, note_maps, has_text, AreRows, IsShelf}
use Rattle.shelf_database.proofs.Statements.{over, equals, rename_text}
use Rattle.shelf_database.proofs.ReadLemmas.{IsRead, answer_is, shows}
use Rattle.shelf_database.proofs.DeleteLemmas.{went, same_value, left_are}
use Rattle.shelf_database.proofs.RemoveLemmas.{filtered_rows}
use Rattle.shelf_database.proofs.OnceLemmas.{found_once, once_list}
use Rattle.shelf_database.proofs.HoldsLemmas.{text_there}
use Rattle.shelf_database.proofs.PutListLemmas.{cast_int, more_lists}
use Rattle.shelf_database.proofs.FindLemmas.{find_past_put, find_put, find_kept, find_out}
use Rattle.shelf_database.proofs.TextLemmas.{equal_text, same_bytes, other_text, apart_back, same_true}

abbrev pub renamed : List ℕ → Row → Row
renamed new row = rowid row ∷ Text new ∷ column row 2 ∷ []

-- ---- the maps

module _ (name new : List ℕ) (old now : Trees) (row : Row) (found : find (has_text 1 name) (old 1) ≡ Some row) (free : find (has_text 1 new) (old 1) ≡ None)
    (fresh : is_taken (filter (λ r. not (has_text 1 name r)) (old 1)) (renamed new row) ≡ false)
    (put : now 1 ≡ put_row (renamed new row) (filter (λ r. not (has_text 1 name r)) (old 1))) (same : now 5 ≡ old 5) where
  abbrev left : List Row
  left = filter (λ r. not (has_text 1 name r)) (old 1)

  names_apart : bytes_eq new name ≡ false
  names_apart = elim (cases_Bool (bytes_eq new name)) [
    | inl is ↦ absurd (let e = sym found ∙ ap (λ n. find (has_text 1 n) (old 1)) (sym ((bytes_eq-Decides new name).0 is)) ∙ free in cc)
    | inr other ↦ other
  ]

  none_before : find (has_text 1 new) left ≡ None
  none_before = find_kept (has_text 1 new) (λ r. not (has_text 1 name r)) (old 1) (λ r h is. not_from_false _ (other_text 1 new name r is ∙ names_apart)) ∙ free

  pub list_renamed : Same (with_moved_list (note_maps old) name new) (note_maps now)
  list_renamed = record {
    lists = λ other. elim (cases_Bool (bytes_eq new other)) [
      | inl is ↦
          let none = subst (λ n. find (has_text 1 n) left ≡ None) ((bytes_eq-Decides new other).0 is) none_before in
          let here = find_put (has_text 1 other) (renamed new row) left (same_bytes new other ∙ is) none in
          rw (put, is) (rw (here, found) refl)
      | inr apart ↦
          let past = find_past_put (has_text 1 other) (renamed new row) left (same_bytes new other ∙ apart) fresh in
          elim (cases_Bool (bytes_eq name other)) [
            | inl gone ↦
                let none = find_out (has_text 1 other) (λ r. not (has_text 1 name r)) (old 1) (λ r h. not_from_true _ (other_text 1 other name r h ∙ same_true name other gone)) in
                rw (put, apart, gone) (rw (past, none) refl)
            | inr stays ↦
                let kept = find_kept (has_text 1 other) (λ r. not (has_text 1 name r)) (old 1) (λ r h is. not_from_false _ (other_text 1 other name r is ∙ apart_back name other stays)) in
                rw (put, apart, stays) (rw (past, kept) refl)
          ]
    ];
    stickers = λ kind target n. rw same refl;
  }

-- ---- the row

pub kept_text : (v : Value) → has_affinity kind.Text v ≡ true → as_text v ≡ v
kept_text Null h = refl
kept_text (Int n) h = absurd (true≢false (sym h))
kept_text (Real x) h = absurd (true≢false (sym h))
kept_text (Text t) h = refl
kept_text (Blob b) h = refl

kept_uris : (row : Row) → are_typed None 0 placed_list.columns (drop 1 row) ≡ true → as_text (column row 2) ≡ column row 2
kept_uris [] h = refl
kept_uris (id ∷ []) h = refl
kept_uris (id ∷ name ∷ []) h = refl
kept_uris (id ∷ name ∷ uris ∷ more) h = kept_text uris (and_parts _ _ (and_parts _ _ h).1).0

-- a text column has no number, so a cast leaves the URIs as they are
uris_kept : (db : Database) (row : Row) → IsShelf db → Has (db.trees 1) row → as_text (column row 2) ≡ column row 2
uris_kept db row is h =
    let rules : Keeps Datatype shelf_schema db.trees = subst (λ s. Keeps Datatype s db.trees) is.schema (is.sound.obeys.rules Datatype) in
    let passed : (are_typed None 0 placed_list.columns (drop 1 row) && true) ≡ true = all_has _ (db.trees 1) row rules.1.0 h in
    kept_uris row (and_parts _ _ passed).0

abbrev pub wide : List ℕ → Row → Row
wide new row = rowid row ∷ renamed new row

pub cast_wide : (new : List ℕ) (db : Database) (row : Row) → IsShelf db → Has (db.trees 1) row → cast_row placed_list (drop 1 (wide new row)) ≡ renamed new row
cast_wide new db row is h =
    let key = int_is (rowid row) (all_has _ (db.trees 1) row is.lists.keyed h) in
    rw (key, cast_int (id_in (rowid row)), uris_kept db row is h) refl

-- ---- the statement

abbrev pub wide_terms : List Term
wide_terms = col 1 0 ∷ col 1 0 ∷ col 0 1 ∷ col 1 2 ∷ []

abbrev pub renaming : Command
renaming = Update 1 (record { lets = []; body = over 1 (equals 1 0 ∷ []) wide_terms [] })

pub first_test : (name new : List ℕ) (row : Row) → list_all (holds ((Text name ∷ Text new ∷ []) ∷ row ∷ [])) (equals 1 0 ∷ []) ≡ has_text 1 name row
first_test name new row = rw (equal_text (column row 1) name) (and-true (has_text 1 name row))

module _ (s : State) (name new : List ℕ) (row : Row) (is : IsShelf s.now) (found : find (has_text 1 name) (s.now.trees 1) ≡ Some row) where
  abbrev params : Row
  params = Text name ∷ Text new ∷ []

  abbrev db : Trees
  db = s.now.trees

  alone : filter (has_text 1 name) (db 1) ≡ row ∷ []
  alone = rw found at (found_once (has_text 1 name) (db 1) is.lists.rise (once_list name s.now is))

  pub one_wide : (rows : List Row) → IsRead params 1 (equals 1 0 ∷ []) wide_terms [] (has_text 1 name) (first_test name new) (filter (has_text 1 name) (db 1)) rows → rows ≡ wide new row ∷ []
  one_wide rows read =
      let one = subst (λ found. IsRead params 1 (equals 1 0 ∷ []) wide_terms [] (has_text 1 name) (first_test name new) found rows) alone read in
      one.shown ∙ ap (map (λ (o : Output). o.1)) (one_permutation (shows params 1 (equals 1 0 ∷ []) wide_terms [] (has_text 1 name) (first_test name new) row) one.sorted one.same)

  pub left_by_name : without_all (db 1) (id_in (rowid row) ∷ []) ≡ filter (λ r. not (has_text 1 name r)) (db 1)
  left_by_name = left_are (db 1) is.lists (has_text 1 name) (id_in (rowid row) ∷ [])
      (λ id h. elim h [ inl same ↦ (row, subst (λ xs. Has xs row) (sym alone) (inl refl), same) | inr none ↦ absurd none ])
      (λ r h. elim (subst (λ xs. Has xs r) alone h) [ inl same ↦ inl (ap (λ x. id_in (rowid x)) same) | inr none ↦ absurd none ])

  pub record Renames (now : Trees) : Type 0 where
    pub are : AreRows (now 1)
    pub fresh : is_taken (filter (λ r. not (has_text 1 name r)) (db 1)) (renamed new row) ≡ false
    pub rows : now 1 ≡ put_row (renamed new row) (filter (λ r. not (has_text 1 name r)) (db 1))
    pub others : now 5 ≡ db 5
    pub number : now 0 ≡ db 0

  edits : (now : Trees) → Edited shelf_schema Enforced db (edit_of db placed_list (ids_of (wide new row ∷ [])) Given 1 (wide new row ∷ [])) (Ok now) → Renames now
  edits now h =
      let edit = edit_of db placed_list (ids_of (wide new row ∷ [])) Given 1 (wide new row ∷ []) in
      let applies = one_step shelf_schema Enforced db now edit refl h in
      let has = (has_found (has_text 1 name) (db 1) row found).0 in
      let cast = cast_wide new s.now row is has in
      let left : List Row = filter (λ r. not (has_text 1 name r)) (db 1) in
      let put : now 1 ≡ put_row (cast_row placed_list (drop 1 (wide new row))) (without_all (db 1) (id_in (rowid row) ∷ [])) = applies.rows in
      let rows : now 1 ≡ put_row (renamed new row) left = put ∙ ap (λ r. put_row r (without_all (db 1) (id_in (rowid row) ∷ []))) cast ∙ ap (put_row (renamed new row)) left_by_name in
      let fresh : (not (is_taken (without_all (db 1) (id_in (rowid row) ∷ [])) (cast_row placed_list (drop 1 (wide new row)))) && true) ≡ true = applies.fresh in
      let free : is_taken (without_all (db 1) (id_in (rowid row) ∷ [])) (cast_row placed_list (drop 1 (wide new row))) ≡ false = not-true _ (and_parts _ _ fresh).0 in
      let kept = filtered_rows (λ r. not (has_text 1 name r)) (db 1) is.lists in
      let keyed : IsTrue (is_int (rowid (renamed new row))) = all_has _ (db 1) row is.lists.keyed has in
      let shaped = IsShaped-put_row (renamed new row) left keyed (kept.rise, kept.keyed) in
      record {
        are = subst AreRows (sym rows) (record { rise = shaped.0; keyed = shaped.1 });
        fresh = subst (λ xs. is_taken xs (renamed new row) ≡ false) left_by_name (subst (λ r. is_taken (without_all (db 1) (id_in (rowid row) ∷ [])) r ≡ false) cast free);
        rows = rows;
        others = applies.tables.1.1.1.0 (λ e. omega (arith, e));
        number = applies.tables.0 (λ e. omega (arith, e));
      }

  pub renames_row : IsUtf8 new → find (has_text 1 new) (db 1) ≡ None → (tally : Tally) (after : Database)
      → Does s.step_limit (mode_of s) params s.now (statement_of rename_text (understood shelf_schema rename_text)) None renaming (Ok (tally, after)) → IsDatabase after → RenamesRow name new s.now after
  renames_row utf8 free tally after h sound =
      let run : List ℕ = statement_of rename_text (understood shelf_schema rename_text) in
      let done = went (subst (λ schema. Does s.step_limit (mode_of s) params (record s.now { schema = schema }) run None renaming (Ok (tally, after))) is.schema h) in
      let now = ap (λ (p : Tally × Database). p.1) (same_value (went (went done.2).2).2) in
      let given = went done.1 in
      let read = answer_is params 1 (equals 1 0 ∷ []) wide_terms [] (has_text 1 name) (first_test name new) (overlay db []) given.0 (given.1.answer Null) in
      let step = went given.2 in
      let rows = one_wide given.0 read in
      let made = edits step.0 (subst (λ xs. Edited shelf_schema Enforced db (edit_of db placed_list (ids_of xs) Given 1 xs) (Ok step.0)) rows step.1) in
      let trees : after.trees ≡ step.0 = ap (λ (d : Database). d.trees) now ∙ ap (λ (w : Written). w.trees) (same_value step.2) in
      let lists : after.trees 1 ≡ step.0 1 = ap (λ (t : Trees). t 1) trees in
      let others : after.trees 5 ≡ db 5 = ap (λ (t : Trees). t 5) trees ∙ made.others in
      record {
        carries = record {
          shelf = record { schema = ap (λ (d : Database). d.schema) now; sound = sound; lists = subst AreRows (sym lists) made.are; notes = subst AreRows (sym others) is.notes };
          maps = list_renamed name new db after.trees row found free made.fresh (lists ∙ made.rows) others;
          profile = ap (λ (t : Trees). t 0) trees ∙ made.number;
          texts = more_lists (rowid row) (Text new) (column row 2) (λ r. not (has_text 1 name r)) db after.trees (lists ∙ made.rows) others (λ _. text_there new utf8)
              (λ texts. texts.lists row (has_found (has_text 1 name) (db 1) row found).0 2 (inr (inl refl)));
        };
        notes = others;
      }

pub row_there : (o : Option Row) → is_some (option_map lines_of (option_map (λ r. bytes (column r 2)) o)) ≡ true → (row : Row) × (o ≡ Some row)
row_there None is = absurd (true≢false (sym is))
row_there (Some row) is = (row, refl)

pub row_missing : (o : Option Row) → is_some (option_map lines_of (option_map (λ r. bytes (column r 2)) o)) ≡ false → o ≡ None
row_missing None is = refl
row_missing (Some row) is = absurd (true≢false is)

pub renames_list : (s : State) (name new : List ℕ) → HasNames name new s.now → IsUtf8 new → (tally : Tally) (after : Database)
    → Does s.step_limit (mode_of s) (Text name ∷ Text new ∷ []) s.now (statement_of rename_text (understood shelf_schema rename_text)) None renaming (Ok (tally, after)) → IsDatabase after → RenamesRow name new s.now after
renames_list s name new has utf8 =
    let found = row_there (find (has_text 1 name) (s.now.trees 1)) has.there in
    renames_row s name new found.0 has.shelf found.1 utf8 (row_missing (find (has_text 1 new) (s.now.trees 1)) has.free)
