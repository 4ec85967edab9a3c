-- The statements that make the tables of a shelf: what their texts mean, and what they make.
use Rattle.std.proofs.Common.{◌≡◌, ℕ, pos, List, [], ◌∷◌, map, filter, drop, None, Option, Ok, codes, true, refl, ap, subst, ◌∙◌, arith}
use Rattle.sqlite.specs.declared.types.Value.TheVariants.{Null, Int}
use Rattle.std.specs.List.Sorted.{IsPermutation}
use Rattle.std.proofs.lemmas.List.Sorted.{length_permutation}
use Rattle.sqlite.specs.Order.{Row}
use Rattle.sqlite.specs.Query.{IsAnswer, Output}
use Rattle.sqlite.specs.Program.{overlay}
use Rattle.sqlite.specs.Tree.{Trees}
use Rattle.sqlite.specs.Term.{Term, lit, col}
use Rattle.sqlite.specs.Source.TheVariants.{Values}
use Rattle.sqlite.specs.Command.TheVariants.{Insert, CreateTable}
use Rattle.sqlite.specs.Effect.{Database, IsDatabase}
use Rattle.sqlite.specs.Does.{Tally, Does}
use Rattle.sqlite.specs.declared.run.Mode.{Mode}
use Rattle.sqlite.specs.Rows.{Written}
use Rattle.sqlite.specs.Table.{Table}
use Rattle.sqlite.specs.Cast.{cast_row}
use Rattle.sqlite.specs.Edit.{edit_of, numbered, put_all, without_all}
use Rattle.sqlite.specs.Rowids.TheVariants.{Chosen}
use Rattle.sqlite.specs.Compile.{table_defined_by}
use Rattle.sqlite.specs.Listing.{understood}
use Rattle.sqlite.proofs.Callers.{statement_of, one_step, one_permutation}
use Rattle.sqlite_tied.specs.Compute.{everything}
use Rattle.shelf_database.specs.Tables.{no_schema, former_schema, shelf_schema, profile_table, list_table, sticker_table, note_table, number_of, profile_number}
use Rattle.shelf_database.specs.Opens.{number_query, profile_schema, list_schema, HasNothing, HasProfile, HasLists, HasStickers, HasFormer, MakesNotes, HasNoNumber, NotesNumber}
use Rattle.shelf_database.proofs.DeleteLemmas.{went, same_value}
use Rattle.shelf_database.proofs.MakingLemmas.{Means, Does-so, creates}
use Rattle.shelf_database.proofs.ReadLemmas.{IsRead, answer_is, shows}
use Rattle.shelf_database.proofs.PutListLemmas.{cast_int, cast_null}
use Rattle.shelf_database.proofs.Statements.{profile_is, list_is, sticker_is, note_is, Reading, ReadingIn, over}

abbrev pub profile_text : List ℕ
profile_text = codes "CREATE TABLE profile (one INTEGER PRIMARY KEY CHECK (one = 1), number INTEGER NOT NULL)"

abbrev pub number_text : List ℕ
number_text = codes "INSERT INTO profile (one, number) VALUES (1, 2)"

abbrev pub list_text : List ℕ
list_text = codes "CREATE TABLE list (name TEXT NOT NULL PRIMARY KEY, uris TEXT NOT NULL)"

abbrev pub sticker_text : List ℕ
sticker_text = codes "CREATE TABLE sticker (uri TEXT NOT NULL, name TEXT NOT NULL, value TEXT NOT NULL, PRIMARY KEY (uri, name))"

abbrev pub note_text : List ℕ
note_text = codes "CREATE TABLE note (kind TEXT NOT NULL, target TEXT NOT NULL, name TEXT NOT NULL, value TEXT NOT NULL, PRIMARY KEY (kind, target, name))"

pub profile_means : Means no_schema profile_text CreateTable
unfolding understood everything
profile_means = (refl, (refl, refl))

pub profile_said : statement_of profile_text (understood no_schema profile_text) ≡ profile_text
unfolding understood everything
profile_said = refl

abbrev pub one_row : List Term
one_row = lit (Int (pos 1)) ∷ lit Null ∷ lit (Int (pos 2)) ∷ []

pub number_means : Means shelf_schema number_text (Insert 0 (Values one_row 3))
unfolding understood everything
number_means = (refl, (refl, refl))

pub list_means : Means profile_schema list_text CreateTable
unfolding understood everything
list_means = (refl, (refl, refl))

pub list_said : statement_of list_text (understood profile_schema list_text) ≡ list_text
unfolding understood everything
list_said = refl

pub sticker_means : Means list_schema sticker_text CreateTable
unfolding understood everything
sticker_means = (refl, (refl, refl))

pub sticker_said : statement_of sticker_text (understood list_schema sticker_text) ≡ sticker_text
unfolding understood everything
sticker_said = refl

pub note_means : Means former_schema note_text CreateTable
unfolding understood everything
note_means = (refl, (refl, refl))

pub note_said : statement_of note_text (understood former_schema note_text) ≡ note_text
unfolding understood everything
note_said = refl

pub makes_profile : Does-so HasNothing HasProfile (statement_of profile_text (understood no_schema profile_text)) CreateTable
makes_profile limit mode tally before after has h sound =
    let made = creates _ profile_table limit mode tally before after (ap table_defined_by profile_said ∙ profile_is) (rw has refl) h in
    (made.schema ∙ rw has refl, rw has at made.empty)

pub makes_lists : Does-so HasProfile HasLists (statement_of list_text (understood profile_schema list_text)) CreateTable
makes_lists limit mode tally before after has h sound =
    let made = creates _ list_table limit mode tally before after (ap table_defined_by list_said ∙ list_is) (rw (has.0) refl) h in
    let others = rw (has.0) at made.others in
    (made.schema ∙ rw (has.0) refl, others.0 ∙ has.1, rw (has.0) at made.empty)

pub makes_stickers : Does-so HasLists HasStickers (statement_of sticker_text (understood list_schema sticker_text)) CreateTable
makes_stickers limit mode tally before after has h sound =
    let made = creates _ sticker_table limit mode tally before after (ap table_defined_by sticker_said ∙ sticker_is) (rw (has.0) refl) h in
    let others = rw (has.0) at made.others in
    (made.schema ∙ rw (has.0) refl, others.0 ∙ has.1, others.1.0 ∙ has.2, rw (has.0) at made.empty)

pub makes_notes : (limit : Option ℕ) (mode : Mode) (tally : Tally) (before after : Database) → HasFormer before
    → Does limit mode [] before (statement_of note_text (understood former_schema note_text)) None CreateTable (Ok (tally, after)) → IsDatabase after → MakesNotes before after
makes_notes limit mode tally before after has h sound =
    let made = creates _ note_table limit mode tally before after (ap table_defined_by note_said ∙ note_is) (rw has refl) h in
    let others = rw has at made.others in
    record { schema = made.schema ∙ rw has refl; sound = sound; profile = others.0; lists = others.1.0; stickers = others.1.1.0; notes = rw has at made.empty }

abbrev pub first_row : Row
first_row = Int (pos 1) ∷ Null ∷ Int (pos 2) ∷ []

pub cast_first : cast_row profile_table first_row ≡ first_row
cast_first = rw (cast_int (pos 1), cast_null, cast_int (pos 2)) refl

numbered_first : (c : Row) → c ≡ first_row → put_all [] (numbered Chosen [] (c ∷ [])) ≡ first_row ∷ []
numbered_first c is = rw is refl

first_rows : (old rows : List Row) → old ≡ [] → rows ≡ first_row ∷ [] → put_all (without_all old []) (numbered Chosen (without_all old []) (map (λ s. cast_row profile_table (drop 0 s)) rows)) ≡ first_row ∷ []
first_rows old rows empty is = rw (empty, is) (numbered_first (cast_row profile_table first_row) cast_first)

abbrev pub placed_profile : Table
placed_profile = record profile_table { tree = 0 }

pub notes_number : (limit : Option ℕ) (mode : Mode) (tally : Tally) (before after : Database) → HasNoNumber before
    → Does limit mode [] before (statement_of number_text (understood shelf_schema number_text)) None (Insert 0 (Values one_row 3)) (Ok (tally, after)) → IsDatabase after → NotesNumber before after
notes_number limit mode tally before after has h sound =
    let text = statement_of number_text (understood shelf_schema number_text) in
    let done = went (subst (λ schema. Does limit mode [] (record before { schema = schema }) text None (Insert 0 (Values one_row 3)) (Ok (tally, after))) has.schema h) in
    let now = ap (λ (p : Tally × Database). p.1) (same_value (went (went done.2).2).2) in
    let given = went done.1 in
    let counter = went given.2 in
    let edits = went counter.2 in
    let counted = went edits.2 in
    let edit = edit_of before.trees placed_profile [] Chosen 0 given.0 in
    let applies = one_step shelf_schema mode.keys before.trees edits.0 edit refl edits.1 in
    let rows : edits.0 0 ≡ first_row ∷ [] = applies.rows ∙ first_rows (before.trees 0) given.0 has.profile given.1.1 in
    let last : done.0.trees ≡ edits.0 = ap (λ (it : Written). it.trees) (same_value counted.2) ∙ same_value counted.1 in
    let trees : after.trees ≡ edits.0 = ap (λ (d : Database). d.trees) now ∙ last in
    record {
      schema = ap (λ (d : Database). d.schema) now;
      sound = sound;
      number = ap (number_of 2) (ap (λ (t : Trees). t 0) trees ∙ rows);
      lists = ap (λ (t : Trees). t 1) trees ∙ applies.tables.1.0 (λ e. omega (arith, e));
      stickers = ap (λ (t : Trees). t 3) trees ∙ applies.tables.1.1.0 (λ e. omega (arith, e));
      notes = ap (λ (t : Trees). t 5) trees ∙ applies.tables.1.1.1.0 (λ e. omega (arith, e));
    }

-- ---- the number of the profile

abbrev pub asked_text : List ℕ
asked_text = number_query

pub asked_is : Reading asked_text (over 0 [] (col 1 2 ∷ []) []) (codes "number" ∷ [])
unfolding understood everything
asked_is = (refl, refl, (refl, refl))

pub asked_former : ReadingIn former_schema asked_text (over 0 [] (col 1 2 ∷ []) []) (codes "number" ∷ [])
unfolding understood everything
asked_former = (refl, refl, (refl, refl))

-- every row passes where nothing is asked of it
pub all_pass : (rows : List Row) → filter (λ _. true) rows ≡ rows
all_pass [] = refl
all_pass (r ∷ rows) = ap (λ xs. r ∷ xs) (all_pass rows)

number_shown : (rows shown : List Row) → IsRead [] 0 [] (col 1 2 ∷ []) [] (λ _. true) (λ _. refl) rows shown → number_of 0 shown ≡ number_of 2 rows
number_shown rows shown read = rw (read.shown) (go rows read.sorted read.same)
  where
    go : (rows : List Row) (sorted : List Output) → IsPermutation (map (shows [] 0 [] (col 1 2 ∷ []) [] (λ _. true) (λ _. refl)) rows) sorted → number_of 0 (map (λ (o : Output). o.1) sorted) ≡ number_of 2 rows
    go [] [] same = refl
    go [] (o ∷ more) same = absurd (let e = length_permutation _ _ same in cc)
    go (r ∷ []) sorted same = rw (one_permutation _ sorted same) refl
    go (r ∷ s ∷ more) [] same = absurd (let e = length_permutation _ _ same in cc)
    go (r ∷ s ∷ more) (o ∷ []) same = absurd (let e = length_permutation _ _ same in cc)
    go (r ∷ s ∷ more) (o ∷ p ∷ others) same = refl

pub asked_number : (db : Database) (shown : List Row) → IsAnswer (over 0 [] (col 1 2 ∷ []) []) (overlay db.trees []) [] shown → number_of 0 shown ≡ profile_number db.trees
asked_number db shown answer =
    let read = answer_is [] 0 [] (col 1 2 ∷ []) [] (λ _. true) (λ _. refl) (overlay db.trees []) shown answer in
    number_shown (db.trees 0) shown (subst (λ found. IsRead [] 0 [] (col 1 2 ∷ []) [] (λ _. true) (λ _. refl) found shown) (all_pass (db.trees 0)) read)
