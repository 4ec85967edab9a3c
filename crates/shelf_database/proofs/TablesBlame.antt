-- The statements that make the tables of a shelf are refused by no rule.
use Rattle.std.proofs.Common.{◌≡◌, inl, inr, ℕ, ◌+◌, ◌*◌, ◌^◌, ◌<◌, List, [], ◌∷◌, length, codes, true, false, Ok, Err, Option, None, Some, refl, sym, ap, ap₂, subst, ◌∙◌, IsSome, IsUtf8, arith}
use Rattle.std.specs.Float.{NotNan}
use Rattle.std.specs.Float.Ieee
use Rattle.std.proofs.lemmas.Bool.{true≢false}
use Rattle.std.proofs.lemmas.Nat.Bits.{bit_at-zero}
use Rattle.std.proofs.lemmas.List.Elements.{All-from_recursion}
use Rattle.sqlite.specs.declared.error.Error.{Error}
use Rattle.sqlite.specs.declared.types.Value.TheVariants.{Text}
use Rattle.sqlite.specs.Order.{Row, number, value_cmp}
use Rattle.sqlite.specs.Ops.{binary}
use Rattle.sqlite.specs.Tree.{Trees, IsTable}
use Rattle.sqlite.specs.View.{IsStorableRow}
use Rattle.sqlite.specs.Table.{Table}
use Rattle.sqlite.specs.Schema.{Schema}
use Rattle.sqlite.specs.Source.TheVariants.{Values}
use Rattle.sqlite.specs.Command.TheVariants.{CreateTable, Insert}
use Rattle.sqlite.specs.Compile.{table_defined_by}
use Rattle.sqlite.specs.Cast.{cast_row}
use Rattle.sqlite.specs.Edit.{Edit, edit_of, numbered, IsOversized}
use Rattle.sqlite.specs.Rowids.TheVariants.{Chosen}
use Rattle.sqlite.specs.Rows.{Task, Sourced, Inserts, Edited}
use Rattle.sqlite.specs.Does.{Does, MakesTable, lacks_sequence}
use Rattle.sqlite.specs.Effect.{Database}
use Rattle.sqlite.specs.Listing.{understood}
use Rattle.sqlite.specs.State.{mode_of}
use Rattle.sqlite.specs.Change.{created, next_tree, is_used, is_reserved, automatics}
use Rattle.sqlite.proofs.Callers.{statement_of}
use Rattle.sqlite_tied.specs.Compute.{everything}
use Rattle.sqlite_rules.specs.Lists.{Has}
use Rattle.sqlite_schema.specs.declared.schema.Constraint.TheVariants.{Unique}
use Rattle.sqlite_schema.specs.declared.schema.Keys.TheVariants.{Enforced}
use Rattle.sqlite_schema.specs.declared.schema.Index.{Index}
use Rattle.sqlite_schema.specs.Rules.{table_reals, index_reals, Keeps}
use Rattle.sqlite_schema.specs.Names as names
use Rattle.sqlite_trees.specs.Sound as sound
use Rattle.sqlite_catalog.specs.declared.error.Refusal.{Refusal}
use Rattle.sqlite_catalog.specs.declared.error.Refusal.TheVariants.{Invalid, NameTaken, BadName, TooBig, BadKey, BadText, Violates}
use Rattle.sqlite_catalog.specs.Listing.{is_fit, is_formed}
use Rattle.sqlite_catalog.specs.Calls.{RefusesTable}
use Rattle.shelf_database.specs.Tables.{no_schema, profile_table, list_table, sticker_table, note_table, former_schema, shelf_schema}
use Rattle.shelf_database.specs.Opens.{profile_schema, list_schema, HasNothing, HasProfile, HasLists, HasFormer, HasNoNumber}
use Rattle.shelf_database.proofs.EditBlame.{AreWelcome, stopped_long}
use Rattle.shelf_database.proofs.RefusalLemmas.{concludes_done}
use Rattle.shelf_database.proofs.DeleteLemmas.{same_value}
use Rattle.shelf_database.proofs.MakingBlame.{IsSure}
use Rattle.shelf_database.proofs.BlameLemmas.{IsWholeIn}
use Rattle.shelf_database.proofs.Statements.{profile_is, list_is, sticker_is, note_is}
use Rattle.shelf_database.proofs.TablesLemmas.{profile_text, number_text, list_text, sticker_text, note_text, note_said, profile_said, list_said, sticker_said, one_row, first_row, cast_first, placed_profile}

pub profile_bare : IsWholeIn no_schema profile_text []
unfolding understood everything
profile_bare = (refl, refl)

pub list_bare : IsWholeIn profile_schema list_text []
unfolding understood everything
list_bare = (refl, refl)

pub note_bare : IsWholeIn former_schema note_text []
unfolding understood everything
note_bare = (refl, refl)

pub sticker_bare : IsWholeIn list_schema sticker_text []
unfolding understood everything
sticker_bare = (refl, refl)

-- nothing speaks against the table that the text defines
record Suits (schema : Schema) (table : Table) (text : List ℕ) : Type 0 where
  defined : table_defined_by text ≡ Ok table
  plain : lacks_sequence (created schema table) ≡ false
  readable : IsUtf8 text
  short : 2 * length table.name + length text + 200 < 10 ^ 9
  free : is_used schema table.name ≡ false
  unindexed : (index : Index) → Has (automatics table 0 0 table.uniques) index → is_used schema index.name ≡ false
  named : IsUtf8 table.name
  own : is_reserved table.name ≡ false
  few : next_tree schema + length table.uniques < 65536
  reals : table_reals table ≡ 0
  keys : (key : List ℕ) → Has table.uniques key → index_reals 0 key ≡ 0
  formed : is_formed table ≡ true
  fit : is_fit (Text (codes "table")) (Text table.name) (Text table.name) (Text text) ≡ true

profile_suits : Suits no_schema profile_table profile_text
unfolding sound.same_name sound.begins sound.is_free_name sound.fits_kind names.same_name value_cmp lib.Utf8.encode lib.Ieee.is_nan lib.Ieee.lt
profile_suits = record {
  defined = profile_is;
  plain = refl;
  readable = (profile_text, (refl, refl));
  short = omega arith;
  free = refl;
  unindexed = λ index h. absurd h;
  named = (profile_table.name, (refl, refl));
  own = refl;
  few = omega arith;
  reals = refl;
  keys = λ key h. absurd h;
  formed = refl;
  fit = refl;
}

list_suits : Suits profile_schema list_table list_text
unfolding sound.same_name sound.begins sound.is_free_name sound.fits_kind names.same_name value_cmp lib.Utf8.encode lib.Ieee.is_nan lib.Ieee.lt
list_suits = record {
  defined = list_is;
  plain = refl;
  readable = (list_text, (refl, refl));
  short = omega arith;
  free = refl;
  unindexed = λ index h. elim h [ inl is ↦ rw is refl | inr none ↦ absurd none ];
  named = (list_table.name, (refl, refl));
  own = refl;
  few = omega arith;
  reals = refl;
  keys = λ key h. elim h [ inl is ↦ rw is refl | inr none ↦ absurd none ];
  formed = refl;
  fit = refl;
}

sticker_suits : Suits list_schema sticker_table sticker_text
unfolding sound.same_name sound.begins sound.is_free_name sound.fits_kind names.same_name value_cmp lib.Utf8.encode lib.Ieee.is_nan lib.Ieee.lt
sticker_suits = record {
  defined = sticker_is;
  plain = refl;
  readable = (sticker_text, (refl, refl));
  short = omega arith;
  free = refl;
  unindexed = λ index h. elim h [ inl is ↦ rw is refl | inr none ↦ absurd none ];
  named = (sticker_table.name, (refl, refl));
  own = refl;
  few = omega arith;
  reals = refl;
  keys = λ key h. elim h [ inl is ↦ rw is refl | inr none ↦ absurd none ];
  formed = refl;
  fit = refl;
}

note_suits : Suits former_schema note_table note_text
unfolding sound.same_name sound.begins sound.is_free_name sound.fits_kind names.same_name value_cmp lib.Utf8.encode lib.Ieee.is_nan lib.Ieee.lt
note_suits = record {
  defined = note_is;
  plain = refl;
  readable = (note_text, (refl, refl));
  short = omega arith;
  free = refl;
  unindexed = λ index h. elim h [ inl is ↦ rw is refl | inr none ↦ absurd none ];
  named = (note_table.name, (refl, refl));
  own = refl;
  few = omega arith;
  reals = refl;
  keys = λ key h. elim h [ inl is ↦ rw is refl | inr none ↦ absurd none ];
  formed = refl;
  fit = refl;
}

module _ (schema : Schema) (table : Table) (text : List ℕ) (suits : Suits schema table text) where
  is_it : (other : Table) → table_defined_by text ≡ Ok other → other ≡ table
  is_it other h = same_value (sym h ∙ suits.defined)

  refuses_none : (why : Refusal) → RefusesTable schema text why → ⊥
  refuses_none (Invalid e) h = let is = sym h ∙ suits.defined in cc
  refuses_none NameTaken h =
      let is = is_it h.0 h.1 in
      elim (rw is at h.2) [
        | inl used ↦ true≢false (sym used ∙ suits.free)
        | inr index ↦ true≢false (sym index.2 ∙ suits.unindexed index.0 index.1)
      ]
  refuses_none BadName h =
      let is = is_it h.0 h.1 in
      elim (rw is at h.2) [
        | inl never ↦ never suits.named
        | inr reserved ↦ true≢false (sym reserved.0 ∙ suits.own)
      ]
  refuses_none TooBig h =
      let is = is_it h.0 h.1 in
      let few = suits.few in
      elim (rw (is, suits.reals) at h.2) [
        | inl many ↦ omega (arith, few, many)
        | inr (inl reals) ↦ omega (arith, reals)
        | inr (inr key) ↦ let none = suits.keys key.0 key.1 in let low = key.2 in omega (arith, none, low)
      ]
  refuses_none BadKey h = let is = is_it h.0 h.1 in true≢false (sym suits.formed ∙ rw is at h.2)
  refuses_none BadText h = let is = is_it h.0 h.1 in true≢false (sym suits.fit ∙ rw is at h.2)
  refuses_none (Violates rule) h = h

  makes_sure : (db : Database) (stop : Option Error) → db.schema ≡ schema → MakesTable text db (Err stop) → ⊥
  makes_sure db None is h = let low = rw (is_it h.0 h.1) at h.2 in let short = suits.short in omega (arith, low, short)
  makes_sure db (Some e) is (inl none) = none.0 suits.readable
  makes_sure db (Some e) is (inr refused) = refuses_none refused.0 (subst (λ s. RefusesTable s text refused.0) is refused.1)

  creates_sure : (Before : Database → Type 0) → ((db : Database) → Before db → db.schema ≡ schema) → IsSure Before text CreateTable
  creates_sure Before has s stop before h = absurd (never h)
    where
      never : Does s.step_limit (mode_of s) [] s.now text None CreateTable (Err stop) → ⊥
      never (inr gave) = let is = gave.2 in cc
      never (inl stopped) = elim stopped.1 [
        | inl refused ↦ makes_sure s.now refused.0 (has s.now before) refused.1
        | inr made ↦
            let same = is_it made.1.table made.1.defined in
            let counted : lacks_sequence made.0.schema ≡ false = ap lacks_sequence (made.1.is ∙ ap₂ created (has s.now before) same) ∙ suits.plain in
            let is = rw counted at made.2 in cc
      ]

pub profile_sure : IsSure HasNothing (statement_of profile_text (understood no_schema profile_text)) CreateTable
profile_sure = subst (λ text. IsSure HasNothing text CreateTable) (sym profile_said) (creates_sure no_schema profile_table profile_text profile_suits HasNothing (λ db has. has))

pub lists_sure : IsSure HasProfile (statement_of list_text (understood profile_schema list_text)) CreateTable
lists_sure = subst (λ text. IsSure HasProfile text CreateTable) (sym list_said) (creates_sure profile_schema list_table list_text list_suits HasProfile (λ db has. has.0))

pub stickers_sure : IsSure HasLists (statement_of sticker_text (understood list_schema sticker_text)) CreateTable
stickers_sure = subst (λ text. IsSure HasLists text CreateTable) (sym sticker_said) (creates_sure list_schema sticker_table sticker_text sticker_suits HasLists (λ db has. has.0))

pub notes_sure : IsSure HasFormer (statement_of note_text (understood former_schema note_text)) CreateTable
notes_sure = subst (λ text. IsSure HasFormer text CreateTable) (sym note_said) (creates_sure former_schema note_table note_text note_suits HasFormer (λ db has. has))

-- ---- the number of the profile

abbrev first_edit : Edit
first_edit = record { table = placed_profile; gone = []; news = first_row ∷ [] }

numbered_alone : (rows : List Row) (c : Row) → c ≡ first_row → numbered Chosen rows (c ∷ []) ≡ first_row ∷ []
numbered_alone rows c is = rw is refl

edit_is : (db : Trees) (rows : List Row) → rows ≡ first_row ∷ [] → edit_of db placed_profile [] Chosen 0 rows ≡ first_edit
edit_is db rows is = ap (λ (news : List Row). record { table = placed_profile; gone = []; news = news }) (rw is (numbered_alone (db 0) (cast_row placed_profile first_row) cast_first))

row_storable : IsStorableRow (table_reals placed_profile) first_row
unfolding Ieee.is_nan
row_storable = (
  record {
    typed = λ c h. absurd (let none = bit_at-zero c in omega (arith, none, h));
    columns = (omega arith, omega arith);
    numbers = All-from_recursion (λ v. NotNan (number v)) first_row (tt, (tt, (tt, tt)));
    short = omega arith;
  },
  omega arith,
)

-- no rule is against the one row, and it is stored
module _ (db : Trees) (empty : db 0 ≡ []) (unique : Keeps Unique shelf_schema db) where
  no_rows : IsTable (db 0)
  no_rows = subst IsTable (sym empty) tt

  welcome : AreWelcome db first_edit
  unfolding binary value_cmp Ieee.is_nan Ieee.lt
  welcome = record { pass = record { typed = refl; present = refl; checked = refl }; keyed = refl; fit = refl; fresh = rw empty refl; unique = refl }

  never_long : IsOversized shelf_schema placed_profile first_row → ⊥
  never_long (inl never) = never row_storable
  never_long (inr (i, inl is, of, big)) = let e = rw is at of in omega (arith, e)
  never_long (inr (i, inr (inl is), of, big)) = let e = rw is at of in omega (arith, e)
  never_long (inr (i, inr (inr (inl is)), of, big)) = let e = rw is at of in omega (arith, e)
  never_long (inr (i, inr (inr (inr none)), of, big)) = none

  edited_never : (stop : Option Error) → Edited shelf_schema Enforced db first_edit (Err stop) → ⊥
  edited_never stop h =
      let it = stopped_long db first_edit stop (inl refl) no_rows unique welcome h in
      elim it.1 [ inl is ↦ never_long (subst (IsOversized shelf_schema placed_profile) is it.2) | inr none ↦ none ]

abbrev task : Option ℕ → Task
task limit = record { limit = limit; keys = Enforced; schema = shelf_schema; table = placed_profile; params = [] }

source_limited : (limit : Option ℕ) (db : Trees) (stop : Option Error) → Sourced limit (record { schema = shelf_schema; trees = db }) [] (Values one_row 3) (Err stop) → IsSome limit
source_limited limit db None h = absurd h
source_limited limit db (Some e) (inl mistyped) = absurd (true≢false mistyped.1)
source_limited limit db (Some e) (inr limited) = limited.1

inserts_limited : (limit : Option ℕ) (db : Trees) → db 0 ≡ [] → Keeps Unique shelf_schema db → (stop : Option Error) → Inserts (task limit) (Values one_row 3) db (Err stop) → IsSome limit
inserts_limited limit db empty unique stop (inl sourced) = source_limited limit db sourced.0 sourced.1
inserts_limited limit db empty unique stop (inr h) = elim h.2 [
  | inl counter ↦ absurd (let e = counter.1 in cc)
  | inr counted ↦ elim counted.2 [
    | inl edited ↦ absurd (edited_never db empty unique edited.0 (subst (λ edit. Edited shelf_schema Enforced db edit (Err edited.0)) (edit_is db h.0 h.1.1) edited.1))
    | inr next ↦ elim next.2 [ inl counts ↦ absurd (let e = counts.1 in cc) | inr last ↦ absurd (let e = last.2 in cc) ]
  ]
]

pub number_sure : IsSure HasNoNumber (statement_of number_text (understood shelf_schema number_text)) (Insert 0 (Values one_row 3))
number_sure s stop has h =
    let text = statement_of number_text (understood shelf_schema number_text) in
    let here = subst (λ schema. Does s.step_limit (mode_of s) [] (record s.now { schema = schema }) text None (Insert 0 (Values one_row 3)) (Err stop)) has.schema h in
    elim here [
      | inl stopped ↦ inserts_limited s.step_limit s.now.trees has.profile (subst (λ schema. Keeps Unique schema s.now.trees) has.schema (has.sound.obeys.rules Unique)) stopped.0 stopped.1
      | inr wrote ↦ absurd (concludes_done s.step_limit placed_profile [] (mode_of s) wrote.0 stop wrote.2)
    ]

pub number_bare : IsWholeIn shelf_schema number_text []
unfolding understood everything
number_bare = (refl, refl)
