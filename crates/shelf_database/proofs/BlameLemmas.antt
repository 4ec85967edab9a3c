-- Why a query of the tables may be answered with an error.
use Rattle.std.proofs.Common.{codes, ◌≡◌, ◌≢◌, ◌⊎◌, inl, inr, ℕ, List, [], ◌∷◌, length, true, Ok, Err, Result, refl, sym, ap, subst, subst₂, ◌∙◌, arith, append-nil}
use Rattle.std.proofs.lemmas.Bool.{true≢false}
use Rattle.sqlite.specs.declared.error.Error.{Error}
use Rattle.sqlite.specs.declared.error.Error.TheVariants.{SqliteFailure}
use Rattle.sqlite.specs.declared.error.ErrorCode.TheVariants as code
use Rattle.sqlite.specs.declared.types.Value.TheVariants.{Text}
use Rattle.sqlite_trees.specs.declared.error.StoreError.{StoreError}
use Rattle.sqlite_trees.specs.declared.error.StoreError.TheVariants.{OutOfMemory, Io, Corrupt, Full, Broken, Unstorable}
use Rattle.sqlite.specs.Order.{Row}
use Rattle.sqlite.specs.Tree.{Trees}
use Rattle.sqlite.specs.Term.{Term, col}
use Rattle.sqlite_value.specs.declared.keys.Key.{Key}
use Rattle.sqlite.specs.Query.{Query}
use Rattle.sqlite.specs.Schema.{Schema}
use Rattle.sqlite.specs.Program.{ProgramOverflows}
use Rattle.sqlite.specs.Effect.{Database, RefusesToRead}
use Rattle.sqlite.specs.Listing.{understood, reads_listing, IsSourceOf}
use Rattle.sqlite.specs.State.{State, store_error, HasCause, IsNotRun, IsNoStatement, FailsToQuery}
use Rattle.sqlite.proofs.Callers.{IsPlain, command_of}
use Rattle.sqlite_tied.specs.Compute.{everything}
use Rattle.sqlite_resolve.specs.declared.compiled.Compiled.{Compiled}
use Rattle.sqlite_resolve.specs.declared.error.CompileError.{CompileError}
use Rattle.sqlite_typing.specs.Types.{accepts_program}
use Rattle.shelf.specs.declared.kinds.StickerKind.{StickerKind}
use Rattle.shelf_database.specs.Tables.{kind_text, former_schema, shelf_schema, IsReady}
use Rattle.shelf_database.specs.Faults.{HasFailed}
use Rattle.shelf_database.proofs.Statements.{Reading, ReadingIn, over, equals, rising, key_terms, target_terms, name_terms, uris_text, uris_is, named_text, named_is, names_text, names_are, value_text, value_is, names_of_target_text, names_of_target_are, of_target_text, of_target_is, of_name_text, of_name_is}
use Rattle.shelf_database.proofs.TablesLemmas.{asked_former, asked_text, asked_is}
use Rattle.shelf_database.specs.Opens.{IsFormer}

abbrev pub tail_of : Result Compiled CompileError → ℕ
tail_of (Ok c) = c.tail
tail_of (Err e) = 0

abbrev pub names_in : Result Compiled CompileError → ℕ
names_in (Ok c) = length c.names
names_in (Err e) = 0

-- under the schema the text is one statement, which takes as many values as these
abbrev pub IsWholeIn : Schema → List ℕ → Row → Type 0
IsWholeIn schema text params = (tail_of (understood schema text) ≡ length text) × (names_in (understood schema text) ≡ length params)

abbrev pub IsWhole : List ℕ → Row → Type 0
IsWhole = IsWholeIn shelf_schema

-- no sum is made over one table that is not grouped
pub no_sum : (params : Row) (tree : ℕ) (filter project : List Term) (order : List (Term × Key)) (db : Trees) → ProgramOverflows db params [] [] (over tree filter project order) → ⊥
no_sum params tree filter project order db (inl never) = never
no_sum params tree filter project order db (inr some) = some.4

-- why the store failed, or that the row is not stored
pub cause_blamed : (old new : State) (big : Type 0) (cause : StoreError) (e : Error) → e ≡ store_error cause → e ≢ SqliteFailure code.OutOfMemory → HasCause old new big cause → HasFailed old new ⊎ big
cause_blamed old new big OutOfMemory e is other h = absurd (other is)
cause_blamed old new big Io e is other h = inl (inl h)
cause_blamed old new big Corrupt e is other h = inl (inl h)
cause_blamed old new big Full e is other h = inl (inl h)
cause_blamed old new big Broken e is other h = inl (inr (inl h))
cause_blamed old new big Unstorable e is other h = inr h

pub failed_alone : (old new : State) → HasFailed old new ⊎ ⊥ → HasFailed old new
failed_alone old new (inl failed) = failed
failed_alone old new (inr never) = absurd never

-- an error of the query means that the store failed; for a want of memory there is an answer of its own
abbrev pub BlamesStore : List ℕ → Row → Type 1
BlamesStore text params = (old new : State) (e : Error) → IsReady old → e ≢ SqliteFailure code.OutOfMemory → FailsToQuery text params old new e → HasFailed old new

-- a statement that is understood, and is given its values, is run unless the store fails
module _ (schema : Schema) (text : List ℕ) (params : Row) (plain : IsPlain (understood schema text)) (whole : IsWholeIn schema text params) (old new : State) (e : Error) (has : old.now.schema ≡ schema) where
  pub known_now : understood old.now.schema text ≡ understood schema text
  known_now = ap (λ schema. understood schema text) has

  never_none : IsNoStatement old text params e → ⊥
  never_none (inl h) = subst IsPlain (sym known_now ∙ h.1) plain
  never_none (inr h) =
      let it : Ok h.0 ≡ understood schema text = sym h.1 ∙ known_now in
      let tail : h.0.tail ≡ length text = ap tail_of it ∙ whole.0 in
      let taken : length h.0.names ≡ length params = ap names_in it ∙ whole.1 in
      let bare = subst IsPlain (sym it) plain in
      elim h.2 [
        | inl cut ↦ cut.0 (omega (arith, tail))
        | inr (inl given) ↦ given.0 (sym taken)
        | inr (inr timed) ↦ timed.0 bare.1
      ]

  pub not_run_failed : e ≢ SqliteFailure code.OutOfMemory → IsNotRun old new text params e → HasFailed old new
  unfolding IsNotRun
  not_run_failed other (inl h) = absurd (never_none h.0)
  not_run_failed other (inr h) = failed_alone old new (cause_blamed old new ⊥ h.0 e h.1 other h.2)

-- such a query that sums nothing
module _ (schema : Schema) (text : List ℕ) (query : Query) (names : List (List ℕ)) (reading : ReadingIn schema text query names) (params : Row) (whole : IsWholeIn schema text params)
    (typed : accepts_program schema [] query params ≡ true) (sums : (db : Trees) → ProgramOverflows db params [] [] query → ⊥) where
  pub read_blamed_in : (old new : State) (e : Error) → old.now.schema ≡ schema → e ≢ SqliteFailure code.OutOfMemory → FailsToQuery text params old new e → HasFailed old new
  unfolding FailsToQuery
  read_blamed_in old new e has other (inl h) = not_run_failed schema text params reading.2 whole old new e has other h
  read_blamed_in old new e has other (inr h) =
      let it : Ok h.0 ≡ understood schema text = sym h.1.is ∙ known_now schema text params reading.2 whole old new e has in
      let plain = subst IsPlain (sym it) reading.2 in
      let shows = rw (plain.0, plain.1, append-nil params) at h.2 in
      let db : shows.0 ≡ old.now = subst (λ b. IsSourceOf b old.now shows.0) (ap (λ s. reads_listing s text) has ∙ reading.1) shows.1 in
      elim (subst₂ (λ k (d : Database). RefusesToRead old.step_limit k d params e) (ap command_of it ∙ reading.0) db shows.2) [
        | inl mistyped ↦ absurd (true≢false (sym (ap (λ s. accepts_program s [] query params) has ∙ typed) ∙ mistyped.1))
        | inr (inl sum) ↦ absurd (sums old.now.trees sum.1)
        | inr (inr limited) ↦ inr (inr limited.1)
      ]

module _ (text : List ℕ) (query : Query) (names : List (List ℕ)) (reading : Reading text query names) (params : Row) (whole : IsWhole text params)
    (typed : accepts_program shelf_schema [] query params ≡ true) (sums : (db : Trees) → ProgramOverflows db params [] [] query → ⊥) where
  pub read_blamed : BlamesStore text params
  read_blamed old new e ready other = read_blamed_in shelf_schema text query names reading params whole typed sums old new e ready.shelf.schema other

-- a query of the tables, which only a failure of the store refuses
pub record Question (text : List ℕ) (params : Row) : Type 1 where
  pub query : Query
  pub names : List (List ℕ)
  pub reading : Reading text query names
  pub blamed : BlamesStore text params

-- one of a table's rows, which sums nothing
module _ (text : List ℕ) (params : Row) (tree : ℕ) (filter project : List Term) (order : List (Term × Key)) (names : List (List ℕ)) (reading : Reading text (over tree filter project order) names)
    (whole : IsWhole text params) (typed : accepts_program shelf_schema [] (over tree filter project order) params ≡ true) where
  abbrev pub asks : Question text params
  asks = record { query = over tree filter project order; names = names; reading = reading; blamed = read_blamed text (over tree filter project order) names reading params whole typed (no_sum params tree filter project order) }

-- ---- the queries

pub number_whole : IsWhole asked_text []
unfolding understood everything
number_whole = (refl, refl)

abbrev pub number_asked : Question asked_text []
number_asked = asks asked_text [] 0 [] (col 1 2 ∷ []) [] _ asked_is number_whole refl

pub former_whole : IsWholeIn former_schema asked_text []
unfolding understood everything
former_whole = (refl, refl)

-- the query for the number, over the tables of either profile
pub number_blamed : (old new : State) (e : Error) → IsReady old ⊎ IsFormer old → e ≢ SqliteFailure code.OutOfMemory → FailsToQuery asked_text [] old new e → HasFailed old new
number_blamed old new e (inl ready) other = number_asked.blamed old new e ready other
number_blamed old new e (inr former) other =
    read_blamed_in former_schema asked_text (over 0 [] (col 1 2 ∷ []) []) (codes "number" ∷ []) asked_former [] former_whole refl (no_sum [] 0 [] (col 1 2 ∷ []) []) old new e former.shelf.schema other

pub uris_whole : (name : List ℕ) → IsWhole uris_text (Text name ∷ [])
unfolding understood everything
uris_whole name = (refl, refl)

abbrev pub uris_asked : (name : List ℕ) → Question uris_text (Text name ∷ [])
uris_asked name = asks uris_text (Text name ∷ []) 1 (equals 1 0 ∷ []) (col 1 2 ∷ []) [] _ uris_is (uris_whole name) refl

pub named_whole : (name : List ℕ) → IsWhole named_text (Text name ∷ [])
unfolding understood everything
named_whole name = (refl, refl)

abbrev pub named_asked : (name : List ℕ) → Question named_text (Text name ∷ [])
named_asked name = asks named_text (Text name ∷ []) 1 (equals 1 0 ∷ []) (col 1 1 ∷ []) [] _ named_is (named_whole name) refl

pub names_whole : IsWhole names_text []
unfolding understood everything
names_whole = (refl, refl)

abbrev pub names_asked : Question names_text []
names_asked = asks names_text [] 1 [] (col 1 1 ∷ []) (rising 1) _ names_are names_whole refl

pub value_whole : (kind : StickerKind) (target name : List ℕ) → IsWhole value_text (Text (kind_text kind) ∷ Text target ∷ Text name ∷ [])
unfolding understood everything
value_whole kind target name = (refl, refl)

abbrev pub value_asked : (kind : StickerKind) (target name : List ℕ) → Question value_text (Text (kind_text kind) ∷ Text target ∷ Text name ∷ [])
value_asked kind target name = asks value_text (Text (kind_text kind) ∷ Text target ∷ Text name ∷ []) 5 key_terms (col 1 4 ∷ []) [] _ value_is (value_whole kind target name) refl

pub names_of_target_whole : (kind : StickerKind) (target : List ℕ) → IsWhole names_of_target_text (Text (kind_text kind) ∷ Text target ∷ [])
unfolding understood everything
names_of_target_whole kind target = (refl, refl)

abbrev pub names_of_target_asked : (kind : StickerKind) (target : List ℕ) → Question names_of_target_text (Text (kind_text kind) ∷ Text target ∷ [])
names_of_target_asked kind target = asks names_of_target_text (Text (kind_text kind) ∷ Text target ∷ []) 5 target_terms (col 1 3 ∷ []) (rising 3) _ names_of_target_are (names_of_target_whole kind target) refl

pub of_target_whole : (kind : StickerKind) (target : List ℕ) → IsWhole of_target_text (Text (kind_text kind) ∷ Text target ∷ [])
unfolding understood everything
of_target_whole kind target = (refl, refl)

abbrev pub of_target_asked : (kind : StickerKind) (target : List ℕ) → Question of_target_text (Text (kind_text kind) ∷ Text target ∷ [])
of_target_asked kind target = asks of_target_text (Text (kind_text kind) ∷ Text target ∷ []) 5 target_terms (col 1 3 ∷ col 1 4 ∷ []) (rising 3) _ of_target_is (of_target_whole kind target) refl

pub of_name_whole : (kind : StickerKind) (name : List ℕ) → IsWhole of_name_text (Text (kind_text kind) ∷ Text name ∷ [])
unfolding understood everything
of_name_whole kind name = (refl, refl)

abbrev pub of_name_asked : (kind : StickerKind) (name : List ℕ) → Question of_name_text (Text (kind_text kind) ∷ Text name ∷ [])
of_name_asked kind name = asks of_name_text (Text (kind_text kind) ∷ Text name ∷ []) 5 name_terms (col 1 2 ∷ col 1 4 ∷ []) (rising 2) _ of_name_is (of_name_whole kind name) refl
