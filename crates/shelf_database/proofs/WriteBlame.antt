-- Why a statement that changes rows may be answered with an error.
use Rattle.std.proofs.Common.{◌≡◌, ◌≢◌, ◌⊎◌, inl, inr, ℕ, List, false, Ok, Err, Option, None, Some, refl, sym, ap, subst, subst₂, ◌∙◌, IsSome, append-nil}
use Rattle.sqlite.specs.declared.error.Error.{Error}
use Rattle.sqlite.specs.declared.error.Error.TheVariants.{SqliteFailure}
use Rattle.sqlite.specs.declared.error.ErrorCode.TheVariants as code
use Rattle.sqlite_resolve.specs.declared.compiled.Compiled.{Compiled}
use Rattle.sqlite.specs.Order.{Row}
use Rattle.sqlite.specs.Command.{Command}
use Rattle.sqlite.specs.Command.TheVariants.{Insert, InsertOr, Update, Delete, CreateTable}
use Rattle.sqlite.specs.Schema.{Schema}
use Rattle.sqlite.specs.Effect.{is_query}
use Rattle.sqlite.specs.Listing.{understood}
use Rattle.sqlite.specs.State.{State, IsMisplaced, RunsCommand, Executes, ExecutesIn, mode_of, shows_rows, is_pragma}
use Rattle.sqlite.specs.Does.{Does}
use Rattle.sqlite.proofs.Callers.{IsPlain, command_of, statement_of}
use Rattle.shelf_database.specs.Tables.{shelf_schema, IsReady}
use Rattle.shelf_database.specs.Faults.{HasFailed}
use Rattle.shelf_database.proofs.Statements.{Writing}
use Rattle.shelf_database.proofs.MakingLemmas.{Means}
use Rattle.shelf_database.proofs.BlameLemmas.{IsWhole, IsWholeIn, cause_blamed, known_now, not_run_failed}
use Rattle.shelf_database.proofs.WriteLemmas.{IsChange}

-- what stops the statement, by a rule or since a row is not stored, is the limit on steps or this reason
abbrev pub RefusedFor : State → List ℕ → Row → Command → Type 0 → Type 0
RefusedFor s text params command reason = (stop : Option Error) → Does s.step_limit (mode_of s) params s.now (statement_of text (understood shelf_schema text)) None command (Err stop) → IsSome s.step_limit ⊎ reason

-- a command that changes rows, or makes a table: it begins and ends no transaction, and shows nothing
abbrev pub IsWork : Command → Type 0
IsWork (Insert at from) = Unit {0}
IsWork (InsertOr at how from clauses) = Unit {0}
IsWork (Update at q) = Unit {0}
IsWork (Delete at q) = Unit {0}
IsWork CreateTable = Unit {0}
IsWork _ = ⊥

change_works : (command : Command) → IsChange command → IsWork command
change_works (InsertOr at how from clauses) change = tt
change_works (Update at q) change = tt
change_works (Delete at q) change = tt
change_works _ change = absurd change

never_misplaced : (s : State) (command : Command) (e : Error) → IsWork command → IsMisplaced s command e → ⊥
never_misplaced s command e work h = elim h [
  | inl begins ↦ elim begins.1 [
    | inl begin ↦ subst IsWork begin.0 work
    | inr ends ↦ elim ends.0 [ inl commit ↦ subst IsWork commit work | inr rollback ↦ subst IsWork rollback work ]
  ]
  | inr named ↦ elim named.2 [ inl release ↦ subst IsWork release work | inr back ↦ subst IsWork back work ]
]

asks_nothing : (command : Command) → IsWork command → (is_query command ≡ false) × (is_pragma command ≡ false)
asks_nothing (Insert at from) work = (refl, refl)
asks_nothing (InsertOr at how from clauses) work = (refl, refl)
asks_nothing (Update at q) work = (refl, refl)
asks_nothing (Delete at q) work = (refl, refl)
asks_nothing CreateTable work = (refl, refl)
asks_nothing _ work = absurd work

shows_none : (c : Compiled) → IsWork c.command → c.returning ≡ None → shows_rows false c ≡ false
shows_none c work none = let nothing = asks_nothing c.command work in rw (nothing.0, nothing.1, none) refl

-- under a schema, what stops the statement is the limit on steps or this reason
module _ (schema : Schema) (text : List ℕ) (params : Row) (command : Command) (means : Means schema text command) (work : IsWork command) (whole : IsWholeIn schema text params) (old new : State) (has : old.now.schema ≡ schema) (reason : Type 0)
    (refused : (stop : Option Error) → Does old.step_limit (mode_of old) params old.now (statement_of text (understood schema text)) None command (Err stop) → IsSome old.step_limit ⊎ reason) (e : Error) (other : e ≢ SqliteFailure code.OutOfMemory) where
  known : understood old.now.schema text ≡ understood schema text
  known = known_now schema text params means.1 whole old new e has

  stopped : (stop : Option Error) → Does old.step_limit (mode_of old) params old.now (statement_of text (understood schema text)) None command (Err stop) → HasFailed old new ⊎ reason
  stopped stop h = elim (refused stop h) [ inl limited ↦ inl (inr (inr limited)) | inr why ↦ inr why ]

  -- the part of an error that the statement itself has
  run_blamed : (c : Compiled) → understood old.now.schema text ≡ Ok c → RunsCommand old new text c params (Err e) → HasFailed old new ⊎ reason
  run_blamed c is h =
      let it : understood schema text ≡ Ok c = sym known ∙ is in
      let bare = subst IsPlain it means.1 in
      let command_is : c.command ≡ command = ap command_of (sym it) ∙ means.0 in
      let so : (stop : Option Error) → Does old.step_limit (mode_of old) params old.now (statement_of text (Ok c)) c.returning c.command (Err stop) → HasFailed old new ⊎ reason =
      λ stop does. stopped stop (subst₂ (λ r k. Does old.step_limit (mode_of old) params old.now (statement_of text r) None k (Err stop)) (sym it) command_is (rw bare.0 at does)) in
      elim h [
        | inl (inl misplaced, same) ↦ absurd (never_misplaced old command e work (subst (λ k. IsMisplaced old k e) command_is misplaced))
        | inl (inr does, same) ↦ so (Some e) does.1
        | inr fails ↦ elim (cause_blamed old new _ fails.0 e fails.1 other fails.2) [ inl failed ↦ inl failed | inr big ↦ so None big ]
      ]

  pub error_blamed : Executes text params old new (Err e) → HasFailed old new ⊎ reason
  unfolding ExecutesIn
  error_blamed (inl h) = inl (not_run_failed schema text params means.1 whole old new e has other h)
  error_blamed (inr h) =
      let it : understood schema text ≡ Ok h.0 = sym known ∙ h.1.is in
      let bare = subst IsPlain it means.1 in
      let command_is : h.0.command ≡ command = ap command_of (sym it) ∙ means.0 in
      run_blamed h.0 h.1.is (rw (bare.1, append-nil params) at (rw (shows_none h.0 (subst IsWork (sym command_is) work) bare.0) at h.2))

pub write_blamed : (old new : State) (text : List ℕ) (params : Row) (command : Command) (writing : Writing text command) (change : IsChange command) (whole : IsWhole text params) (reason : Type 0) (refused : RefusedFor old text params command reason)
    (e : Error) (ready : IsReady old) (other : e ≢ SqliteFailure code.OutOfMemory) → Executes text params old new (Err e) → HasFailed old new ⊎ reason
write_blamed old new text params command writing change whole reason refused e ready other =
    error_blamed shelf_schema text params command writing (change_works command change) whole old new ready.shelf.schema reason refused e other
