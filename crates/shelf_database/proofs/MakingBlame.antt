-- Why a statement that makes the tables of a shelf, inside a transaction, may be answered with an error.
use Rattle.std.proofs.Common.{◌≡◌, ◌≢◌, ◌⊎◌, ◌≤◌, inl, inr, ℕ, pos, List, [], true, Ok, Err, Result, IfErr, Option, None, Some, refl, sym, ap, subst, ◌∙◌, IsTrue, IsSome, arith}
use Rattle.std.proofs.lemmas.Bool.{cases_Bool, true≢false}
use Rattle.sqlite.specs.declared.error.Error.{Error}
use Rattle.sqlite.specs.declared.error.Error.TheVariants.{SqliteFailure}
use Rattle.sqlite.specs.declared.error.ErrorCode.TheVariants as code
use Rattle.sqlite.specs.Order.{Row}
use Rattle.sqlite.specs.Tree.{Trees}
use Rattle.sqlite.specs.Schema.{Schema}
use Rattle.sqlite.specs.Command.{Command}
use Rattle.sqlite.specs.Does.{Does}
use Rattle.sqlite.specs.Effect.{Database}
use Rattle.sqlite.specs.Listing.{understood}
use Rattle.sqlite.specs.State.{State, HasCleanDisk, Survives, mode_of, Escapes, EndsScope, Executes, ExecutesInside}
use Rattle.sqlite.specs.Steps.{FailsToCommit}
use Rattle.sqlite.specs.Store.{Ghosts}
use Rattle.sqlite.specs.Held.{Held, state}
use Rattle.sqlite.proofs.Callers.{command_of, statement_of}
use Rattle.shelf.specs.declared.faults.ShelfFault.{ShelfFault}
use Rattle.shelf.specs.declared.faults.ShelfFault.TheVariants.{NoMemory}
use Rattle.shelf_database.specs.Tables.{profile_number, IsReady}
use Rattle.shelf_database.specs.Faults.{HasFailed}
use Rattle.shelf_database.specs.Opens.{IsBlank, IsUnread, IsStoppedFor, NoReason, Leads, HasNothing}
use Rattle.shelf_database.proofs.MakingLemmas.{Means}
use Rattle.shelf_database.proofs.BlameLemmas.{IsWholeIn, cause_blamed}
use Rattle.shelf_database.proofs.WriteBlame.{IsWork, error_blamed}

-- over such a database the limit on steps alone stops the command
abbrev pub IsSure : (Database → Type 0) → List ℕ → Command → Type 1
IsSure Before text command = (s : State) (stop : Option Error) → Before s.now → Does s.step_limit (mode_of s) [] s.now text None command (Err stop) → IsSome s.step_limit

never_escapes : (s : State) (command : Command) → IsWork command → Escapes 0 s command → ⊥
never_escapes s command work h = elim h [
  | inl ends ↦ elim ends [ inl commit ↦ subst IsWork commit work | inr rollback ↦ subst IsWork rollback work ]
  | inr named ↦ elim named.1 [ inl release ↦ subst IsWork release work | inr back ↦ subst IsWork back work ]
]

-- over such a database the limit on steps, or this reason, stops the command
abbrev pub IsSureFor : (Before : Database → Type 0) → (Database → Type 0) → List ℕ → Row → Command → Type 1
IsSureFor Before Reason text params command = (s : State) (stop : Option Error) → Before s.now → Does s.step_limit (mode_of s) params s.now text None command (Err stop) → IsSome s.step_limit ⊎ Reason s.now

module _ (Before : Database → Type 0) (Reason : Database → Type 0) (schema : Schema) (has : (db : Database) → Before db → db.schema ≡ schema) (text : List ℕ) (params : Row) (command : Command) (work : IsWork command) (means : Means schema text command)
    (bare : IsWholeIn schema text params) (sure : IsSureFor Before Reason (statement_of text (understood schema text)) params command) (old new : State) where
  module _ (e : Error) (before : Before old.now) (other : e ≢ SqliteFailure code.OutOfMemory) where
    known : understood old.now.schema text ≡ understood schema text
    known = ap (λ schema. understood schema text) (has old.now before)

    ran_failed : Executes text params old new (Err e) → HasFailed old new ⊎ Reason old.now
    ran_failed h = error_blamed schema text params command means work bare old new (has old.now before) (Reason old.now) (λ stop does. sure old stop before does) e other h

    ends_none : EndsScope 0 text params old → ⊥
    unfolding EndsScope
    ends_none h = never_escapes old command work (subst (Escapes 0 old) (ap command_of (sym h.1.is ∙ known) ∙ means.0) h.2)

    inside_failed : ExecutesInside 0 text params old new (Err e) → HasFailed old new ⊎ Reason old.now
    inside_failed (inl h) = ran_failed h.0
    inside_failed (inr h) = absurd (ends_none h.0)

  pub stopped_for : (e : Error) → (HasCleanDisk new → IsTrue old.in_transaction → ExecutesInside 0 text params old new (Err e)) → IsStoppedFor Before Reason old new e
  stopped_for e ran clean inside before other = inside_failed e before other (ran clean inside)

-- where there is no such reason
module _ (Before : Database → Type 0) (schema : Schema) (has : (db : Database) → Before db → db.schema ≡ schema) (text : List ℕ) (command : Command) (work : IsWork command) (means : Means schema text command)
    (bare : IsWholeIn schema text []) (sure : IsSure Before (statement_of text (understood schema text)) command) (old new : State) where
  pub stopped : (e : Error) → (HasCleanDisk new → IsTrue old.in_transaction → ExecutesInside 0 text [] old new (Err e)) → IsStoppedFor Before NoReason old new e
  stopped = stopped_for Before NoReason schema has text [] command work means bare (λ s stop before does. inl (sure s stop before does)) old new

-- ---- the statements one after another

-- the disk is no cleaner later, and forgets no fault
abbrev pub IsLater : State → State → Type 0
IsLater mid new = (HasCleanDisk new → HasCleanDisk mid) × (mid.faults ≤ new.faults)

pub later : (mid new : State) (P : Trees → Type 0) → Survives mid new P → IsLater mid new
later mid new P survives = (λ clean. omega (arith, survives.clean), survives.counts)

pub later_then : (old mid new : State) → IsLater old mid → IsLater mid new → IsLater old new
later_then old mid new first second = (λ clean. first.0 (second.0 clean), omega (arith, first.1, second.1))

-- a failure, and what is undone after it
pub failed_sooner : (old mid new : State) → IsLater mid new → HasFailed old mid → HasFailed old new
failed_sooner old mid new after (inl more) = let low = after.1 in inl (omega (arith, low, more))
failed_sooner old mid new after (inr other) = inr other

-- a failure after what was answered
pub failed_later : (old mid new : State) (P : Trees → Type 0) → Survives old mid P → IsLater mid new → HasCleanDisk new → HasFailed mid new → HasFailed old new
failed_later old mid new P survives after clean (inl more) = let low = survives.counts in inl (omega (arith, low, more))
failed_later old mid new P survives after clean (inr (inl shut)) = elim (cases_Bool old.is_open) [
  | inl opened ↦ elim (survives.closes (after.0 clean) opened) [
    | inl still ↦ absurd (true≢false (sym still ∙ shut))
    | inr more ↦ failed_sooner old mid new after (inl more)
  ]
  | inr closed ↦ inr (inl closed)
]
failed_later old mid new P survives after clean (inr (inr limited)) = inr (inr (subst IsSome survives.limit limited))

-- a step after one that was done
pub stopped_after : (First Middle : Database → Type 0) (Made : Database → Database → Type 0) (Reason Later : Database → Type 0) (old mid new : State) (e : Error) → ((was db : Database) → First was → Made was db → Middle db)
    → ((was db : Database) → First was → Made was db → Later db → Reason was) → Leads First Made old mid true → IsLater mid new → IsStoppedFor Middle Later mid new e → IsStoppedFor First Reason old new e
stopped_after First Middle Made Reason Later old mid new e reaches why leads after stops clean inside before other =
    let there = leads.done (after.0 clean) refl inside before in
    elim (stops clean there.0 (reaches old.now mid.now before there.1) other) [
      | inl failed ↦ inl (failed_later old mid new (λ _. ⊥) leads.survives after clean failed)
      | inr reason ↦ inr (why old.now mid.now before there.1 reason)
    ]

-- a step that may be stopped for more
pub stopped_more : (Before : Database → Type 0) (Reason More : Database → Type 0) (old new : State) (e : Error) → ((db : Database) → Reason db → More db) → IsStoppedFor Before Reason old new e → IsStoppedFor Before More old new e
stopped_more Before Reason More old new e more stops clean inside before other = elim (stops clean inside before other) [ inl failed ↦ inl failed | inr reason ↦ inr (more old.now reason) ]

-- ---- the transaction

module _ {S : Type 0} (g : Ghosts S) (held begun : Held S) (begins : begun ≡ record held { in_transaction = true }) (filled new : State) (after : IsLater filled new) where
  failed_begun : HasFailed (state g begun) new → HasFailed (state g held) new
  failed_begun h = subst (λ b. HasFailed (state g b) new) begins h

  inside : IsTrue (state g begun).in_transaction
  inside = ap (λ (b : Held S). b.in_transaction) begins

  nothing : IsBlank (state g held) → HasNothing (state g begun).now
  nothing blank = subst (λ b. HasNothing (state g b).now) (sym begins) blank.schema

  -- the tables were not made
  pub unfilled_failed : (e : Error) → IsStoppedFor HasNothing NoReason (state g begun) filled e → HasCleanDisk new → IsBlank (state g held) → e ≢ SqliteFailure code.OutOfMemory → HasFailed (state g held) new
  unfilled_failed e stops clean blank other = elim (stops (after.0 clean) inside (nothing blank) other) [
    | inl failed ↦ failed_begun (failed_sooner (state g begun) filled new after failed)
    | inr never ↦ absurd never
  ]

  -- they were not committed
  pub uncommitted_failed : (After : Database → Type 0) (r : Result (Unit {0}) Error) → Leads HasNothing (λ was. After) (state g begun) filled true → (HasCleanDisk new → IfErr r (FailsToCommit filled new))
      → IfErr r (λ e. HasCleanDisk new → IsBlank (state g held) → e ≢ SqliteFailure code.OutOfMemory → HasFailed (state g held) new)
  uncommitted_failed After (Ok done) leads fails = tt
  uncommitted_failed After (Err e) leads fails = λ clean blank other.
      let failed : FailsToCommit filled new e → HasFailed filled new = λ h. elim h [
        | inl stop ↦ elim (cause_blamed filled new ⊥ stop.0 e stop.1 other stop.2) [ inl why ↦ why | inr never ↦ absurd never ]
        | inr ended ↦ absurd (true≢false (sym (leads.done (after.0 clean) refl inside (nothing blank)).0 ∙ ended.1))
      ] in
      failed_begun (failed_later (state g begun) filled new (λ _. ⊥) leads.survives after clean (failed (fails clean)))

-- ---- the number that is there

pub unread_for : (old new : State) (r : Result (Unit {0}) ShelfFault) → (HasCleanDisk new → IsReady old → profile_number old.now.trees ≡ Some (pos 2) → IfErr r (λ fault. fault ≡ NoMemory)) → IfErr r (IsUnread old new)
unread_for old new (Ok done) memory = tt
unread_for old new (Err fault) memory = λ clean ready number store. absurd (let is = sym store ∙ memory clean ready number in cc)
