-- What the private calls that run one statement give the calls of a shelf.
use Rattle.std.proofs.Common.{◌≡◌, ◌≢◌, ◌⊎◌, inl, inr, ℕ, List, [], ◌∷◌, Option, Some, None, Result, Ok, Err, IsErrAnd, IfErr, IsSome, is_ok, slice_get, true, refl, sym, subst, ◌∙◌, arith}
use Rattle.std.proofs.lemmas.Result.{err_from_is_err_and}
use Rattle.sqlite.specs.declared.error.Error.{Error}
use Rattle.sqlite.specs.declared.error.Error.TheVariants.{SqliteFailure}
use Rattle.sqlite.specs.declared.error.ErrorCode.TheVariants as code
use Rattle.sqlite.specs.Order.{Row, column}
use Rattle.sqlite.specs.Query.{IsAnswer}
use Rattle.sqlite.specs.Program.{overlay}
use Rattle.sqlite.specs.Command.{Command}
use Rattle.sqlite.specs.State.{State, HasCleanDisk, Survives, Shown, Executes, CommitsBy, CommitsShowing}
use Rattle.shelf.specs.Maps.{Maps, Changes, Trusted, Answers, AnswersAll}
use Rattle.shelf.specs.declared.faults.ShelfFault.{ShelfFault}
use Rattle.shelf.specs.declared.faults.ShelfFault.TheVariants.{NoMemory, StoreFault}
use Rattle.shelf_database.specs.Asks.{IsFor, IsRefused, IsTextless, Refuses, Ran}
use Rattle.shelf_database.specs.Faults.{HasFailed, LacksText, IsNoText}
use Rattle.shelf_database.specs.Tables.{IsReady, Reads, database_standing}
use Rattle.shelf_database.proofs.Statements.{Writing}
use Rattle.shelf_database.proofs.LacksLemmas.{first_lacks}
use Rattle.shelf_database.proofs.QueryLemmas.{answer_of, leaves_same, shown_same, failed_before, query_failed}
use Rattle.shelf_database.proofs.WriteLemmas.{IsAsBefore, unchanged_is, IsChange, DoesSo, write_changes}
use Rattle.shelf_database.proofs.WriteBlame.{RefusedFor, write_blamed}
use Rattle.shelf_database.proofs.BlameLemmas.{Question, IsWhole}

-- ---- faults

-- how an error of the connection is told
pub told : (fault : ShelfFault) (e : Error) → (fault ≡ NoMemory) ⊎ (fault ≡ StoreFault) → (e ≡ SqliteFailure code.OutOfMemory → fault ≡ NoMemory) → IsFor (e ≢ SqliteFailure code.OutOfMemory) fault
told fault e (inl memory) named = inl memory
told fault e (inr store) named = inr (store, λ memory. let both = sym store ∙ named memory in cc)

-- why the text of a first row is not given
pub textless : (rows : List Row) (row : Row) (fault : ShelfFault) → slice_get rows 0 ≡ Some row → (fault ≡ NoMemory) ⊎ (fault ≡ StoreFault) → (fault ≡ StoreFault → IsNoText (column row 0)) → IsFor (LacksText (0 ∷ []) (λ _. true) rows) fault
textless rows row fault first (inl memory) lacks = inl memory
textless rows row fault first (inr store) lacks = inr (store, first_lacks rows row first (lacks store))

pub for_this : (reason other : Type 0) (fault : ShelfFault) → (reason → other) → IsFor reason fault → IsFor other fault
for_this reason other fault why (inl memory) = inl memory
for_this reason other fault why (inr store) = inr (store.0, why store.1)

pub answers_fault : (X : Type 0) (failed : Type 0) (refusal : Option ShelfFault) (fault : ShelfFault) → IsFor failed fault → Answers {X = X} failed refusal (Err fault)
answers_fault X failed refusal fault (inl memory) = subst (λ f. Answers {X = X} failed refusal (Err f)) (sym memory) tt
answers_fault X failed refusal fault (inr store) = subst (λ f. Answers {X = X} failed refusal (Err f)) (sym store.0) store.1

pub answers_all_fault : (X : Type 0) (failed : Type 0) (refusal : Option ShelfFault) (named : List ℕ → Option (List ℕ)) (fault : ShelfFault) → IsFor failed fault → AnswersAll {X = X} failed refusal named (Err fault)
answers_all_fault X failed refusal named fault (inl memory) = subst (λ f. AnswersAll {X = X} failed refusal named (Err f)) (sym memory) tt
answers_all_fault X failed refusal named fault (inr store) = subst (λ f. AnswersAll {X = X} failed refusal named (Err f)) (sym store.0) store.1

-- what `?` hands on
pub handed_on : {X : Type 0} (r : Result X ShelfFault) (fault : ShelfFault) → IsErrAnd r (λ e. e ≡ fault) → r ≡ Err fault
handed_on r fault h = let how = err_from_is_err_and r h in rw (how.1, how.2) refl

-- ---- questions

module _ (text : List ℕ) (params : Row) (q : Question text params) (old new : State) (survives : Survives old new (CommitsShowing text params old)) where
  -- where the text of a first row is asked for
  pub text_reads : (HasCleanDisk new → (rows : List Row) × Shown text params old new rows) → Reads old new
  text_reads shown = record {
    clean = λ h. omega (arith, survives.clean);
    counts = survives.counts;
    stays_open = survives.closes;
    limit = survives.limit;
    same = λ clean ready. let h = shown clean in shown_same text q.query q.names q.reading params old new ready h.0 h.1;
    leaves = leaves_same text q.query q.names q.reading params old new survives;
  }

  pub asked_reads : (rows : List Row) → (HasCleanDisk new → Shown text params old new rows) → Reads old new
  asked_reads rows shown = text_reads (λ clean. (rows, shown clean))

  pub asked_answer : (rows : List Row) → IsReady old → Shown text params old new rows → IsAnswer q.query (overlay old.now.trees []) params rows
  asked_answer rows ready shown = answer_of text q.query q.names q.reading params old new ready rows shown

  pub blamed_for : (fault : ShelfFault) → IsReady old → IsRefused text params old new fault → IsFor (HasFailed old new) fault
  blamed_for fault ready h = for_this (h.0 ≢ SqliteFailure code.OutOfMemory) (HasFailed old new) fault (λ other. q.blamed old new h.0 ready other h.1) h.2

  before : (fault : ShelfFault) → IsRefused text params old new fault ⊎ IsTextless text params old new fault → IsReady old → IsAsBefore old new
  before fault (inl h) ready = failed_before text q.query q.names q.reading params old new ready h.0 h.1
  before fault (inr h) ready = unchanged_is old new (shown_same text q.query q.names q.reading params old new ready h.0 h.1)

  -- where the text of a first row is asked for
  pub text_refuses : (reason : Type 0) (fault : ShelfFault) → ((rows : List Row) → IsAnswer q.query (overlay old.now.trees []) params rows → LacksText (0 ∷ []) (λ _. true) rows → reason)
      → (HasCleanDisk new → IsRefused text params old new fault ⊎ IsTextless text params old new fault) → Refuses old new (HasFailed old new ⊎ reason) fault
  text_refuses reason fault lacks refused = record {
    changes = λ after. query_failed text q.query q.names q.reading params old new after (λ clean ready. before fault (refused clean) ready) survives;
    told = λ clean ready. elim (refused clean) [
      | inl h ↦ for_this (HasFailed old new) (HasFailed old new ⊎ reason) fault (λ failed. inl failed) (blamed_for fault ready h)
      | inr h ↦ for_this (LacksText (0 ∷ []) (λ _. true) h.0) (HasFailed old new ⊎ reason) fault (λ none. inr (lacks h.0 (asked_answer h.0 ready h.1) none)) h.2
    ];
  }

  pub asked_refuses : (fault : ShelfFault) → (HasCleanDisk new → IsRefused text params old new fault) → Refuses old new (HasFailed old new) fault
  asked_refuses fault refused = record {
    changes = λ after. query_failed text q.query q.names q.reading params old new after (λ clean ready. before fault (inl (refused clean)) ready) survives;
    told = λ clean ready. blamed_for fault ready (refused clean);
  }

-- a call that a query refuses
pub refused_answers : (X : Type 0) (old new : State) (reason failed : Type 0) (refusal : Option ShelfFault) (fault : ShelfFault) → (reason → failed) → Refuses old new reason fault → Trusted (database_standing old) (database_standing new)
    → Answers {X = X} failed refusal (Err fault)
refused_answers X old new reason failed refusal fault why refuses trusted = answers_fault X failed refusal fault (for_this reason failed fault why (refuses.told trusted.0 trusted.1.ready))

-- ---- changes

pub answers_done : {X : Type 0} (failed : Type 0) (refusal : Option ShelfFault) (r : Result X ShelfFault) → refusal ≡ None → IfErr r (IsFor failed) → Answers failed refusal r
answers_done {X} failed refusal (Ok x) none h = none
answers_done {X} failed refusal (Err fault) none h = answers_fault X failed refusal fault h

pub answers_all_done : {X : Type 0} (failed : Type 0) (refusal : Option ShelfFault) (named : List ℕ → Option (List ℕ)) (r : Result X ShelfFault) → refusal ≡ None → (name : List ℕ) × IsSome (named name) → IfErr r (IsFor failed)
    → AnswersAll failed refusal named r
answers_all_done {X} failed refusal named (Ok x) none there h = (none, there)
answers_all_done {X} failed refusal named (Err fault) none there h = answers_all_fault X failed refusal named fault h

pub ran_blames : (text : List ℕ) (params : Row) (old new : State) (r : Result (Unit {0}) ShelfFault) (failed : Type 0) → ((e : Error) → e ≢ SqliteFailure code.OutOfMemory → Executes text params old new (Err e) → failed)
    → Ran text params old new r → IfErr r (IsFor failed)
ran_blames text params old new (Ok done) failed why h = tt
ran_blames text params old new (Err fault) failed why h = for_this (h.0 ≢ SqliteFailure code.OutOfMemory) failed fault (λ other. why h.0 other h.1) h.2

module _ (text : List ℕ) (params : Row) (command : Command) (writing : Writing text command) (change : IsChange command) (old new : State) (r : Result (Unit {0}) ShelfFault)
    (ran : HasCleanDisk new → Ran text params old new r) where
  pub statement_changes : (after : Maps) → (IsReady old → DoesSo old text params command after) → Survives old new (CommitsBy text params old) → Changes (database_standing old) (database_standing new) (is_ok r) after
  statement_changes after does survives = write_changes old new text params command writing change after does (is_ok r) (λ clean. ran_as r (ran clean)) survives
    where
      ran_as : (r : Result (Unit {0}) ShelfFault) → Ran text params old new r → (q : Result ℕ Error) × (is_ok q ≡ is_ok r) × Executes text params old new q
      ran_as (Ok done) h = (Ok h.0, refl, h.1)
      ran_as (Err fault) h = (Err h.0, refl, h.1)

  -- of a statement that only this reason, or a failure of the store, stops
  pub change_blames : (reason failed : Type 0) → IsWhole text params → RefusedFor old text params command reason → IsReady old → HasCleanDisk new → (HasFailed old new ⊎ reason → failed) → IfErr r (IsFor failed)
  change_blames reason failed whole refused ready clean why =
      ran_blames text params old new r failed (λ e other stopped. why (write_blamed old new text params command writing change whole reason refused e ready other stopped)) (ran clean)
