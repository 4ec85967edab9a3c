-- What one transaction makes of a connection, where its steps are done or not.
use Rattle.std.proofs.Common.{◌≡◌, ◌⊎◌, inl, inr, [], ◌≢◌, Bool, true, false, Result, Ok, Err, IfErr, OnOk, is_ok, refl, sym, ap, subst, ◌∙◌, IsTrue, arith}
use Rattle.std.proofs.lemmas.Bool.{true≢false}
use Rattle.sqlite.specs.declared.error.Error.{Error}
use Rattle.sqlite.specs.Effect.{Database}
use Rattle.sqlite.specs.Store.{Ghosts}
use Rattle.sqlite.specs.Held.{Held, state}
use Rattle.sqlite.specs.State.{State, HasCleanDisk, Survives, Shows, KeepsCounts, IsRolledBack}
use Rattle.sqlite.specs.Steps.{FailsToCommit}
use Rattle.sqlite.specs.declared.error.Error.TheVariants.{SqliteFailure}
use Rattle.sqlite.specs.declared.error.ErrorCode.TheVariants as code
use Rattle.shelf_database.specs.Faults.{HasFailed}
use Rattle.shelf_database.specs.Opens.{Leads, Commits, IsStoppedFor, StopsAmong, ExecutesEach, IsStoppedInMove, move_texts}
use Rattle.shelf_database.proofs.BlameLemmas.{cause_blamed}
use Rattle.shelf_database.proofs.MakingBlame.{IsLater, failed_sooner, failed_later}
use Rattle.shelf_database.proofs.RunLemmas.{inside_still}
use Rattle.shelf_database.proofs.OpensLemmas.{made_clean, made_counts, made_stays_open}

-- nothing was begun, since a transaction was open
pub commits_none : (Before : Database → Type 0) (Made : Database → Database → Type 0) (s : State) → s.in_transaction ≡ true → Commits Before Made s s false
commits_none Before Made s inside = record {
  clean = λ clean. clean;
  counts = omega arith;
  stays_open = λ clean opened. inl opened;
  done = λ clean is before. absurd (cc);
  kept = λ clean is outside before opened. absurd (true≢false (sym inside ∙ outside));
  left = λ clean before trees left. inl left;
}

module _ {S : Type 0} (g : Ghosts S) (held begun : Held S) (begins : begun ≡ record held { in_transaction = true }) (filled new : State) (Before : Database → Type 0) (Made : Database → Database → Type 0) where
  abbrev old : State
  old = state g held

  module _ (is_filled : Bool) (leads : Leads Before Made (state g begun) filled is_filled) where
    first : Leads Before Made (state g (record held { in_transaction = true })) filled is_filled
    first = subst (λ b. Leads Before Made (state g b) filled is_filled) begins leads

    -- what was there before the transaction is committed still
    still_committed : HasCleanDisk filled → IsTrue filled.is_open → filled.committed ≡ old.committed
    still_committed clean opened = (first.kept clean).committed opened

  -- the steps were not done, and were undone
  pub commits_undone : Leads Before Made (state g begun) filled false → Survives filled new (λ _. ⊥) → (HasCleanDisk new → IsRolledBack filled new) → Commits Before Made (state g held) new false
  commits_undone leads ending undone = record {
    clean = λ clean. let low = made_clean g held begun begins filled new leads.survives (λ _. ⊥) ending clean in omega (arith, low, (first false leads).survives.clean);
    counts = made_counts g held begun begins filled new leads.survives (λ _. ⊥) ending;
    stays_open = made_stays_open g held begun begins filled new leads.survives (λ _. ⊥) ending;
    done = λ clean is before. absurd (cc);
    kept = λ clean is outside before opened.
        let sooner = made_clean g held begun begins filled new leads.survives (λ _. ⊥) ending clean in
        let back = undone clean in
        (back.undone opened).0 ∙ still_committed false leads sooner (back.was_open opened);
    left = λ clean before trees left. elim (ending.crash clean trees left) [
      | inl there ↦ elim ((first false leads).survives.crash (made_clean g held begun begins filled new leads.survives (λ _. ⊥) ending clean) trees there) [ inl sooner ↦ inl sooner | inr never ↦ absurd never ]
      | inr never ↦ absurd never
    ];
  }

  abbrev pub Committed : Type 0
  Committed = IsTrue filled.in_transaction × Shows filled new filled.now filled.now false × KeepsCounts filled new × (new.marks ≡ [])

  -- they were done, and the commit was answered
  pub commits_answered : Leads Before Made (state g begun) filled true → Survives filled new (λ db. db ≡ filled.now.trees) → new.in_transaction ≡ false → (r : Result (Unit {0}) Error)
      → (HasCleanDisk new → OnOk r Committed) → (HasCleanDisk new → IfErr r (FailsToCommit filled new)) → Commits Before Made (state g held) new (is_ok r)
  commits_answered leads ending ended r ok err = record {
    clean = λ clean. let low = sooner clean in omega (arith, low, (first true leads).survives.clean);
    counts = made_counts g held begun begins filled new leads.survives (λ db. db ≡ filled.now.trees) ending;
    stays_open = made_stays_open g held begun begins filled new leads.survives (λ db. db ≡ filled.now.trees) ending;
    done = λ clean is before. committed r is before clean (ok clean);
    kept = λ clean is outside before opened. refused r is before clean (err clean) opened;
    left = λ clean before trees left. elim (ending.crash clean trees left) [
      | inl there ↦ elim ((first true leads).survives.crash (sooner clean) trees there) [ inl early ↦ inl early | inr never ↦ absurd never ]
      | inr is ↦ inr (filled.now, (made (sooner clean) before).1, is)
    ];
  }
    where
      sooner : HasCleanDisk new → HasCleanDisk filled
      sooner clean = made_clean g held begun begins filled new leads.survives (λ db. db ≡ filled.now.trees) ending clean

      made : HasCleanDisk filled → Before old.now → IsTrue filled.in_transaction × Made old.now filled.now
      made clean before = (first true leads).done clean refl refl before

      committed : (r : Result (Unit {0}) Error) → IsTrue (is_ok r) → Before old.now → HasCleanDisk new → OnOk r Committed → IsTrue new.is_open × (new.now ≡ new.committed) × (new.in_transaction ≡ false) × Made old.now new.now
      committed (Ok done) is before clean h =
          (h.1.is_open, h.1.now_is ∙ sym h.1.committed_is, ended, subst (λ db. Made old.now db) (sym h.1.now_is) (made (sooner clean) before).1)
      committed (Err e) is before clean h = absurd (cc)

      refused : (r : Result (Unit {0}) Error) → is_ok r ≡ false → Before old.now → HasCleanDisk new → IfErr r (FailsToCommit filled new) → IsTrue new.is_open → new.now ≡ old.committed
      refused (Ok done) is before clean h opened = absurd (cc)
      refused (Err e) is before clean (inl fails) opened =
          let back = fails.3 in (back.undone opened).0 ∙ still_committed true leads (sooner clean) (back.was_open opened)
      refused (Err e) is before clean (inr over) opened = absurd (true≢false (sym (made (sooner clean) before).0 ∙ over.1))

-- ---- why it ends with an error

module _ {S : Type 0} (g : Ghosts S) (held begun : Held S) (begins : begun ≡ record held { in_transaction = true }) (filled new : State) (after : IsLater filled new) where
  failed_begun : HasFailed (state g begun) new → HasFailed (state g held) new
  failed_begun h = subst (λ b. HasFailed (state g b) new) begins h

  pub begun_inside : IsTrue begun.in_transaction
  begun_inside = ap (λ (b : Held S). b.in_transaction) begins

  -- a step was stopped
  pub undone_for : (Before Reason : Database → Type 0) (e : Error) → IsStoppedFor Before Reason (state g begun) filled e → HasCleanDisk new → Before (state g held).now → e ≢ SqliteFailure code.OutOfMemory
      → HasFailed (state g held) new ⊎ Reason (state g held).now
  undone_for Before Reason e stops clean before other = elim (stops (after.0 clean) begun_inside (subst (λ b. Before (state g b).now) (sym begins) before) other) [
    | inl failed ↦ inl (failed_begun (failed_sooner (state g begun) filled new after failed))
    | inr why ↦ inr (subst (λ b. Reason (state g b).now) begins why)
  ]

  -- the commit was answered with an error
  pub uncommitted_for : (r : Result (Unit {0}) Error) → Survives (state g begun) filled (λ _. ⊥) → (HasCleanDisk new → IfErr r (FailsToCommit filled new))
      → IfErr r (λ e. HasCleanDisk new → IsTrue filled.in_transaction → e ≢ SqliteFailure code.OutOfMemory → HasFailed (state g held) new)
  uncommitted_for (Ok done) survives fails = tt
  uncommitted_for (Err e) survives fails = λ clean inside other.
      let failed : FailsToCommit filled new e → HasFailed filled new = λ h. elim h [
        | inl stop ↦ elim (cause_blamed filled new ⊥ stop.0 e stop.1 other stop.2) [ inl why ↦ why | inr never ↦ absurd never ]
        | inr ended ↦ absurd (true≢false (sym inside ∙ ended.1))
      ] in
      failed_begun (failed_later (state g begun) filled new (λ _. ⊥) survives after clean (failed (fails clean)))

-- the statements that were executed, up to one that was stopped
module _ {S : Type 0} (g : Ghosts S) (held begun filled : Held S) (begins : begun ≡ record held { in_transaction = true }) where
  pub stopped_moving : (e : Error) → StopsAmong g move_texts begun filled e → IsStoppedInMove g held e
  stopped_moving e h = (filled, subst (λ b. StopsAmong g move_texts b filled e) begins h)

  pub filled_inside : ExecutesEach g move_texts begun filled → IsTrue filled.in_transaction
  filled_inside h = inside_still g move_texts begun filled (ap (λ (b : Held S). b.in_transaction) begins) h
