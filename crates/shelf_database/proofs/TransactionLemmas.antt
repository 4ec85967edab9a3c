-- What a connection shows after a transaction that changed the tables of a shelf.
use Rattle.std.proofs.Common.{◌≡◌, ◌≢◌, ◌⊎◌, inl, inr, Bool, true, false, [], Result, Ok, Err, OnOk, IfErr, is_ok, refl, sym, ap, subst, ◌∙◌, IsTrue, arith}
use Rattle.std.proofs.lemmas.Bool.{true≢false}
use Rattle.sqlite.specs.declared.error.Error.{Error}
use Rattle.sqlite.specs.declared.error.Error.TheVariants.{SqliteFailure}
use Rattle.sqlite.specs.declared.error.ErrorCode.TheVariants as code
use Rattle.sqlite.specs.Tree.{Trees}
use Rattle.sqlite.specs.Effect.{Database}
use Rattle.sqlite.specs.Store.{Ghosts}
use Rattle.sqlite.specs.Held.{Held, state}
use Rattle.sqlite.specs.State.{State, HasCleanDisk, Survives, Shows, KeepsCounts, IsRolledBack}
use Rattle.sqlite.specs.Steps.{FailsToCommit}
use Rattle.shelf.specs.Maps.{Maps, Same, Changes}
use Rattle.shelf_database.specs.Settled.{same_maps, noted}
use Rattle.shelf_database.specs.Tables.{note_maps, number_of, profile_number, IsShelf, IsReady, IsOwn, HoldsTexts, database_standing}
use Rattle.shelf_database.specs.Faults.{HasFailed}
use Rattle.shelf_database.specs.Moves.{Carries}
use Rattle.shelf_database.specs.Opens.{Leads, IsStoppedFor}
use Rattle.shelf_database.proofs.BlameLemmas.{cause_blamed}
use Rattle.shelf_database.proofs.MakingBlame.{failed_sooner, failed_later}
use Rattle.shelf_database.proofs.OpensLemmas.{made_clean, made_counts, made_stays_open, filled_first}

-- a transaction that was ended: it was done, or undone
module _ {S : Type 0} (g : Ghosts S) (held begun : Held S) (begins : begun ≡ record held { in_transaction = true }) (filled new : State) (filling : Survives (state g begun) filled (λ _. ⊥))
    (Ends : Trees → Type 0) (ending : Survives filled new Ends) (after : Maps) (is_done : Bool)
    (done_so : HasCleanDisk new → IsOwn (state g held) → IsTrue is_done → IsTrue new.is_open × (new.in_transaction ≡ false) × (new.now ≡ new.committed) × Carries after (state g held).now new.now)
    (kept_so : HasCleanDisk new → IsOwn (state g held) → is_done ≡ false → IsTrue new.is_open → (new.in_transaction ≡ false) × (new.now ≡ new.committed) × (new.now ≡ (state g held).now))
    (left_so : HasCleanDisk new → IsOwn (state g held) → (trees : Trees) → Ends trees → Same after (note_maps trees) × (trees 0 ≡ (state g held).now.trees 0)) where
  own_done : HasCleanDisk new → IsOwn (state g held) → IsTrue is_done → IsOwn new
  own_done clean own is =
      let it = done_so clean own is in
      record { is_open = it.0; ready = record { shelf = it.3.shelf; settled = it.2; autocommit = it.1 }; number = ap (number_of 2) it.3.profile ∙ own.number; texts = it.3.texts own.texts }

  own_kept : HasCleanDisk new → IsOwn (state g held) → is_done ≡ false → IsTrue new.is_open → IsOwn new
  own_kept clean own is opened =
      let it = kept_so clean own is opened in
      record {
        is_open = opened;
        ready = record { shelf = subst IsShelf (sym it.2) own.ready.shelf; settled = it.1; autocommit = it.0 };
        number = ap (λ (d : Database). profile_number d.trees) it.2 ∙ own.number;
        texts = subst (λ (d : Database). HoldsTexts d.trees) (sym it.2) own.texts;
      }

  own_ended : (b : Bool) → b ≡ is_done → HasCleanDisk new → IsOwn (state g held) → IsTrue new.is_open → IsOwn new
  own_ended true same clean own opened = own_done clean own (sym same)
  own_ended false same clean own opened = own_kept clean own (sym same) opened

  pub ended_changes : Changes (database_standing (state g held)) (database_standing new) is_done after
  ended_changes = record {
    clean = λ clean. omega (arith, clean, ending.clean, (filled_first g held begun begins filled new filling Ends ending).clean);
    counts = made_counts g held begun begins filled new filling Ends ending;
    stays_open = made_stays_open g held begun begins filled new filling Ends ending;
    ours = λ trusted opened. own_ended is_done refl trusted.0 trusted.1 opened;
    done = λ trusted is. let it = done_so trusted.0 trusted.1 is in (it.0, it.3.maps);
    kept = λ trusted is opened. same_maps _ _ (ap (λ (d : Database). note_maps d.trees) (sym (kept_so trusted.0 trusted.1 is opened).2));
    stop = λ trusted m left. elim (ending.crash trusted.0 left.0 left.1) [
      | inl before ↦ elim ((filled_first g held begun begins filled new filling Ends ending).crash (made_clean g held begun begins filled new filling Ends ending trusted.0) left.0 before) [
        | inl first ↦ inl (left.0, first, left.2)
        | inr never ↦ absurd never
      ]
      | inr ends ↦
          let made = left_so trusted.0 trusted.1 left.0 ends in
          inr (subst (Same after) (sym (left.2 ∙ noted left.0 (ap (number_of 2) made.1 ∙ trusted.1.number))) made.0)
    ];
  }

-- what began is undone where it is dropped, or not committed
module _ {S : Type 0} (g : Ghosts S) (held begun : Held S) (begins : begun ≡ record held { in_transaction = true }) (filled new : State) (Before : Database → Type 0) (Made : Database → Database → Type 0) (is_filled : Bool) (leads : Leads Before Made (state g begun) filled is_filled) where
  at_first : HasCleanDisk filled → IsTrue filled.is_open → filled.committed ≡ (state g held).committed
  at_first clean opened = (leads.kept clean).committed opened ∙ ap (λ (b : Held S). (state g b).committed) begins

  pub rolled_back : HasCleanDisk filled → IsRolledBack filled new → (state g held).now ≡ (state g held).committed → IsTrue new.is_open → (new.in_transaction ≡ false) × (new.now ≡ new.committed) × (new.now ≡ (state g held).now)
  rolled_back clean back settled opened =
      let undone = back.undone opened in
      (back.autocommit, undone.0 ∙ sym undone.1, undone.0 ∙ at_first clean (back.was_open opened) ∙ sym settled)

module _ {S : Type 0} (g : Ghosts S) (held begun : Held S) (begins : begun ≡ record held { in_transaction = true }) (filled new : State) (Before : Database → Type 0) (Made : Database → Database → Type 0) (leads : Leads Before Made (state g begun) filled true) (r : Result (Unit {0}) Error)
    (ended : new.in_transaction ≡ false)
    (ok : HasCleanDisk new → OnOk r (IsTrue filled.in_transaction × Shows filled new filled.now filled.now false × KeepsCounts filled new × (new.marks ≡ [])))
    (err : HasCleanDisk new → IfErr r (FailsToCommit filled new)) (ending : Survives filled new (λ trees. trees ≡ filled.now.trees)) (after : Maps)
    (before : HasCleanDisk new → IsReady (state g held) → Before (state g held).now) (carries : (db : Database) → HasCleanDisk new → IsReady (state g held) → Made (state g held).now db → Carries after (state g held).now db) where
  filled_clean : HasCleanDisk new → HasCleanDisk filled
  filled_clean clean = omega (arith, clean, ending.clean)

  begun_in : IsTrue (state g begun).in_transaction
  begun_in = ap (λ (b : Held S). b.in_transaction) begins

  begun_now : (state g begun).now ≡ (state g held).now
  begun_now = ap (λ (b : Held S). (state g b).now) begins

  pub filled_so : HasCleanDisk new → IsReady (state g held) → IsTrue filled.in_transaction × Made (state g held).now filled.now
  filled_so clean ready =
      let it = leads.done (filled_clean clean) refl begun_in (subst Before (sym begun_now) (before clean ready)) in
      (it.0, subst (λ (d : Database). Made d filled.now) begun_now it.1)

  carried : HasCleanDisk new → IsReady (state g held) → Carries after (state g held).now filled.now
  carried clean ready = carries filled.now clean ready (filled_so clean ready).1

  done_there : (r : Result (Unit {0}) Error) → OnOk r (IsTrue filled.in_transaction × Shows filled new filled.now filled.now false × KeepsCounts filled new × (new.marks ≡ [])) → IsTrue (is_ok r) → Shows filled new filled.now filled.now false
  done_there (Ok x) h is = h.1
  done_there (Err e) h is = absurd (cc)

  back_there : (r : Result (Unit {0}) Error) → IfErr r (FailsToCommit filled new) → is_ok r ≡ false → IsTrue filled.in_transaction → IsRolledBack filled new
  back_there (Ok x) h is inside = absurd (cc)
  back_there (Err e) (inl h) is inside = h.3
  back_there (Err e) (inr h) is inside = absurd (true≢false (sym inside ∙ h.1))

  pub committed_changes : Changes (database_standing (state g held)) (database_standing new) (is_ok r) after
  committed_changes = ended_changes g held begun begins filled new leads.survives (λ trees. trees ≡ filled.now.trees) ending after (is_ok r)
      (λ clean own is.
      let shows = done_there r (ok clean) is in
      (shows.is_open, ended, shows.now_is ∙ sym shows.committed_is, subst (Carries after (state g held).now) (sym shows.now_is) (carried clean own.ready)))
      (λ clean own is opened. rolled_back g held begun begins filled new Before Made true leads (filled_clean clean) (back_there r (err clean) is (filled_so clean own.ready).0) own.ready.settled opened)
      (λ clean own trees is.
      let it = carried clean own.ready in
      (subst (λ (t : Trees). Same after (note_maps t)) (sym is) it.maps, ap (λ (t : Trees). t 0) is ∙ it.profile))

  -- the commit fails where the store does
  pub commit_failed : (e : Error) → r ≡ Err e → HasCleanDisk new → IsReady (state g held) → e ≢ SqliteFailure code.OutOfMemory → HasFailed (state g held) new
  commit_failed e is clean ready other =
      let fails : FailsToCommit filled new e = subst (λ q. IfErr q (FailsToCommit filled new)) is (err clean) in
      let failed : HasFailed filled new = elim fails [
        | inl stop ↦ elim (cause_blamed filled new ⊥ stop.0 e stop.1 other stop.2) [ inl why ↦ why | inr never ↦ absurd never ]
        | inr out ↦ absurd (true≢false (sym (filled_so clean ready).0 ∙ out.1))
      ] in
      subst (λ b. HasFailed (state g b) new) begins (failed_later (state g begun) filled new (λ _. ⊥) leads.survives (filled_clean, ending.counts) clean failed)

-- a step was refused, and all is undone
module _ {S : Type 0} (g : Ghosts S) (held begun : Held S) (begins : begun ≡ record held { in_transaction = true }) (filled new : State) (Before : Database → Type 0) (Made : Database → Database → Type 0) (leads : Leads Before Made (state g begun) filled false)
    (undone : HasCleanDisk new → IsRolledBack filled new) (ending : Survives filled new (λ _. ⊥)) (after : Maps) where
  clean_filled : HasCleanDisk new → HasCleanDisk filled
  clean_filled clean = omega (arith, clean, ending.clean)

  pub dropped_changes : Changes (database_standing (state g held)) (database_standing new) false after
  dropped_changes = ended_changes g held begun begins filled new leads.survives (λ _. ⊥) ending after false
      (λ clean own is. absurd (cc))
      (λ clean own is opened. rolled_back g held begun begins filled new Before Made false leads (clean_filled clean) (undone clean) own.ready.settled opened)
      (λ clean own trees never. absurd never)

  pub dropped_failed : (Reason : Database → Type 0) (e : Error) → IsStoppedFor Before Reason (state g begun) filled e → HasCleanDisk new → Before (state g held).now → e ≢ SqliteFailure code.OutOfMemory → HasFailed (state g held) new ⊎ Reason (state g held).now
  dropped_failed Reason e stops clean before other =
      let now : (state g begun).now ≡ (state g held).now = ap (λ (b : Held S). (state g b).now) begins in
      elim (stops (clean_filled clean) (ap (λ (b : Held S). b.in_transaction) begins) (subst Before (sym now) before) other) [
        | inl failed ↦ inl (subst (λ b. HasFailed (state g b) new) begins (failed_sooner (state g begun) filled new (clean_filled, ending.counts) failed))
        | inr reason ↦ inr (subst Reason now reason)
      ]

-- a disk that is clean at the end was so from the start
pub clean_from_start : {S : Type 0} (g : Ghosts S) (held begun : Held S) → begun ≡ record held { in_transaction = true } → (filled new : State) (Filled Ends : Trees → Type 0) → Survives (state g begun) filled Filled → Survives filled new Ends
    → HasCleanDisk new → HasCleanDisk (state g held)
clean_from_start g held begun begins filled new Filled Ends filling ending clean =
    let first = subst (λ b. Survives (state g b) filled Filled) begins filling in omega (arith, clean, ending.clean, first.clean)
