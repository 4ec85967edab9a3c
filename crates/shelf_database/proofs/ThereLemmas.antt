-- What a call on stickers gives that looked first whether its target is there.
use Rattle.std.proofs.Common.{◌≡◌, ◌⊎◌, arith, is_ok, inl, inr, false, Option, Some, None, Result, Ok, Err, List, ℕ, refl, sym, subst}
use Rattle.sqlite.specs.Effect.{Database}
use Rattle.sqlite.specs.Store.{Ghosts}
use Rattle.sqlite.specs.Held.{Held, state}
use Rattle.sqlite.specs.State.{State, HasCleanDisk}
use Rattle.shelf.specs.declared.faults.ShelfFault.{ShelfFault}
use Rattle.shelf.specs.declared.faults.ShelfFault.TheVariants.{NoSuchList, StoreFault, NoMemory, Exists, BadName, NoSticker}
use Rattle.shelf.specs.declared.kinds.StickerKind.{StickerKind}
use Rattle.shelf.specs.Calls.{Call, DeleteStickers}
use Rattle.shelf.specs.Shelf.{maps_once_done}
use Rattle.shelf.specs.Maps.{Maps, Changes, Trusted, Answers, AnswersAll, first_of}
use Rattle.shelf_database.specs.Tables.{note_maps, IsReady, Reads, database_standing}
use Rattle.shelf_database.specs.Faults.{CannotDo, StoreFailed}
use Rattle.shelf_database.specs.Notes.{AnswersThere, AnswersAllThere, ChangesThere}
use Rattle.shelf_database.specs.Settled.{same_maps}
use Rattle.shelf_database.proofs.FaultLemmas.{answers_for, failed_after}
use Rattle.shelf_database.proofs.QueryLemmas.{own_same, read_changes, read_then_by}

-- no refusal of the target lets that of the sticker speak
later_refusal : (first later : Option ShelfFault) → first ≡ None → first_of first later ≡ later
later_refusal first later none = rw none refl

-- a call that only the target refuses
pub target_alone : {X : Type 0} (first : Option ShelfFault) (failed : Type 0) (r : Result X ShelfFault) → Answers failed (first_of first None) r → Answers failed first r
target_alone None failed r h = h
target_alone (Some why) failed r h = h

module _ (old mid new : State) (call : Call) (reads : Reads old mid) (clean : HasCleanDisk mid) (trusted : Trusted (database_standing old) (database_standing new)) where
  pub failed_then : StoreFailed mid new call → StoreFailed old new call
  failed_then (inl failed) = inl (failed_after old mid new reads clean trusted.1.ready failed)
  failed_then (inr cannot) = inr (subst (λ (d : Database). CannotDo d.trees call) (reads.same clean trusted.1.ready).0.now_is cannot)

  trust_then : Trusted (database_standing mid) (database_standing new)
  trust_then = (trusted.0, own_same old mid trusted.1 (reads.same clean trusted.1.ready))

  pub answers_then : {X : Type 0} (r : Result X ShelfFault) (first : Option ShelfFault) (refusal : Maps → Option ShelfFault) → first ≡ None → AnswersThere mid new call refusal r → Answers (StoreFailed old new call) (first_of first (refusal (note_maps old.now.trees))) r
  answers_then r first refusal none answers =
      let there = subst (λ (d : Database). Answers (StoreFailed mid new call) (refusal (note_maps d.trees)) r) (reads.same clean trusted.1.ready).0.now_is (answers trust_then) in
      subst (λ why. Answers (StoreFailed old new call) why r) (sym (later_refusal first _ none)) (answers_for (StoreFailed mid new call) (StoreFailed old new call) _ r failed_then there)

pub all_answers_for : {X : Type 0} (weak failed : Type 0) (first : Option ShelfFault) (named : List ℕ → Option (List ℕ)) (r : Result X ShelfFault) → first ≡ None → (weak → failed) → AnswersAll weak None named r → AnswersAll failed first named r
all_answers_for weak failed first named (Ok x) none why h = (none, h.1)
all_answers_for weak failed first named (Err NoSuchList) none why h = absurd (cc)
all_answers_for weak failed first named (Err Exists) none why h = absurd (cc)
all_answers_for weak failed first named (Err BadName) none why h = absurd (cc)
all_answers_for weak failed first named (Err NoSticker) none why h = (none, h.1)
all_answers_for weak failed first named (Err StoreFault) none why h = why h
all_answers_for weak failed first named (Err NoMemory) none why h = h

-- a query changes nothing, whatever the call was to make
undone_changes : (old new : State) (after : Maps) → Reads old new → Changes (database_standing old) (database_standing new) false after
undone_changes old new after reads = let it = read_changes old new false reads in record {
  clean = it.clean;
  counts = it.counts;
  stays_open = it.stays_open;
  ours = it.ours;
  done = λ trusted is. absurd (cc);
  kept = it.kept;
  stop = λ trusted m left. inl (left.0, reads.leaves trusted.0 trusted.1.ready left.0 left.1, left.2);
}

-- a call that does nothing
pub idle_changes : (s : State) (after : Maps) → Changes (database_standing s) (database_standing s) false after
idle_changes s after = record {
  clean = λ clean. clean;
  counts = omega arith;
  stays_open = λ clean opened. inl opened;
  ours = λ trusted opened. trusted.1;
  done = λ trusted is. absurd (cc);
  kept = λ trusted is opened. same_maps _ _ refl;
  stop = λ trusted m left. inl left;
}

module _ {S : Type 0} (g : Ghosts S) (held mid : Held S) (reads : (mid ≡ held) ⊎ Reads (state g held) (state g mid)) where
  -- what comes after it was looked whether the target is there
  pub changes_there : {X : Type 0} (new : State) (call : Call) (r : Result X ShelfFault) → ChangesThere (state g mid) new call r → ChangesThere (state g held) new call r
  changes_there new call r changes = elim reads [
    | inl same ↦ subst (λ h. ChangesThere (state g h) new call r) same changes
    | inr read ↦ read_then_by (state g held) (state g mid) new (is_ok r) (maps_once_done call) read changes
  ]

  pub idle_there : (after : Maps) → Changes (database_standing (state g held)) (database_standing (state g mid)) false after
  idle_there after = elim reads [
    | inl same ↦ subst (λ h. Changes (database_standing (state g held)) (database_standing (state g h)) false after) (sym same) (idle_changes (state g held) after)
    | inr read ↦ undone_changes (state g held) (state g mid) after read
  ]

  pub answers_there : {X : Type 0} (new : State) (call : Call) (r : Result X ShelfFault) (first : Option ShelfFault) (refusal : Maps → Option ShelfFault) → ChangesThere (state g mid) new call r
      → (HasCleanDisk (state g mid) → IsReady (state g held) → first ≡ None) → AnswersThere (state g mid) new call refusal r → Trusted (database_standing (state g held)) (database_standing new)
      → Answers (StoreFailed (state g held) new call) (first_of first (refusal (note_maps (state g held).now.trees))) r
  answers_there new call r first refusal changes found answers trusted =
      let clean = changes.clean trusted.0 in
      let none = found clean trusted.1.ready in
      elim reads [
        | inl same ↦
            let there = (subst (λ h. AnswersThere (state g h) new call refusal r) same answers) trusted in
            subst (λ why. Answers (StoreFailed (state g held) new call) why r) (sym (later_refusal first _ none)) there
        | inr read ↦ answers_then (state g held) (state g mid) new call read clean trusted r first refusal none answers
      ]

  pub all_answers_there : {X : Type 0} (new : State) (kind : StickerKind) (target : List ℕ) (r : Result X ShelfFault) (first : Option ShelfFault) → ChangesThere (state g mid) new (DeleteStickers kind target) r
      → (HasCleanDisk (state g mid) → IsReady (state g held) → first ≡ None) → AnswersAllThere (state g mid) new kind target r → Trusted (database_standing (state g held)) (database_standing new)
      → AnswersAll (StoreFailed (state g held) new (DeleteStickers kind target)) first ((note_maps (state g held).now.trees).stickers kind target) r
  all_answers_there new kind target r first changes found answers trusted =
      let clean = changes.clean trusted.0 in
      let none = found clean trusted.1.ready in
      elim reads [
        | inl same ↦ all_answers_for (StoreFailed (state g held) new (DeleteStickers kind target)) (StoreFailed (state g held) new (DeleteStickers kind target)) first _ r none (λ why. why)
            ((subst (λ h. AnswersAllThere (state g h) new kind target r) same answers) trusted)
        | inr read ↦
            let there = subst (λ (d : Database). AnswersAll (StoreFailed (state g mid) new (DeleteStickers kind target)) None ((note_maps d.trees).stickers kind target) r) (read.same clean trusted.1.ready).0.now_is
            (answers (trust_then (state g held) (state g mid) new (DeleteStickers kind target) read clean trusted)) in
            all_answers_for (StoreFailed (state g mid) new (DeleteStickers kind target)) (StoreFailed (state g held) new (DeleteStickers kind target)) first _ r none (failed_then (state g held) (state g mid) new (DeleteStickers kind target) read clean trusted) there
      ]
