-- What an open makes of a store without tables, and of one that has them.
use Rattle.std.proofs.Common.{◌≡◌, ◌≢◌, ◌⊎◌, ◌≤◌, inl, inr, ℕ, pos, List, Bool, true, false, IsTrue, length, Some, Result, Ok, Err, OnOk, is_ok, refl, sym, ap, subst, ◌∙◌, arith}
use Rattle.sqlite.specs.declared.error.Error.{Error}
use Rattle.sqlite.specs.Disk.{MoreFaults}
use Rattle.sqlite.specs.Order.{Row}
use Rattle.sqlite.specs.Tree.{Trees}
use Rattle.sqlite.specs.Query.{Query}
use Rattle.sqlite.specs.Schema.{Schema}
use Rattle.sqlite.specs.Effect.{Database}
use Rattle.sqlite.specs.Store.{Ghosts}
use Rattle.sqlite.specs.Held.{Held, state}
use Rattle.sqlite.specs.State.{State, HasCleanDisk, Survives, FailsToQuery, CommitsShowing}
use Rattle.shelf.specs.Maps.{Maps}
use Rattle.shelf_database.specs.Settled.{same_maps}
use Rattle.shelf_database.specs.Tables.{no_schema, former_schema, shelf_schema, has_notes, note_maps, profile_number, IsReady, HoldsTexts, Reads}
use Rattle.shelf_database.specs.Opens.{IsBlank, Holds, Leads, HasNothing, HasTables, IsLeft, Opens}
use Rattle.shelf_database.proofs.Statements.{Reading, ReadingIn}
use Rattle.shelf_database.proofs.QueryLemmas.{ready_same, failed_in, leaves_in}
use Rattle.shelf_database.proofs.WriteLemmas.{IsAsBefore}
use Rattle.std.proofs.lemmas.Bool.{true≢false}

-- over tables with note, a shelf finds those of profile 2
noted_holds : (s : State) (maps : Maps) → has_notes s.now.schema ≡ true → Holds s maps → IsReady s × (maps ≡ note_maps s.now.trees)
noted_holds s maps noted (inl h) = absurd (true≢false (sym noted ∙ ap has_notes h.0.schema))
noted_holds s maps noted (inr (inl h)) = h
noted_holds s maps noted (inr (inr h)) = absurd (true≢false (sym noted ∙ ap has_notes h.0.shelf.schema))

blank_holds : (s : State) (maps : Maps) → s.now.schema ≡ no_schema → Holds s maps → IsBlank s
blank_holds s maps none (inl h) = h.0
blank_holds s maps none (inr (inl h)) = absurd (let no = ap (λ (s : Schema). length s.tables) (sym none ∙ h.0.shelf.schema) in cc)
blank_holds s maps none (inr (inr h)) = absurd (let no = ap (λ (s : Schema). length s.tables) (sym none ∙ h.0.shelf.schema) in cc)

-- while a store is open, a stop leaves what it committed last
abbrev pub Settles : State → Type 0
Settles s = (trees : Trees) → IsTrue s.is_open → s.may_leave trees → trees ≡ s.committed.trees

pub left_as_it_was : (s : State) (maps : Maps) → Settles s → Holds s maps → IsTrue s.is_open → (trees : Trees) → s.may_leave trees → trees ≡ s.now.trees
left_as_it_was s maps settles (inl h) opened trees left = settles trees opened left ∙ ap (λ (d : Database). d.trees) (sym h.0.settled)
left_as_it_was s maps settles (inr (inl h)) opened trees left = settles trees opened left ∙ ap (λ (d : Database). d.trees) (sym h.0.settled)
left_as_it_was s maps settles (inr (inr h)) opened trees left = settles trees opened left ∙ ap (λ (d : Database). d.trees) (sym h.0.settled)

-- ---- tables that are there

-- they were read, and have the number where the open is done
pub opens_read : (old new : State) (is_done : Bool) → has_notes old.now.schema ≡ true → Settles old → Reads old new
    → (HasCleanDisk new → IsReady old → IsTrue is_done → profile_number old.now.trees ≡ Some (pos 2)) → Opens old new is_done
opens_read old new is_done noted settles reads number = record {
  clean = reads.clean;
  counts = reads.counts;
  stays_open = reads.stays_open;
  done = λ clean maps holds is.
      let held = noted_holds old maps noted holds in
      let same = reads.same clean held.0 in
      let now : new.now ≡ old.now = same.0.now_is in (
        same.0.is_open,
        ready_same old new held.0 same,
        ap (λ (d : Database). profile_number d.trees) now ∙ number clean held.0 is,
        same_maps _ _ (held.1 ∙ ap (λ (d : Database). note_maps d.trees) (sym now)),
      );
  ours = λ clean may is. elim may [
    | inl blank ↦ absurd (true≢false (sym noted ∙ ap has_notes blank.schema))
    | inr (inl own) ↦
        let same = reads.same clean own.0 in
        let now : new.now ≡ old.now = same.0.now_is in
        record {
          is_open = same.0.is_open;
          ready = ready_same old new own.0 same;
          number = ap (λ (d : Database). profile_number d.trees) now ∙ number clean own.0 is;
          texts = subst (λ (d : Database). HoldsTexts d.trees) (sym now) own.1;
        }
    | inr (inr former) ↦ absurd (true≢false (sym noted ∙ ap has_notes former.0.shelf.schema))
  ];
  moved = λ clean former is. absurd (true≢false (sym noted ∙ ap has_notes former.shelf.schema));
  kept = λ clean maps holds is opened. (reads.same clean (noted_holds old maps noted holds).0).0.now_is;
  spared = λ clean ready opened. (reads.same clean ready).0.now_is;
  stop = λ clean maps holds m left. inl (left.0, reads.leaves clean (noted_holds old maps noted holds).0 left.0 left.1, left.2);
  whole = λ clean opened maps holds trees left. inl (left_as_it_was old maps settles holds opened trees (reads.leaves clean (noted_holds old maps noted holds).0 trees left));
}

-- the query was answered with an error, over tables of either profile
module _ (text : List ℕ) (query : Query) (names : List (List ℕ)) (reading : Reading text query names) (former : ReadingIn former_schema text query names) (params : Row) (old new : State) (e : Error) (some : old.now.schema ≢ no_schema) (settles : Settles old)
    (fails : HasCleanDisk new → FailsToQuery text params old new e) (survives : Survives old new (CommitsShowing text params old)) where
  leaves : HasCleanDisk new → (maps : Maps) → Holds old maps → (trees : Trees) → new.may_leave trees → old.may_leave trees
  leaves clean maps (inl h) = absurd (some h.0.schema)
  leaves clean maps (inr (inl h)) = leaves_in shelf_schema text query names reading params old new h.0.shelf.schema survives clean
  leaves clean maps (inr (inr h)) = leaves_in former_schema text query names former params old new h.0.shelf.schema survives clean

  same_after : HasCleanDisk new → old.now ≡ old.committed → IsAsBefore old new → IsTrue new.is_open → new.now ≡ old.now
  same_after clean settled before opened = elim (before.now opened) [ inl same ↦ same | inr undone ↦ undone ∙ sym settled ]

  spared_so : HasCleanDisk new → IsReady old → IsTrue new.is_open → new.now ≡ old.now
  spared_so clean ready opened = same_after clean ready.settled (failed_in shelf_schema text query names reading params old new ready.shelf.schema e (fails clean)) opened

  kept_so : HasCleanDisk new → (maps : Maps) → Holds old maps → IsTrue new.is_open → new.now ≡ old.now
  kept_so clean maps (inl h) opened = absurd (some h.0.schema)
  kept_so clean maps (inr (inl h)) opened = spared_so clean h.0 opened
  kept_so clean maps (inr (inr h)) opened = same_after clean h.0.settled (failed_in former_schema text query names former params old new h.0.shelf.schema e (fails clean)) opened

  pub opens_unread : Opens old new false
  opens_unread = record {
    clean = λ h. omega (arith, survives.clean);
    counts = survives.counts;
    stays_open = survives.closes;
    done = λ clean maps holds is. absurd (cc);
    ours = λ clean may is. absurd (cc);
    moved = λ clean former is. absurd (cc);
    kept = λ clean maps holds is opened. kept_so clean maps holds opened;
    spared = spared_so;
    stop = λ clean maps holds m left. inl (left.0, leaves clean maps holds left.0 left.1, left.2);
    whole = λ clean opened maps holds trees left. inl (left_as_it_was old maps settles holds opened trees (leaves clean maps holds trees left));
  }

pub on_ok : {X E : Type 0} (r : Result X E) (P : Type 0) → IsTrue (is_ok r) → OnOk r P → P
on_ok (Ok x) P is h = h
on_ok (Err e) P is h = absurd (cc)

-- ---- tables that are made in a transaction

module _ {S : Type 0} (g : Ghosts S) (held begun : Held S) (begins : begun ≡ record held { in_transaction = true }) (filled new : State) (filling : Survives (state g begun) filled (λ _. ⊥))
    (Ends : Trees → Type 0) (ending : Survives filled new Ends) where
  pub filled_first : Survives (state g (record held { in_transaction = true })) filled (λ _. ⊥)
  filled_first = subst (λ b. Survives (state g b) filled (λ _. ⊥)) begins filling

  pub made_clean : HasCleanDisk new → HasCleanDisk filled
  made_clean clean = omega (arith, clean, ending.clean)

  pub made_counts : (state g held).faults ≤ new.faults
  made_counts = let low = filled_first.counts in let up = ending.counts in omega (arith, low, up)

  pub made_stays_open : HasCleanDisk new → IsTrue (state g held).is_open → IsTrue new.is_open ⊎ MoreFaults (state g held).faults new.faults
  made_stays_open clean opened = elim (filled_first.closes (made_clean clean) opened) [
    | inl still ↦ elim (ending.closes clean still) [ inl last ↦ inl last | inr more ↦ let low = filled_first.counts in inr (omega (arith, low, more)) ]
    | inr more ↦ let up = ending.counts in inr (omega (arith, more, up))
  ]

  pub made_whole : Settles (state g held) → (state g held).now.schema ≡ no_schema → (HasCleanDisk new → IsBlank (state g held) → (trees : Trees) → Ends trees → HasTables (record { schema = shelf_schema; trees = trees }))
      → HasCleanDisk new → IsTrue (state g held).is_open → (maps : Maps) → Holds (state g held) maps → (trees : Trees) → new.may_leave trees → IsLeft (state g held) trees
  made_whole settles none has clean opened maps holds trees left = elim (ending.crash clean trees left) [
    | inl before ↦ elim (filled_first.crash (made_clean clean) trees before) [ inl first ↦ inl (left_as_it_was (state g held) maps settles holds opened trees first) | inr never ↦ absurd never ]
    | inr ends ↦ let blank = blank_holds (state g held) maps none holds in inr (inl (blank, has clean blank trees ends))
  ]

  -- what a commit writes of the tables that were made
  pub made_tables : Leads HasNothing (λ was. HasTables) (state g begun) filled true → HasCleanDisk new → IsBlank (state g held) → (trees : Trees) → trees ≡ filled.now.trees → HasTables (record { schema = shelf_schema; trees = trees })
  made_tables leads clean blank trees is =
      let has = (leads.done (made_clean clean) refl (ap (λ (b : Held S). b.in_transaction) begins) (subst (λ b. HasNothing (state g b).now) (sym begins) blank.schema)).1 in
      subst (λ t. HasTables (record { schema = shelf_schema; trees = t })) (sym is) (subst (λ s. HasTables (record { schema = s; trees = filled.now.trees })) has.schema has)
