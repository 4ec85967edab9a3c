-- What an open makes of a store of profile 1, and why it refuses one.
use Rattle.std.proofs.Common.{◌≡◌, ◌≢◌, ◌≤◌, ◌⊎◌, inl, inr, ℕ, pos, List, [], Bool, true, false, Some, None, Option, Ok, Err, Result, IfErr, IsTrue, IsSome, sym, ap, subst, ◌∙◌, arith}
use Rattle.std.proofs.lemmas.Bool.{cases_Bool, true≢false}
use Rattle.sqlite.specs.declared.error.Error.{Error}
use Rattle.sqlite.specs.declared.error.Error.TheVariants.{SqliteFailure}
use Rattle.sqlite.specs.declared.error.ErrorCode.TheVariants as code
use Rattle.sqlite.specs.Order.{Row}
use Rattle.sqlite.specs.Tree.{Trees}
use Rattle.sqlite.specs.Effect.{Database}
use Rattle.sqlite.specs.Store.{Ghosts}
use Rattle.sqlite.specs.Held.{Held, state}
use Rattle.sqlite.specs.State.{State, HasCleanDisk, Shown, ShowsRows, IsUnchanged}
use Rattle.sqlite_resolve.specs.declared.compiled.Compiled.{Compiled}
use Rattle.sqlite_schema.specs.declared.command.Returning.{Returning}
use Rattle.shelf.specs.declared.faults.ShelfFault.{ShelfFault}
use Rattle.shelf.specs.Maps.{Maps, Same}
use Rattle.shelf_database.specs.Faults.{HasFailed}
use Rattle.shelf_database.specs.Settled.{noted}
use Rattle.shelf_database.specs.Tables.{no_schema, shelf_schema, has_notes, note_maps, former_maps, number_of, IsReady, Reads}
use Rattle.shelf_database.specs.Opens.{IsFormer, IsFormerShelf, Holds, HasMoved, Opens, ReadsFormer, Commits, IsStuck, KeepsASticker, StopsMove, FailsToMove, IsUnread, IsUnmoved, IsBlamed, BlamesTables, number_query}
use Rattle.shelf_database.proofs.OpensLemmas.{Settles, left_as_it_was}
use Rattle.shelf_database.proofs.QueryLemmas.{open_through}

-- over tables without note, a shelf finds those of profile 1
former_holds : (s : State) (maps : Maps) → s.now.schema ≢ no_schema → has_notes s.now.schema ≡ false → Holds s maps → IsFormer s × (maps ≡ former_maps s.now.trees)
former_holds s maps some none (inl h) = absurd (some h.0.schema)
former_holds s maps some none (inr (inl h)) = absurd (true≢false (sym (ap has_notes h.0.shelf.schema) ∙ none))
former_holds s maps some none (inr (inr h)) = h

never_ready : (s : State) → has_notes s.now.schema ≡ false → IsReady s → ⊥
never_ready s none ready = true≢false (sym (ap has_notes ready.shelf.schema) ∙ none)

-- the number was asked for, and it is another
pub opens_former_read : (old new : State) → old.now.schema ≢ no_schema → has_notes old.now.schema ≡ false → Settles old → Reads old new → ReadsFormer old new → Opens old new false
opens_former_read old new some none settles reads spares = record {
  clean = reads.clean;
  counts = reads.counts;
  stays_open = reads.stays_open;
  done = λ clean maps holds is. absurd (cc);
  ours = λ clean may is. absurd (cc);
  moved = λ clean former is. absurd (cc);
  kept = λ clean maps holds is opened. (spares.same clean (former_holds old maps some none holds).0).0.now_is;
  spared = λ clean ready opened. absurd (never_ready old none ready);
  stop = λ clean maps holds m left. inl (left.0, spares.leaves clean (former_holds old maps some none holds).0 left.0 left.1, left.2);
  whole = λ clean opened maps holds trees left. inl (left_as_it_was old maps settles holds opened trees (spares.leaves clean (former_holds old maps some none holds).0 trees left));
}

same_tables : (was db : Database) → HasMoved was db → HasMoved was (record { schema = shelf_schema; trees = db.trees })
same_tables was db made = subst (λ s. HasMoved was (record { schema = s; trees = db.trees })) made.shelf.schema made

-- the tables were moved, or the move was undone
module _ (old mid new : State) (is_done : Bool) (some : old.now.schema ≢ no_schema) (none : has_notes old.now.schema ≡ false) (settles : Settles old) (reads : Reads old mid) (spares : ReadsFormer old mid)
    (moves : Commits IsFormerShelf HasMoved mid new is_done) where
  same_mid : HasCleanDisk new → IsFormer old → IsUnchanged old mid
  same_mid clean former = spares.same (moves.clean clean) former

  shelf_mid : HasCleanDisk new → IsFormer old → IsFormerShelf mid.now
  shelf_mid clean former = subst IsFormerShelf (sym (same_mid clean former).0.now_is) former.shelf

  from_old : HasCleanDisk new → IsFormer old → (db : Database) → HasMoved mid.now db → HasMoved old.now db
  from_old clean former db made = subst (λ was. HasMoved was db) (same_mid clean former).0.now_is made

  finished : HasCleanDisk new → IsFormer old → IsTrue is_done → IsTrue new.is_open × IsReady new × HasMoved old.now new.now
  finished clean former is =
      let it = moves.done clean is (shelf_mid clean former) in
      let made = from_old clean former new.now it.3 in
      (it.0, record { shelf = made.shelf; settled = it.1; autocommit = it.2 }, made)

  undone : HasCleanDisk new → IsFormer old → is_done ≡ false → IsTrue new.is_open → new.now ≡ old.now
  undone clean former is opened =
      let same = same_mid clean former in
      moves.kept clean is (same.0.mode ∙ former.autocommit) (shelf_mid clean former) opened ∙ same.0.committed_is ∙ sym former.settled

  -- what a stop leaves
  either : HasCleanDisk new → IsFormer old → (trees : Trees) → new.may_leave trees → old.may_leave trees ⊎ HasMoved old.now (record { schema = shelf_schema; trees = trees })
  either clean former trees left = elim (moves.left clean (shelf_mid clean former) trees left) [
    | inl there ↦ inl (spares.leaves (moves.clean clean) former trees there)
    | inr made ↦ inr (subst (λ t. HasMoved old.now (record { schema = shelf_schema; trees = t })) (sym made.2) (same_tables old.now made.0 (from_old clean former made.0 made.1)))
  ]

  pub opens_former_moved : Opens old new is_done
  opens_former_moved = record {
    clean = λ clean. reads.clean (moves.clean clean);
    counts = let low = reads.counts in let up = moves.counts in omega (arith, low, up);
    stays_open = open_through old mid new reads moves.clean moves.counts moves.stays_open;
    done = λ clean maps holds is.
        let f = former_holds old maps some none holds in
        let it = finished clean f.0 is in
        (it.0, it.1, it.2.number, subst (λ m. Same m (note_maps new.now.trees)) (sym f.1) it.2.maps);
    ours = λ clean may is. elim may [
      | inl blank ↦ absurd (some blank.schema)
      | inr (inl own) ↦ absurd (never_ready old none own.0)
      | inr (inr own) ↦ let it = finished clean own.0 is in record { is_open = it.0; ready = it.1; number = it.2.number; texts = it.2.texts own.1 }
    ];
    moved = λ clean former is. (finished clean former is).2;
    kept = λ clean maps holds is opened. undone clean (former_holds old maps some none holds).0 is opened;
    spared = λ clean ready opened. absurd (never_ready old none ready);
    stop = λ clean maps holds m left.
        let f = former_holds old maps some none holds in
        elim (either clean f.0 left.0 left.1) [
          | inl there ↦ inl (left.0, there, left.2)
          | inr made ↦ inr (subst (λ a. Same a m) (sym f.1) (subst (λ b. Same (former_maps old.now.trees) b) (sym (left.2 ∙ noted left.0 made.number)) made.maps))
        ];
    whole = λ clean opened maps holds trees left.
        let f = former_holds old maps some none holds in
        elim (either clean f.0 trees left) [
          | inl there ↦ inl (left_as_it_was old maps settles holds opened trees there)
          | inr made ↦ inr (inr (f.0, made))
        ];
  }

-- ---- why a move is refused

-- a failure after a query
pub failed_through : (old mid new : State) → Reads old mid → HasCleanDisk mid → mid.faults ≤ new.faults → HasFailed mid new → HasFailed old new
failed_through old mid new reads clean up (inl more) = let low = reads.counts in inl (omega (arith, low, more))
failed_through old mid new reads clean up (inr (inl shut)) = elim (cases_Bool old.is_open) [
  | inl opened ↦ elim (reads.stays_open clean opened) [
    | inl still ↦ absurd (true≢false (sym still ∙ shut))
    | inr more ↦ inl (omega (arith, more, up))
  ]
  | inr closed ↦ inr (inl closed)
]
failed_through old mid new reads clean up (inr (inr limited)) = inr (inr (subst IsSome reads.limit limited))

-- a query neither begins nor ends a transaction
pub shown_mode : (text : List ℕ) (params : Row) (old new : State) (rows : List Row) → Shown text params old new rows → new.in_transaction ≡ old.in_transaction
unfolding Shown
shown_mode text params old new rows h = go h.0 _ h.0.returning h.2
  where
    go : (c : Compiled) (full : Row) (r : Option Returning) → ShowsRows old new text c full rows r → new.in_transaction ≡ old.in_transaction
    go c full None shows = shows.3.0.mode
    go c full (Some what) wrote = wrote.1.shown.mode

module _ (old mid new : State) (reads : Reads old mid) (spares : ReadsFormer old mid) (moves : Commits IsFormerShelf HasMoved mid new false) (e : Error) (other : e ≢ SqliteFailure code.OutOfMemory) where
  pub stuck_through : IsStuck mid new e → HasCleanDisk new → IsFormer old → HasFailed old new ⊎ KeepsASticker old.now.trees
  stuck_through stuck clean former =
      let same = spares.same (moves.clean clean) former in
      let mid_former : IsFormer mid = record {
        shelf = subst IsFormerShelf (sym same.0.now_is) former.shelf;
        settled = same.0.now_is ∙ former.settled ∙ sym same.0.committed_is;
        autocommit = same.0.mode ∙ former.autocommit;
      } in
      elim (stuck.why clean mid_former other) [
        | inl failed ↦ inl (failed_through old mid new reads (moves.clean clean) moves.counts failed)
        | inr why ↦ inr (subst (λ (d : Database). KeepsASticker d.trees) same.0.now_is why)
      ]

module _ {S : Type 0} (g : Ghosts S) (old mid new : Held S) (reads : Reads (state g old) (state g mid)) (moves : Commits IsFormerShelf HasMoved (state g mid) (state g new) false) (rows : List Row)
    (shown : HasCleanDisk (state g mid) → Shown number_query [] (state g old) (state g mid) rows) (one : number_of 0 rows ≡ Some (pos 1)) (e : Error) (other : e ≢ SqliteFailure code.OutOfMemory) where
  pub stops_through : StopsMove g mid new e → HasCleanDisk (state g new) → old.in_transaction ≡ false → FailsToMove g old new
  stops_through stops clean outside =
      let asked = shown (moves.clean clean) in
      elim (stops.why clean (shown_mode number_query [] (state g old) (state g mid) rows asked ∙ outside) other) [
        | inl failed ↦ inl (failed_through (state g old) (state g mid) (state g new) reads (moves.clean clean) moves.counts failed)
        | inr stopped ↦ inr (mid, rows, asked, one, e, other, stopped)
      ]

-- ---- what the whole says of a refusal

-- tables of profile 2 are no tables of profile 1
pub noted_unmoved : (old new : State) (r : Result (Unit {0}) ShelfFault) → has_notes old.now.schema ≡ true → IfErr r (IsUnmoved old new)
noted_unmoved old new (Ok done) there = tt
noted_unmoved old new (Err fault) there = λ clean former one store. absurd (true≢false (sym there ∙ ap has_notes former.shelf.schema))

pub all_blamed : {S : Type 0} (g : Ghosts S) (old new : Held S) (r : Result (Unit {0}) ShelfFault) → old.schema ≢ no_schema → IfErr r (IsUnread (state g old) (state g new)) → IfErr r (IsUnmoved (state g old) (state g new))
    → BlamesTables g old new r → IfErr r (IsBlamed g old new)
all_blamed g old new (Ok done) some unread unmoved other = tt
all_blamed g old new (Err fault) some unread unmoved other = record {
  made = λ clean blank store. absurd (some blank.schema);
  read = unread;
  moved = unmoved;
  other = λ clean there outside store. other clean outside store;
}
