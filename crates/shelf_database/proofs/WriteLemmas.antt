-- What a connection shows after a write that is one statement, whatever it answered, and what a stop during
-- it leaves.
use Rattle.std.proofs.Common.{◌≡◌, ◌⊎◌, inl, inr, ℕ, List, Bool, false, Ok, Err, Result, is_ok, refl, sym, ap, subst, ◌∙◌, IsTrue, arith, append-nil, None}
use Rattle.std.proofs.lemmas.Bool.{cases_Bool}
use Rattle.sqlite.specs.declared.error.Error.{Error}
use Rattle.sqlite.specs.Order.{Row}
use Rattle.sqlite.specs.Tree.{Trees}
use Rattle.sqlite.specs.Command.{Command}
use Rattle.sqlite.specs.Command.TheVariants.{InsertOr, Update, Delete}
use Rattle.sqlite.specs.Effect.{Database, IsDatabase}
use Rattle.sqlite.specs.Listing.{understood}
use Rattle.sqlite.specs.State.{State, HasCleanDisk, Survives, Executes, ExecutesIn, CommitsBy, Runs, Writes, IsUnchanged, Fails, IsNotRun, MayCommit, MayWrite, shows_rows, text_of, mode_of}
use Rattle.sqlite.specs.Does.{Tally, Does}
use Rattle.sqlite.proofs.Callers.{IsPlain, command_of, statement_of, runs_as}
use Rattle.shelf.specs.Maps.{Maps, Same, Changes}
use Rattle.shelf_database.specs.Tables.{shelf_schema, note_maps, number_of, profile_number, IsShelf, IsReady, HoldsTexts, database_standing}
use Rattle.shelf_database.specs.Settled.{same_maps, noted}
use Rattle.shelf_database.proofs.Statements.{Writing}

-- nothing was changed: the call was refused, or what it began was rolled back
pub record IsAsBefore (old new : State) : Type 0 where
  pub was_open : IsTrue new.is_open → IsTrue old.is_open
  pub now : IsTrue new.is_open → (new.now ≡ old.now) ⊎ (new.now ≡ old.committed)
  pub committed : IsTrue new.is_open → new.committed ≡ old.committed
  pub mode : (new.in_transaction ≡ old.in_transaction) ⊎ (new.in_transaction ≡ false)

pub unchanged_is : (old new : State) → IsUnchanged old new → IsAsBefore old new
unchanged_is old new h = record { was_open = λ o. h.0.was_open; now = λ o. inl h.0.now_is; committed = λ o. h.0.committed_is; mode = inl h.0.mode }

failed_is : (old new : State) (big : Type 0) (e : Error) → Fails old new big e → IsAsBefore old new
failed_is old new big e h = record { was_open = h.3.was_open; now = λ o. inr (h.3.undone o).0; committed = λ o. (h.3.undone o).1; mode = inr h.3.autocommit }

pub not_run : (old new : State) (sql : List ℕ) (params : Row) (e : Error) → IsNotRun old new sql params e → IsAsBefore old new
unfolding IsNotRun
not_run old new sql params e (inl h) = unchanged_is old new h.1
not_run old new sql params e (inr h) = failed_is old new _ e h

pub refused_is : (old new : State) (sql : List ℕ) (params : Row) (e : Error) → Executes sql params old new (Err e) → IsAsBefore old new
unfolding ExecutesIn
refused_is old new sql params e (inl h) = not_run old new sql params e h
refused_is old new sql params e (inr h) = elim (cases_Bool (shows_rows false h.0)) [
  | inl shows ↦ unchanged_is old new (rw shows at h.2).1
  | inr runs ↦ elim (rw runs at h.2) [ inl refused ↦ unchanged_is old new refused.1 | inr failed ↦ failed_is old new _ e failed ]
]

-- what the statement does of the database of a shelf: it stays one with its number, its maps are `after`, and
-- rows that hold texts still do
abbrev pub DoesSo : State → List ℕ → Row → Command → Maps → Type 0
DoesSo s text params command after = (tally : Tally) (db : Database)
    → Does s.step_limit (mode_of s) params s.now (statement_of text (understood shelf_schema text)) None command (Ok (tally, db)) → IsDatabase db → IsShelf db × Same after (note_maps db.trees) × (db.trees 0 ≡ s.now.trees 0)
    × (HoldsTexts s.now.trees → HoldsTexts db.trees)

-- a statement that changes rows
abbrev pub IsChange : Command → Type 0
IsChange (InsertOr at how from clauses) = Unit {0}
IsChange (Update at q) = Unit {0}
IsChange (Delete at q) = Unit {0}
IsChange _ = ⊥

is_write : (old new : State) (command : Command) (text : List ℕ) (params : Row) (count : ℕ) → IsChange command → Runs old new None command text params count → Writes old new None command text params count
is_write old new (InsertOr at how from clauses) text params count is h = h
is_write old new (Update at q) text params count is h = h
is_write old new (Delete at q) text params count is h = h
is_write old new _ text params count is h = absurd is

may_write : (s : State) (command : Command) (text : List ℕ) (params : Row) (db : Trees) → IsChange command → MayCommit s None command text params db → MayWrite s None command text params db
may_write s (InsertOr at how from clauses) text params db is (inl h) = absurd (elim h.0 [ inl never ↦ cc | inr released ↦ let e = released.2 in cc ])
may_write s (Update at q) text params db is (inl h) = absurd (elim h.0 [ inl never ↦ cc | inr released ↦ let e = released.2 in cc ])
may_write s (Delete at q) text params db is (inl h) = absurd (elim h.0 [ inl never ↦ cc | inr released ↦ let e = released.2 in cc ])
may_write s (InsertOr at how from clauses) text params db is (inr h) = h
may_write s (Update at q) text params db is (inr h) = h
may_write s (Delete at q) text params db is (inr h) = h
may_write s _ text params db is h = absurd is

module _ (old new : State) (text : List ℕ) (params : Row) (command : Command) (writing : Writing text command) (change : IsChange command) (after : Maps) (does : IsReady old → DoesSo old text params command after) where
  wrote : (count : ℕ) → IsReady old → Executes text params old new (Ok count) → Writes old new None command (statement_of text (understood shelf_schema text)) params count
  wrote count ready h = is_write old new command (statement_of text (understood shelf_schema text)) params count change (runs_as text params old new shelf_schema ready.shelf.schema command writing.0 writing.1 count h)

  ready_after : (count : ℕ) → IsReady old → Executes text params old new (Ok count) → IsReady new × IsTrue new.is_open × Same after (note_maps new.now.trees) × (new.now.trees 0 ≡ old.now.trees 0) × (HoldsTexts old.now.trees → HoldsTexts new.now.trees)
  ready_after count ready h =
      let w = wrote count ready h in
      let done = does ready w.tally new.now w.changed w.sound in
      let settled : new.now ≡ new.committed = sym (w.shown.committed_is ∙ rw ready.autocommit refl) in
      (record { shelf = done.0; settled = settled; autocommit = w.shown.mode ∙ ready.autocommit }, w.shown.is_open, done.1, done.2, done.3)

  ready_before : (e : Error) → IsReady old → Executes text params old new (Err e) → IsTrue new.is_open → IsReady new × (new.now ≡ old.now)
  ready_before e ready h opened =
      let before = refused_is old new text params e h in
      let now : new.now ≡ old.now = elim (before.now opened) [ inl same ↦ same | inr undone ↦ undone ∙ sym ready.settled ] in
      let mode : new.in_transaction ≡ false = elim before.mode [ inl same ↦ same ∙ ready.autocommit | inr ended ↦ ended ] in
      (record { shelf = subst IsShelf (sym now) ready.shelf; settled = now ∙ ready.settled ∙ sym (before.committed opened); autocommit = mode }, now)

  left_after : (db : Trees) → IsReady old → CommitsBy text params old db → Same after (note_maps db) × (db 0 ≡ old.now.trees 0)
  unfolding CommitsBy
  left_after db ready h =
      let known = sym h.1.is ∙ ap (λ schema. understood schema text) ready.shelf.schema in
      let bare = subst IsPlain (sym known) writing.1 in
      let command_is : h.0.command ≡ command = ap command_of known ∙ writing.0 in
      let text_is : text_of text h.0 ≡ statement_of text (understood shelf_schema text) = ap (statement_of text) known in
      let may = rw (bare.0, bare.1, append-nil params, command_is, text_is) at h.2 in
      let write = may_write old command (statement_of text (understood shelf_schema text)) params db change may in
      let done = does ready write.1 write.2 write.3 write.4 in
      (subst (λ trees. Same after (note_maps trees)) (sym write.5) done.1, ap (λ (t : Trees). t 0) write.5 ∙ done.2)

  -- done or refused
  ready_since : (r : Result ℕ Error) → IsReady old → Executes text params old new r → IsTrue new.is_open → IsReady new × (profile_number new.now.trees ≡ profile_number old.now.trees) × (HoldsTexts old.now.trees → HoldsTexts new.now.trees)
  ready_since (Ok count) ready h opened = let it = ready_after count ready h in (it.0, ap (number_of 2) it.3, it.4)
  ready_since (Err e) ready h opened = let it = ready_before e ready h opened in (it.0, ap (λ (d : Database). profile_number d.trees) it.1, subst (λ (d : Database). HoldsTexts d.trees) (sym it.1))

  when_done : (r : Result ℕ Error) → IsTrue (is_ok r) → IsReady old → Executes text params old new r → IsTrue new.is_open × Same after (note_maps new.now.trees)
  when_done (Ok count) is ready h = let it = ready_after count ready h in (it.1, it.2)
  when_done (Err e) is ready h = absurd (cc)

  when_refused : (r : Result ℕ Error) → is_ok r ≡ false → IsReady old → Executes text params old new r → IsTrue new.is_open → Same (note_maps old.now.trees) (note_maps new.now.trees)
  when_refused (Ok count) is ready h opened = absurd (cc)
  when_refused (Err e) is ready h opened = same_maps _ _ (ap (λ (d : Database). note_maps d.trees) (sym (ready_before e ready h opened).1))

  pub write_changes : (is_done : Bool) → (HasCleanDisk new → (r : Result ℕ Error) × (is_ok r ≡ is_done) × Executes text params old new r) → Survives old new (CommitsBy text params old)
      → Changes (database_standing old) (database_standing new) is_done after
  write_changes is_done ran survives = record {
    clean = λ clean. omega (arith, survives.clean);
    counts = survives.counts;
    stays_open = survives.closes;
    ours = λ trusted opened. let h = ran trusted.0 in let it = ready_since h.0 trusted.1.ready h.2 opened in record { is_open = opened; ready = it.0; number = it.1 ∙ trusted.1.number; texts = it.2 trusted.1.texts };
    done = λ trusted is. let h = ran trusted.0 in when_done h.0 (h.1 ∙ is) trusted.1.ready h.2;
    kept = λ trusted is opened. let h = ran trusted.0 in when_refused h.0 (h.1 ∙ is) trusted.1.ready h.2 opened;
    stop = λ trusted m left. elim (survives.crash trusted.0 left.0 left.1) [
      | inl before ↦ inl (left.0, before, left.2)
      | inr commits ↦
          let made = left_after left.0 trusted.1.ready commits in
          inr (subst (Same after) (sym (left.2 ∙ noted left.0 (ap (number_of 2) made.1 ∙ trusted.1.number))) made.0)
    ];
  }
