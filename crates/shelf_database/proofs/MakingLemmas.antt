-- What a statement inside a transaction makes of a database that gets its tables.
use Rattle.std.proofs.Common.{◌≡◌, inl, inr, arith, Bool, true, ℕ, List, [], false, None, Option, Ok, Err, Result, is_ok, refl, sym, ap, subst, ◌∙◌, IsTrue}
use Rattle.std.proofs.lemmas.Bool.{cases_Bool}
use Rattle.sqlite.specs.declared.error.Error.{Error}
use Rattle.sqlite.specs.Order.{Row}
use Rattle.sqlite.specs.Table.{Table}
use Rattle.sqlite.specs.Schema.{Schema}
use Rattle.sqlite.specs.Command.{Command}
use Rattle.sqlite.specs.Command.TheVariants.{CreateTable}
use Rattle.sqlite.specs.Change.{created, next_tree, KeepsRows}
use Rattle.sqlite.specs.Effect.{Database, IsDatabase}
use Rattle.sqlite.specs.Listing.{understood}
use Rattle.sqlite.specs.State.{State, HasCleanDisk, Survives, Writes, Runs, KeepsCommit, IsUnchanged, IsRolledBack, ExecutesInside, mode_of}
use Rattle.sqlite.specs.Compile.{table_defined_by}
use Rattle.sqlite.specs.declared.run.Mode.{Mode}
use Rattle.sqlite.specs.Does.{Tally, Does, lacks_sequence}
use Rattle.sqlite.specs.Store.{Ghosts}
use Rattle.sqlite.specs.Held.{Held, state}
use Rattle.sqlite.proofs.Callers.{IsPlain, command_of, statement_of, runs_as}
use Rattle.shelf_database.proofs.DeleteLemmas.{went, same_value}
use Rattle.shelf_database.specs.Opens.{Leads}

-- nothing was run, since the transaction had ended
pub kept_at : {S : Type 0} (g : Ghosts S) (old new : Held S) → new ≡ old → KeepsCommit (state g old) (state g new)
kept_at g old new same = subst (λ h. KeepsCommit (state g old) (state g h)) (sym same) (record { was_open = λ o. o; committed = λ o. refl })

unchanged_keeps : (old new : State) → IsUnchanged old new → KeepsCommit old new
unchanged_keeps old new h = record { was_open = λ o. h.0.was_open; committed = λ o. h.0.committed_is }

undone_keeps : (old new : State) → IsRolledBack old new → KeepsCommit old new
undone_keeps old new h = record { was_open = h.was_open; committed = λ o. (h.undone o).1 }

inside_keeps : (text : List ℕ) (params : Row) (old new : State) (r : Result ℕ Error) → ExecutesInside 0 text params old new r → KeepsCommit old new
inside_keeps text params old new (Ok count) h = record { was_open = λ o. h.1.was_open; committed = λ o. h.1.committed_is }
inside_keeps text params old new (Err e) (inl h) = elim h.1 [ inl same ↦ unchanged_keeps old new same | inr undone ↦ undone_keeps old new undone ]
inside_keeps text params old new (Err e) (inr h) = unchanged_keeps old new h.2

-- the text means this command under the schema
abbrev pub Means : Schema → List ℕ → Command → Type 0
Means schema text command = (command_of (understood schema text) ≡ command) × IsPlain (understood schema text)

abbrev pub IsWriting : Command → Type 1
IsWriting command = (old new : State) (text : List ℕ) (params : Row) (count : ℕ) → Runs old new None command text params count → Writes old new None command text params count

-- the command leads from such a database to such a one
abbrev pub Does-so : (Before After : Database → Type 0) → List ℕ → Command → Type 0
Does-so Before After text command = (limit : Option ℕ) (mode : Mode) (tally : Tally) (before after : Database)
    → Before before → Does limit mode [] before text None command (Ok (tally, after)) → IsDatabase after → After after

module _ (Before : Database → Type 0) (Made : Database → Database → Type 0) (schema : Schema) (has : (db : Database) → Before db → db.schema ≡ schema) (text : List ℕ) (params : Row) (command : Command) (means : Means schema text command)
    (writes : IsWriting command) (old new : State)
    (does : (tally : Tally) → Before old.now → Does old.step_limit (mode_of old) params old.now (statement_of text (understood schema text)) None command (Ok (tally, new.now)) → IsDatabase new.now → Made old.now new.now) where
  done_inside : (count : ℕ) → ExecutesInside 0 text params old new (Ok count) → Before old.now → IsTrue new.in_transaction × Made old.now new.now
  done_inside count h before =
      let w = writes old new _ params count (runs_as text params old new schema (has old.now before) command means.0 means.1 count h.0) in
      (h.1.mode, does w.tally before w.changed w.sound)

  pub leads_by : (r : Result ℕ Error) → (HasCleanDisk new → IsTrue old.in_transaction → ExecutesInside 0 text params old new r) → (old.in_transaction ≡ false → KeepsCommit old new) → Survives old new (λ _. ⊥)
      → Leads Before Made old new (is_ok r)
  leads_by r ran ended survives = record {
    done = λ clean is inside before. go r is (ran clean inside) before;
    kept = λ clean. elim (cases_Bool old.in_transaction) [ inl inside ↦ inside_keeps text params old new r (ran clean inside) | inr outside ↦ ended outside ];
    survives = survives;
  }
    where
      go : (r : Result ℕ Error) → IsTrue (is_ok r) → ExecutesInside 0 text params old new r → Before old.now → IsTrue new.in_transaction × Made old.now new.now
      go (Ok count) is h before = done_inside count h before
      go (Err e) is h before = absurd (cc)

module _ (Before After : Database → Type 0) (schema : Schema) (has : (db : Database) → Before db → db.schema ≡ schema) (text : List ℕ) (command : Command) (means : Means schema text command)
    (writes : IsWriting command) (does : Does-so Before After (statement_of text (understood schema text)) command) (old new : State) where
  pub leads : (r : Result ℕ Error) → (HasCleanDisk new → IsTrue old.in_transaction → ExecutesInside 0 text [] old new r) → (old.in_transaction ≡ false → KeepsCommit old new) → Survives old new (λ _. ⊥)
      → Leads Before (λ was. After) old new (is_ok r)
  leads = leads_by Before (λ was. After) schema has text [] command means writes old new (λ tally before does_it sound. does old.step_limit (mode_of old) tally old.now new.now before does_it sound)

pub both_survive : (old mid new : State) → Survives old mid (λ _. ⊥) → Survives mid new (λ _. ⊥) → Survives old new (λ _. ⊥)
both_survive old mid new first second = record {
  clean = omega (arith, first.clean, second.clean);
  shield = λ h. second.shield (first.shield h);
  counts = omega (arith, first.counts, second.counts);
  limit = second.limit ∙ first.limit;
  closes = λ clean opened. elim (first.closes (omega (arith, clean, second.clean)) opened) [
    | inl still ↦ elim (second.closes clean still) [ inl last ↦ inl last | inr more ↦ inr (omega (arith, more, first.counts)) ]
    | inr more ↦ inr (omega (arith, more, second.counts))
  ];
  crash = λ clean db left. elim (second.crash clean db left) [ inl before ↦ first.crash (omega (arith, clean, second.clean)) db before | inr never ↦ inr never ];
}

-- a step after another
pub leads_then : (Before Middle : Database → Type 0) (First Second Both : Database → Database → Type 0) (old mid new : State) (is_done : Bool) → ((was db : Database) → Before was → First was db → Middle db)
    → ((was db late : Database) → Before was → First was db → Second db late → Both was late) → (HasCleanDisk new → HasCleanDisk mid) → Leads Before First old mid true → Leads Middle Second mid new is_done → Leads Before Both old new is_done
leads_then Before Middle First Second Both old mid new is_done reaches joins sooner first second = record {
  done = λ clean is inside before.
      let one = first.done (sooner clean) refl inside before in
      let two = second.done clean is one.0 (reaches old.now mid.now before one.1) in
      (two.0, joins old.now mid.now new.now before one.1 two.1);
  kept = λ clean. let a = first.kept (sooner clean) in let b = second.kept clean in
      record { was_open = λ o. a.was_open (b.was_open o); committed = λ o. b.committed o ∙ a.committed (b.was_open o) };
  survives = both_survive old mid new first.survives second.survives;
}

-- ---- CREATE TABLE

pub record Creates (before after : Database) (table : Table) : Type 0 where
  pub schema : after.schema ≡ created before.schema table
  pub empty : after.trees (next_tree before.schema) ≡ []
  pub others : KeepsRows before.schema.tables before.trees after.trees

pub creates : (text : List ℕ) (table : Table) (limit : Option ℕ) (mode : Mode) (tally : Tally) (before after : Database) → table_defined_by text ≡ Ok table
    → lacks_sequence (created before.schema table) ≡ false → Does limit mode [] before text None CreateTable (Ok (tally, after)) → Creates before after table
creates text table limit mode tally before after defined plain h =
    let outer = went h in
    let inner = went outer.1 in
    let made = inner.1 in
    let same : made.table ≡ table = same_value (sym made.defined ∙ defined) in
    let schema : inner.0.schema ≡ created before.schema table = made.is ∙ ap (created before.schema) same in
    let counted : lacks_sequence inner.0.schema ≡ false = ap lacks_sequence schema ∙ plain in
    let last : outer.0 ≡ inner.0 = same_value (rw counted at inner.2) in
    let is : after ≡ inner.0 = ap (λ (p : Tally × Database). p.1) (same_value outer.2) ∙ last in
    rw is (record { schema = schema; empty = made.empty; others = made.others })
