-- What a connection shows after a query, and after a write that follows it.
use Rattle.std.proofs.Common.{◌≡◌, ◌≤◌, ◌⊎◌, inl, inr, ℕ, List, [], Bool, false, sym, ap, subst, ◌∙◌, IsTrue, arith}
use Rattle.sqlite.specs.declared.error.Error.{Error}
use Rattle.sqlite.specs.declared.types.Value.TheVariants.{Null}
use Rattle.sqlite.specs.Disk.{MoreFaults}
use Rattle.sqlite.specs.Order.{Row}
use Rattle.sqlite.specs.Tree.{Trees}
use Rattle.sqlite.specs.Query.{Query, IsAnswer}
use Rattle.sqlite.specs.Program.{overlay}
use Rattle.sqlite.specs.Schema.{Schema}
use Rattle.sqlite.specs.Effect.{Database}
use Rattle.sqlite.specs.Listing.{understood}
use Rattle.sqlite.specs.State.{State, HasCleanDisk, Survives, Shown, FailsToQuery, CommitsShowing, IsUnchanged}
use Rattle.sqlite.proofs.Callers.{IsPlain, reads_as, never_commits}
use Rattle.shelf.specs.Maps.{Maps, Same, Changes, Trusted}
use Rattle.shelf_database.specs.Tables.{shelf_schema, note_maps, profile_number, IsShelf, IsReady, IsOwn, HoldsTexts, Reads, database_standing}
use Rattle.shelf_database.specs.Settled.{same_maps}
use Rattle.shelf_database.proofs.Statements.{Reading, ReadingIn}
use Rattle.shelf_database.proofs.WriteLemmas.{IsAsBefore, unchanged_is, not_run}

pub ready_same : (old new : State) → IsReady old → IsUnchanged old new → IsReady new
ready_same old new ready same = record {
  shelf = subst IsShelf (sym same.0.now_is) ready.shelf;
  settled = same.0.now_is ∙ ready.settled ∙ sym same.0.committed_is;
  autocommit = same.0.mode ∙ ready.autocommit;
}

pub own_same : (old new : State) → IsOwn old → IsUnchanged old new → IsOwn new
own_same old new own same = record { is_open = same.0.is_open; ready = ready_same old new own.ready same; number = ap (λ (d : Database). profile_number d.trees) same.0.now_is ∙ own.number; texts = subst (λ (d : Database). HoldsTexts d.trees) (sym same.0.now_is) own.texts }

-- under a schema
module _ (schema : Schema) (text : List ℕ) (query : Query) (names : List (List ℕ)) (reading : ReadingIn schema text query names) (params : Row) (old new : State) (has : old.now.schema ≡ schema) where
  pub answer_in : (rows : List Row) → Shown text params old new rows → IsAnswer query (overlay old.now.trees []) params rows
  answer_in rows h = (reads_as text params old new schema has _ reading.0 reading.2 reading.1 rows h).answer Null

  pub shown_in : (rows : List Row) → Shown text params old new rows → IsUnchanged old new
  unfolding Shown
  shown_in rows h =
      let known = sym h.1.is ∙ ap (λ s. understood s text) has in
      let bare = subst IsPlain (sym known) reading.2 in
      (rw bare.0 at h.2).3

  plain_now : IsPlain (understood old.now.schema text)
  plain_now = subst (λ s. IsPlain (understood s text)) (sym has) reading.2

  pub leaves_in : Survives old new (CommitsShowing text params old) → HasCleanDisk new → (db : Trees) → new.may_leave db → old.may_leave db
  leaves_in survives clean db left = elim (survives.crash clean db left) [
    | inl before ↦ before
    | inr commits ↦ absurd (never_commits text params old db plain_now commits)
  ]

  pub failed_in : (e : Error) → FailsToQuery text params old new e → IsAsBefore old new
  unfolding FailsToQuery
  failed_in e (inl h) = not_run old new text params e h
  failed_in e (inr h) =
      let known = sym h.1.is ∙ ap (λ s. understood s text) has in
      let bare = subst IsPlain (sym known) reading.2 in
      unchanged_is old new (rw bare.0 at h.2).3

module _ (text : List ℕ) (query : Query) (names : List (List ℕ)) (reading : Reading text query names) (params : Row) (old new : State) where
  pub answer_of : IsReady old → (rows : List Row) → Shown text params old new rows → IsAnswer query (overlay old.now.trees []) params rows
  answer_of ready = answer_in shelf_schema text query names reading params old new ready.shelf.schema

  pub shown_same : IsReady old → (rows : List Row) → Shown text params old new rows → IsUnchanged old new
  shown_same ready = shown_in shelf_schema text query names reading params old new ready.shelf.schema

  pub leaves_same : Survives old new (CommitsShowing text params old) → HasCleanDisk new → IsReady old → (db : Trees) → new.may_leave db → old.may_leave db
  leaves_same survives clean ready = leaves_in shelf_schema text query names reading params old new ready.shelf.schema survives clean

  pub failed_before : IsReady old → (e : Error) → FailsToQuery text params old new e → IsAsBefore old new
  failed_before ready = failed_in shelf_schema text query names reading params old new ready.shelf.schema

  pub query_failed : (after : Maps) → (HasCleanDisk new → IsReady old → IsAsBefore old new) → Survives old new (CommitsShowing text params old) → Changes (database_standing old) (database_standing new) false after
  query_failed after before survives = record {
    clean = λ h. omega (arith, survives.clean);
    counts = survives.counts;
    stays_open = survives.closes;
    ours = λ trusted opened. let was = same_now trusted opened in record { is_open = opened; ready = was.0; number = ap (λ (d : Database). profile_number d.trees) was.1 ∙ trusted.1.number; texts = subst (λ (d : Database). HoldsTexts d.trees) (sym was.1) trusted.1.texts };
    done = λ trusted is. absurd (cc);
    kept = λ trusted is opened. same_maps _ _ (ap (λ (d : Database). note_maps d.trees) (sym (same_now trusted opened).1));
    stop = λ trusted m left. inl (left.0, leaves_same survives trusted.0 trusted.1.ready left.0 left.1, left.2);
  }
    where
      same_now : Trusted (database_standing old) (database_standing new) → IsTrue new.is_open → IsReady new × (new.now ≡ old.now)
      same_now trusted opened =
          let ready = trusted.1.ready in
          let was = before trusted.0 ready in
          let now : new.now ≡ old.now = elim (was.now opened) [ inl same ↦ same | inr undone ↦ undone ∙ sym ready.settled ] in
          let mode : new.in_transaction ≡ false = elim was.mode [ inl same ↦ same ∙ ready.autocommit | inr ended ↦ ended ] in
          (record { shelf = subst IsShelf (sym now) ready.shelf; settled = now ∙ ready.settled ∙ sym (was.committed opened); autocommit = mode }, now)

pub read_changes : (old new : State) (is_done : Bool) → Reads old new → Changes (database_standing old) (database_standing new) is_done (note_maps old.now.trees)
read_changes old new is_done reads = record {
  clean = reads.clean;
  counts = reads.counts;
  stays_open = reads.stays_open;
  ours = λ trusted opened. own_same old new trusted.1 (reads.same trusted.0 trusted.1.ready);
  done = λ trusted is. let same = reads.same trusted.0 trusted.1.ready in (same.0.is_open, same_maps _ _ (ap (λ (d : Database). note_maps d.trees) (sym same.0.now_is)));
  kept = λ trusted is opened. let same = reads.same trusted.0 trusted.1.ready in same_maps _ _ (ap (λ (d : Database). note_maps d.trees) (sym same.0.now_is));
  stop = λ trusted m left. inl (left.0, reads.leaves trusted.0 trusted.1.ready left.0 left.1, left.2);
}

-- a store that a query left open, and what comes after leaves open, unless the disk failed
pub open_through : (old mid new : State) → Reads old mid → (HasCleanDisk new → HasCleanDisk mid) → mid.faults ≤ new.faults → (HasCleanDisk new → IsTrue mid.is_open → IsTrue new.is_open ⊎ MoreFaults mid.faults new.faults)
    → HasCleanDisk new → IsTrue old.is_open → IsTrue new.is_open ⊎ MoreFaults old.faults new.faults
open_through old mid new reads sooner up after clean opened = elim (reads.stays_open (sooner clean) opened) [
  | inl still ↦ elim (after clean still) [ inl last ↦ inl last | inr more ↦ let low = reads.counts in inr (omega (arith, low, more)) ]
  | inr more ↦ inr (omega (arith, more, up))
]

pub read_then : (old mid new : State) (is_done : Bool) (after : Maps) → Reads old mid → Changes (database_standing mid) (database_standing new) is_done after → Changes (database_standing old) (database_standing new) is_done after
read_then old mid new is_done after reads changes = record {
  clean = λ h. reads.clean (changes.clean h);
  counts = let low = reads.counts in let up = changes.counts in omega (arith, low, up);
  stays_open = open_through old mid new reads changes.clean changes.counts changes.stays_open;
  ours = λ trusted. changes.ours (trust trusted);
  done = λ trusted. changes.done (trust trusted);
  kept = λ trusted is opened. subst (λ (d : Database). Same (note_maps d.trees) (note_maps new.now.trees)) (same trusted).0.now_is (changes.kept (trust trusted) is opened);
  stop = λ trusted m left. elim (changes.stop (trust trusted) m left) [
    | inl before ↦ inl (before.0, reads.leaves (changes.clean trusted.0) trusted.1.ready before.0 before.1, before.2)
    | inr done ↦ inr done
  ];
}
  where
    same : Trusted (database_standing old) (database_standing new) → IsUnchanged old mid
    same trusted = reads.same (changes.clean trusted.0) trusted.1.ready

    trust : Trusted (database_standing old) (database_standing new) → Trusted (database_standing mid) (database_standing new)
    trust trusted = (trusted.0, own_same old mid trusted.1 (same trusted))

-- the same where what the write makes is told of the maps that it found
pub read_then_by : (old mid new : State) (is_done : Bool) (f : Maps → Maps) → Reads old mid → Changes (database_standing mid) (database_standing new) is_done (f (note_maps mid.now.trees)) → Changes (database_standing old) (database_standing new) is_done (f (note_maps old.now.trees))
read_then_by old mid new is_done f reads changes = let it = read_then old mid new is_done (f (note_maps mid.now.trees)) reads changes in record {
  clean = it.clean;
  counts = it.counts;
  stays_open = it.stays_open;
  ours = it.ours;
  done = λ trusted is. let made = it.done trusted is in (made.0, subst (λ (d : Database). Same (f (note_maps d.trees)) (note_maps new.now.trees)) (same trusted).0.now_is made.1);
  kept = it.kept;
  stop = λ trusted m left. elim (it.stop trusted m left) [
    | inl before ↦ inl before
    | inr made ↦ inr (subst (λ (d : Database). Same (f (note_maps d.trees)) m) (same trusted).0.now_is made)
  ];
}
  where
    same : Trusted (database_standing old) (database_standing new) → IsUnchanged old mid
    same trusted = reads.same (changes.clean trusted.0) trusted.1.ready
