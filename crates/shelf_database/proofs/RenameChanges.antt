-- What a rename makes of the maps, after the two queries that say which of the names are there.
use Rattle.std.proofs.Common.{◌≡◌, ◌≤◌, ◌⊎◌, ℕ, List, Bool, true, false, is_some, subst, sym, ◌∙◌, IsTrue, arith}
use Rattle.sqlite.specs.Effect.{Database}
use Rattle.sqlite.specs.State.{State, HasCleanDisk}
use Rattle.shelf.specs.Maps.{Maps, Standing, Trusted, Changes, DeviceFailed, with_renamed}
use Rattle.shelf_database.specs.Tables.{note_maps, IsReady, Reads, database_standing}
use Rattle.shelf_database.specs.Moves.{HasNames, IsLaterThan}
use Rattle.shelf_database.proofs.QueryLemmas.{ready_same, open_through, read_then_by}

-- all but the first part is said under one premise
changes_given : (old new : Standing) (is_done : Bool) (after : Maps) → (new.IsClean → old.IsClean) → old.faults ≤ new.faults
    → (new.IsClean → IsTrue old.is_open → IsTrue new.is_open ⊎ DeviceFailed old new) → (Trusted old new → Changes old new is_done after) → Changes old new is_done after
changes_given old new is_done after clean counts stays_open given = record {
  clean = clean;
  counts = counts;
  stays_open = stays_open;
  ours = λ trusted. (given trusted).ours trusted;
  done = λ trusted. (given trusted).done trusted;
  kept = λ trusted. (given trusted).kept trusted;
  stop = λ trusted. (given trusted).stop trusted;
}

module _ (old mid late new : State) (name other : List ℕ) (is_done : Bool) (first : Reads old mid) (second : Reads mid late)
    (there : HasCleanDisk mid → IsReady old → is_some ((note_maps old.now.trees).lists name) ≡ true)
    (free : HasCleanDisk late → IsReady mid → is_some ((note_maps mid.now.trees).lists other) ≡ false) where
  pub rename_changes : ((HasCleanDisk late → IsReady late → HasNames name other late.now) → Changes (database_standing late) (database_standing new) is_done (with_renamed (note_maps late.now.trees) name other)) → IsLaterThan late new
      → Changes (database_standing old) (database_standing new) is_done (with_renamed (note_maps old.now.trees) name other)
  rename_changes changes later =
      let made : Maps → Maps = λ maps. with_renamed maps name other in
      let up : mid.faults ≤ new.faults = let low = second.counts in let last = later.1 in omega (arith, low, last) in
      changes_given (database_standing old) (database_standing new) is_done (made (note_maps old.now.trees)) (λ clean. first.clean (second.clean (later.0 clean)))
      (let low = first.counts in let late_up = up in omega (arith, low, late_up))
      (open_through old mid new first (λ clean. second.clean (later.0 clean)) up (open_through mid late new second later.0 later.1 later.2)) (λ trusted.
      let clean = later.0 trusted.0 in
      let ready = trusted.1.ready in
      let same = first.same (second.clean clean) ready in
      let then_ready = ready_same old mid ready same in
      let again = second.same clean then_ready in
      let has : HasNames name other late.now = record {
        shelf = (ready_same mid late then_ready again).shelf;
        there = subst (λ (d : Database). is_some ((note_maps d.trees).lists name) ≡ true) (sym (again.0.now_is ∙ same.0.now_is)) (there (second.clean clean) ready);
        free = subst (λ (d : Database). is_some ((note_maps d.trees).lists other) ≡ false) (sym again.0.now_is) (free clean then_ready);
      } in
      read_then_by old mid new is_done made first (read_then_by mid late new is_done made second (changes (λ c r. has))))
