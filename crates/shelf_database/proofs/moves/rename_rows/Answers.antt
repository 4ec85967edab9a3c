use Rattle.std.proofs.Common.{ℕ, List, is_ok, true, Bool, inl, inr}
use Rattle.std.proofs.lemmas.Result.{err_from_is_err_and, IfErr-weaker}
use Rattle.sqlite.specs.declared.error.Error.{Error}
use Rattle.sqlite.specs.Effect.{Database}
use Rattle.sqlite.specs.Held.{state}
use Rattle.sqlite.specs.State.{State}
use Rattle.shelf_database.specs.Tables.{IsShelf}
use Rattle.shelf_database.specs.Opens.{Leads, NoReason, IsStoppedFor}
use Rattle.shelf_database.specs.Moves.{HasNames, LacksNotes, RenamesRow, ClearsNotes, CopiesNotes, RenamesAll, KeepsTheName, KeepsTheRow, KeepsASticker}
use Rattle.shelf_database.proofs.CopiedMaps.{renames_all, none_left, sticker_kept}
use Rattle.shelf_database.proofs.MakingLemmas.{leads_then}
use Rattle.shelf_database.proofs.MakingBlame.{IsLater, later, stopped_after, stopped_more}
use Rattle.shelf_database.proofs.moves.rename_rows.Goals as goal

-- after each statement
record AfterClear (name other : List ℕ) (was db : Database) : Type 0 where
  one : Database
  renamed : RenamesRow name other was one
  cleared : ClearsNotes other one db

record AfterCopy (name other : List ℕ) (was db : Database) : Type 0 where
  two : Database
  before : AfterClear name other was two
  copied : CopiesNotes name other two db

module _ (name other : List ℕ) (old row clear copy new : State) (first : Leads (HasNames name other) (RenamesRow name other) old row true) (second : Leads IsShelf (ClearsNotes other) row clear true) where
  cleared : IsLater clear new → Leads (HasNames name other) (AfterClear name other) old clear true
  cleared after = leads_then (HasNames name other) IsShelf (RenamesRow name other) (ClearsNotes other) (AfterClear name other) old row clear true (λ was db has one. one.carries.shelf) (λ was db late has one two. record { one = db; renamed = one; cleared = two })
      (later row clear _ second.survives).0 first second

  copied : (is_done : Bool) → Leads (LacksNotes other) (CopiesNotes name other) clear copy is_done → Leads (HasNames name other) (AfterCopy name other) old copy is_done
  copied is_done third = leads_then (HasNames name other) (LacksNotes other) (AfterClear name other) (CopiesNotes name other) (AfterCopy name other) old clear copy is_done (λ was db has done. none_left other done.one db done.cleared)
      (λ was db late has done more. record { two = db; before = done; copied = more }) (later clear copy _ third.survives).0 (leads_then (HasNames name other) IsShelf (RenamesRow name other) (ClearsNotes other) (AfterClear name other) old row clear true
      (λ was db has one. one.carries.shelf) (λ was db late has one two. record { one = db; renamed = one; cleared = two }) (later row clear _ second.survives).0 first second) third

  all_done : (is_done : Bool) → Leads (LacksNotes other) (CopiesNotes name other) clear copy true → Leads IsShelf (ClearsNotes name) copy new is_done → Leads (HasNames name other) (RenamesAll name other) old new is_done
  all_done is_done third fourth = leads_then (HasNames name other) IsShelf (AfterCopy name other) (ClearsNotes name) (RenamesAll name other) old copy new is_done (λ was db has done. done.copied.shelf)
      (λ was db late has done last. renames_all name other was done.before.one done.two db late has done.before.renamed done.before.cleared done.copied last) (later copy new _ fourth.survives).0 (copied true third) fourth

  stopped_clear : (e : Error) → IsLater row clear → IsStoppedFor IsShelf NoReason row clear e → IsStoppedFor (HasNames name other) (KeepsTheName name other) old clear e
  stopped_clear e after stops = stopped_after (HasNames name other) IsShelf (RenamesRow name other) (KeepsTheName name other) NoReason old row clear e (λ was db has one. one.carries.shelf) (λ was db has one never. absurd never) first after stops

pub returns-clause-leads : goal.returns-clause-leads
returns-clause-leads g c =
    all_done c.args.name.now c.args.new_name.now (state g.S.Store c.args.transaction.now.conn.now) (state g.S.Store c.rename_row.new.transaction.conn.now) (state g.S.Store c.clear_notes.new.transaction.conn.now) (state g.S.Store c.copy_notes.new.transaction.conn.now) (state g.S.Store c.clear_notes-2.new.transaction.conn.now)
    c.in_ok-rename_row.ensures.leads c.in_ok-clear_notes.ensures.leads (is_ok c.clear_notes-2.result) c.in_ok-copy_notes.ensures.leads c.clear_notes-2.ensures.leads

pub returns-in_err-rename_row-clause-blamed : goal.returns-in_err-rename_row-clause-blamed
returns-in_err-rename_row-clause-blamed g c =
    let name = c.args.name.now in
    let other = c.args.new_name.now in
    let how = err_from_is_err_and c.from_residual.result c.from_residual.ensures.1 in
    rw (how.1, how.2) (stopped_more (HasNames name other) (KeepsTheRow name other) (KeepsTheName name other) (state g.S.Store c.args.transaction.now.conn.now) (state g.S.Store c.rename_row.new.transaction.conn.now) _ (λ db why. inl why) c.in_err-rename_row.ensures.blamed)

pub returns-in_err-clear_notes-clause-blamed : goal.returns-in_err-clear_notes-clause-blamed
returns-in_err-clear_notes-clause-blamed g c =
    let name = c.args.name.now in
    let other = c.args.new_name.now in
    let old = state g.S.Store c.args.transaction.now.conn.now in
    let row = state g.S.Store c.rename_row.new.transaction.conn.now in
    let new = state g.S.Store c.clear_notes.new.transaction.conn.now in
    let how = err_from_is_err_and c.from_residual-in_err-clear_notes.result c.from_residual-in_err-clear_notes.ensures.1 in
    rw (how.1, how.2) (stopped_after (HasNames name other) IsShelf (RenamesRow name other) (KeepsTheName name other) NoReason old row new _ (λ was db has one. one.carries.shelf) (λ was db has one never. absurd never) c.in_ok-rename_row.ensures.leads
    (later row new _ c.in_err-clear_notes.ensures.leads.survives) c.in_err-clear_notes.ensures.blamed)

pub returns-in_err-copy_notes-clause-blamed : goal.returns-in_err-copy_notes-clause-blamed
returns-in_err-copy_notes-clause-blamed g c =
    let name = c.args.name.now in
    let other = c.args.new_name.now in
    let old = state g.S.Store c.args.transaction.now.conn.now in
    let row = state g.S.Store c.rename_row.new.transaction.conn.now in
    let clear = state g.S.Store c.clear_notes.new.transaction.conn.now in
    let new = state g.S.Store c.copy_notes.new.transaction.conn.now in
    let how = err_from_is_err_and c.from_residual-in_err-copy_notes.result c.from_residual-in_err-copy_notes.ensures.1 in
    let last = later clear new _ c.in_err-copy_notes.ensures.leads.survives in
    rw (how.1, how.2) (stopped_after (HasNames name other) (LacksNotes other) (AfterClear name other) (KeepsTheName name other) (KeepsASticker name other) old clear new _ (λ was db has done. none_left other done.one db done.cleared)
    (λ was db has done why. inr (sticker_kept name other was done.one db done.renamed done.cleared why)) (cleared name other old row clear new new c.in_ok-rename_row.ensures.leads c.in_ok-clear_notes.ensures.leads last) last c.in_err-copy_notes.ensures.blamed)

pub returns-clause-blamed : goal.returns-clause-blamed
returns-clause-blamed g c =
    let name = c.args.name.now in
    let other = c.args.new_name.now in
    let old = state g.S.Store c.args.transaction.now.conn.now in
    let row = state g.S.Store c.rename_row.new.transaction.conn.now in
    let clear = state g.S.Store c.clear_notes.new.transaction.conn.now in
    let copy = state g.S.Store c.copy_notes.new.transaction.conn.now in
    let new = state g.S.Store c.clear_notes-2.new.transaction.conn.now in
    let last = later copy new _ c.clear_notes-2.ensures.leads.survives in
    IfErr-weaker c.clear_notes-2.result (IsStoppedFor IsShelf NoReason copy new) (IsStoppedFor (HasNames name other) (KeepsTheName name other) old new) (λ e stops.
    stopped_after (HasNames name other) IsShelf (AfterCopy name other) (KeepsTheName name other) NoReason old copy new e (λ was db has done. done.copied.shelf) (λ was db has done never. absurd never)
    (copied name other old row clear copy new c.in_ok-rename_row.ensures.leads c.in_ok-clear_notes.ensures.leads true c.in_ok-copy_notes.ensures.leads) last stops) c.clear_notes-2.ensures.blamed
