use Rattle.std.proofs.Common.{◌∷◌, [], true, Err, is_ok}
use Rattle.std.proofs.lemmas.Result.{err_from_is_err_and, IfErr-weaker}
use Rattle.sqlite.specs.State.{State}
use Rattle.sqlite.specs.Held.{state}
use Rattle.sqlite.specs.declared.error.Error.{Error}
use Rattle.shelf_database.specs.Opens.{Leads, IsStoppedFor, NoReason, HasRows, Clears, HasBoth, HasNoNumber, clear_query, forget_query, insert_query}
use Rattle.shelf_database.proofs.MakingBlame.{IsLater, later, stopped_after}
use Rattle.shelf_database.proofs.RunLemmas.{run_then, stops_first}
use Rattle.shelf_database.proofs.MigrationLemmas.{ClearsBoth, narrowed, both_stickers, cleared_number, both_cleared, all_renumbered}
use Rattle.shelf_database.proofs.profile.renumber.Goals as goal

pub returns-clause-leads : goal.returns-clause-leads
returns-clause-leads g c =
    let old = state g.S.Store c.args.transaction.now.conn.now in
    let cleared = state g.S.Store c.clear_stickers.new.transaction.conn.now in
    let bare = state g.S.Store c.clear_number.new.transaction.conn.now in
    let new = state g.S.Store c.note_number.new.transaction.conn.now in
    let second = later cleared bare _ c.in_ok-clear_number.ensures.leads.survives in
    let last = later bare new _ c.note_number.ensures.leads.survives in
    all_renumbered old bare new (is_ok c.note_number.result) last.0 (both_cleared old cleared bare true second.0 c.in_ok-clear_stickers.ensures.leads c.in_ok-clear_number.ensures.leads) c.note_number.ensures.leads

module _ (old mid new : State) (e : Error) where
  in_stickers : IsStoppedFor (HasRows 3) NoReason old new e → IsStoppedFor HasBoth NoReason old new e
  in_stickers stops clean inside both other = stops clean inside (both_stickers old.now both) other

  in_number : Leads (HasRows 3) (Clears 3) old mid true → IsLater mid new → IsStoppedFor (HasRows 0) NoReason mid new e → IsStoppedFor HasBoth NoReason old new e
  in_number leads after stops =
      stopped_after HasBoth (HasRows 0) (Clears 3) NoReason NoReason old mid new e cleared_number (λ was db has made why. why) (narrowed (HasRows 3) HasBoth (Clears 3) old mid true both_stickers leads) after stops

  in_note : Leads HasBoth ClearsBoth old mid true → IsLater mid new → IsStoppedFor HasNoNumber NoReason mid new e → IsStoppedFor HasBoth NoReason old new e
  in_note leads after stops = stopped_after HasBoth HasNoNumber ClearsBoth NoReason NoReason old mid new e (λ was db has made. made.none) (λ was db has made why. why) leads after stops

pub returns-in_err-clear_stickers-clause-blamed : goal.returns-in_err-clear_stickers-clause-blamed
returns-in_err-clear_stickers-clause-blamed g c =
    let old = state g.S.Store c.args.transaction.now.conn.now in
    let new = state g.S.Store c.clear_stickers.new.transaction.conn.now in
    let how = err_from_is_err_and c.from_residual.result c.from_residual.ensures.1 in
    rw (how.1, how.2) (in_stickers old old new _ c.in_err-clear_stickers.ensures.blamed)

pub returns-in_err-clear_number-clause-blamed : goal.returns-in_err-clear_number-clause-blamed
returns-in_err-clear_number-clause-blamed g c =
    let old = state g.S.Store c.args.transaction.now.conn.now in
    let cleared = state g.S.Store c.clear_stickers.new.transaction.conn.now in
    let new = state g.S.Store c.clear_number.new.transaction.conn.now in
    let how = err_from_is_err_and c.from_residual-in_err-clear_number.result c.from_residual-in_err-clear_number.ensures.1 in
    rw (how.1, how.2) (in_number old cleared new _ c.in_ok-clear_stickers.ensures.leads (later cleared new _ c.in_err-clear_number.ensures.leads.survives) c.in_err-clear_number.ensures.blamed)

pub returns-clause-blamed : goal.returns-clause-blamed
returns-clause-blamed g c =
    let old = state g.S.Store c.args.transaction.now.conn.now in
    let cleared = state g.S.Store c.clear_stickers.new.transaction.conn.now in
    let bare = state g.S.Store c.clear_number.new.transaction.conn.now in
    let new = state g.S.Store c.note_number.new.transaction.conn.now in
    let second = later cleared bare _ c.in_ok-clear_number.ensures.leads.survives in
    let last = later bare new _ c.note_number.ensures.leads.survives in
    IfErr-weaker c.note_number.result (IsStoppedFor HasNoNumber NoReason bare new) (IsStoppedFor HasBoth NoReason old new) (λ e stops.
    in_note old bare new e (both_cleared old cleared bare true second.0 c.in_ok-clear_stickers.ensures.leads c.in_ok-clear_number.ensures.leads) last stops) c.note_number.ensures.blamed

pub returns-in_err-clear_stickers-clause-ran : goal.returns-in_err-clear_stickers-clause-ran
returns-in_err-clear_stickers-clause-ran g c =
    let how = err_from_is_err_and c.from_residual.result c.from_residual.ensures.1 in
    rw (how.1, how.2) (λ clean inside.
    stops_first g.S.Store (clear_query ∷ []) (forget_query ∷ insert_query ∷ []) c.args.transaction.now.conn.now c.clear_stickers.new.transaction.conn.now c.in_err-clear_stickers.field-0.0 (c.in_err-clear_stickers.ensures.ran clean inside))

pub returns-in_err-clear_number-clause-ran : goal.returns-in_err-clear_number-clause-ran
returns-in_err-clear_number-clause-ran g c =
    let old = c.args.transaction.now.conn.now in
    let cleared = c.clear_stickers.new.transaction.conn.now in
    let new = c.clear_number.new.transaction.conn.now in
    let last = later (state g.S.Store cleared) (state g.S.Store new) _ c.in_err-clear_number.ensures.leads.survives in
    let how = err_from_is_err_and c.from_residual-in_err-clear_number.result c.from_residual-in_err-clear_number.ensures.1 in
    rw (how.1, how.2) (λ clean inside. stops_first g.S.Store (clear_query ∷ forget_query ∷ []) (insert_query ∷ []) old new c.in_err-clear_number.field-0.0
    (run_then g.S.Store {X = Unit {0}} (clear_query ∷ []) (forget_query ∷ []) old cleared new (Err c.in_err-clear_number.field-0.0) last.0 c.in_ok-clear_stickers.ensures.ran c.in_err-clear_number.ensures.ran clean inside))

pub returns-clause-ran : goal.returns-clause-ran
returns-clause-ran g c =
    let old = c.args.transaction.now.conn.now in
    let cleared = c.clear_stickers.new.transaction.conn.now in
    let bare = c.clear_number.new.transaction.conn.now in
    let new = c.note_number.new.transaction.conn.now in
    let second = later (state g.S.Store cleared) (state g.S.Store bare) _ c.in_ok-clear_number.ensures.leads.survives in
    let last = later (state g.S.Store bare) (state g.S.Store new) _ c.note_number.ensures.leads.survives in
    run_then g.S.Store (clear_query ∷ []) (forget_query ∷ insert_query ∷ []) old cleared new c.note_number.result (λ clean. second.0 (last.0 clean)) c.in_ok-clear_stickers.ensures.ran
    (run_then g.S.Store (forget_query ∷ []) (insert_query ∷ []) cleared bare new c.note_number.result last.0 c.in_ok-clear_number.ensures.ran c.note_number.ensures.ran)
