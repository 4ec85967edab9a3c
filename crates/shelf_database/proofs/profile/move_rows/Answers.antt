use Rattle.std.proofs.Common.{◌∷◌, [], inl, inr, true, Err, is_ok}
use Rattle.std.proofs.lemmas.Result.{err_from_is_err_and, IfErr-weaker}
use Rattle.sqlite.specs.State.{State}
use Rattle.sqlite.specs.Held.{state}
use Rattle.sqlite.specs.declared.error.Error.{Error}
use Rattle.shelf_database.specs.Opens.{Leads, IsStoppedFor, NoReason, KeepsOne, HasFormer, MakesNotes, HasNoNotes, HasBoth, IsFormerShelf, note_query, copy_query, renumber_texts}
use Rattle.shelf_database.proofs.MakingBlame.{IsLater, later, stopped_after}
use Rattle.shelf_database.proofs.RunLemmas.{run_then, stops_first}
use Rattle.shelf_database.proofs.MigrationLemmas.{HasCopied, narrowed, former_schema_there, awaits_stickers, keeps_it, all_copied, all_moved}
use Rattle.shelf_database.proofs.profile.move_rows.Goals as goal

pub returns-clause-leads : goal.returns-clause-leads
returns-clause-leads g c =
    let old = state g.S.Store c.args.transaction.now.conn.now in
    let made = state g.S.Store c.make_notes.new.transaction.conn.now in
    let copied = state g.S.Store c.copy_stickers.new.transaction.conn.now in
    let new = state g.S.Store c.renumber.new.transaction.conn.now in
    let second = later made copied _ c.in_ok-copy_stickers.ensures.leads.survives in
    let last = later copied new _ c.renumber.ensures.leads.survives in
    all_moved old copied new (is_ok c.renumber.result) last.0 (all_copied old made copied true second.0 c.in_ok-make_notes.ensures.leads c.in_ok-copy_stickers.ensures.leads) c.renumber.ensures.leads

module _ (old mid new : State) (e : Error) where
  in_notes : IsStoppedFor HasFormer NoReason old new e → IsStoppedFor IsFormerShelf KeepsOne old new e
  in_notes stops clean inside shelf other = elim (stops clean inside shelf.schema other) [ inl failed ↦ inl failed | inr never ↦ absurd never ]

  in_copy : Leads HasFormer MakesNotes old mid true → IsLater mid new → IsStoppedFor HasNoNotes KeepsOne mid new e → IsStoppedFor IsFormerShelf KeepsOne old new e
  in_copy leads after stops =
      stopped_after IsFormerShelf HasNoNotes MakesNotes KeepsOne KeepsOne old mid new e awaits_stickers keeps_it (narrowed HasFormer IsFormerShelf MakesNotes old mid true former_schema_there leads) after stops

  in_number : Leads IsFormerShelf HasCopied old mid true → IsLater mid new → IsStoppedFor HasBoth NoReason mid new e → IsStoppedFor IsFormerShelf KeepsOne old new e
  in_number leads after stops = stopped_after IsFormerShelf HasBoth HasCopied KeepsOne NoReason old mid new e (λ was db shelf made. made.both) (λ was db shelf made never. absurd never) leads after stops

pub returns-in_err-make_notes-clause-blamed : goal.returns-in_err-make_notes-clause-blamed
returns-in_err-make_notes-clause-blamed g c =
    let old = state g.S.Store c.args.transaction.now.conn.now in
    let new = state g.S.Store c.make_notes.new.transaction.conn.now in
    let how = err_from_is_err_and c.from_residual.result c.from_residual.ensures.1 in
    rw (how.1, how.2) (in_notes old old new _ c.in_err-make_notes.ensures.blamed)

pub returns-in_err-copy_stickers-clause-blamed : goal.returns-in_err-copy_stickers-clause-blamed
returns-in_err-copy_stickers-clause-blamed g c =
    let old = state g.S.Store c.args.transaction.now.conn.now in
    let made = state g.S.Store c.make_notes.new.transaction.conn.now in
    let new = state g.S.Store c.copy_stickers.new.transaction.conn.now in
    let how = err_from_is_err_and c.from_residual-in_err-copy_stickers.result c.from_residual-in_err-copy_stickers.ensures.1 in
    rw (how.1, how.2) (in_copy old made new _ c.in_ok-make_notes.ensures.leads (later made new _ c.in_err-copy_stickers.ensures.leads.survives) c.in_err-copy_stickers.ensures.blamed)

pub returns-clause-blamed : goal.returns-clause-blamed
returns-clause-blamed g c =
    let old = state g.S.Store c.args.transaction.now.conn.now in
    let made = state g.S.Store c.make_notes.new.transaction.conn.now in
    let copied = state g.S.Store c.copy_stickers.new.transaction.conn.now in
    let new = state g.S.Store c.renumber.new.transaction.conn.now in
    let second = later made copied _ c.in_ok-copy_stickers.ensures.leads.survives in
    let last = later copied new _ c.renumber.ensures.leads.survives in
    IfErr-weaker c.renumber.result (IsStoppedFor HasBoth NoReason copied new) (IsStoppedFor IsFormerShelf KeepsOne old new) (λ e stops.
    in_number old copied new e (all_copied old made copied true second.0 c.in_ok-make_notes.ensures.leads c.in_ok-copy_stickers.ensures.leads) last stops) c.renumber.ensures.blamed

pub returns-in_err-make_notes-clause-ran : goal.returns-in_err-make_notes-clause-ran
returns-in_err-make_notes-clause-ran g c =
    let how = err_from_is_err_and c.from_residual.result c.from_residual.ensures.1 in
    rw (how.1, how.2) (λ clean inside.
    stops_first g.S.Store (note_query ∷ []) (copy_query ∷ renumber_texts) c.args.transaction.now.conn.now c.make_notes.new.transaction.conn.now c.in_err-make_notes.field-0.0 (c.in_err-make_notes.ensures.ran clean inside))

pub returns-in_err-copy_stickers-clause-ran : goal.returns-in_err-copy_stickers-clause-ran
returns-in_err-copy_stickers-clause-ran g c =
    let old = c.args.transaction.now.conn.now in
    let made = c.make_notes.new.transaction.conn.now in
    let new = c.copy_stickers.new.transaction.conn.now in
    let last = later (state g.S.Store made) (state g.S.Store new) _ c.in_err-copy_stickers.ensures.leads.survives in
    let how = err_from_is_err_and c.from_residual-in_err-copy_stickers.result c.from_residual-in_err-copy_stickers.ensures.1 in
    rw (how.1, how.2) (λ clean inside. stops_first g.S.Store (note_query ∷ copy_query ∷ []) renumber_texts old new c.in_err-copy_stickers.field-0.0
    (run_then g.S.Store {X = Unit {0}} (note_query ∷ []) (copy_query ∷ []) old made new (Err c.in_err-copy_stickers.field-0.0) last.0 c.in_ok-make_notes.ensures.ran c.in_err-copy_stickers.ensures.ran clean inside))

pub returns-clause-ran : goal.returns-clause-ran
returns-clause-ran g c =
    let old = c.args.transaction.now.conn.now in
    let made = c.make_notes.new.transaction.conn.now in
    let copied = c.copy_stickers.new.transaction.conn.now in
    let new = c.renumber.new.transaction.conn.now in
    let second = later (state g.S.Store made) (state g.S.Store copied) _ c.in_ok-copy_stickers.ensures.leads.survives in
    let last = later (state g.S.Store copied) (state g.S.Store new) _ c.renumber.ensures.leads.survives in
    run_then g.S.Store (note_query ∷ []) (copy_query ∷ renumber_texts) old made new c.renumber.result (λ clean. second.0 (last.0 clean)) c.in_ok-make_notes.ensures.ran
    (run_then g.S.Store (copy_query ∷ []) renumber_texts made copied new c.renumber.result last.0 c.in_ok-copy_stickers.ensures.ran c.renumber.ensures.ran)
