use Rattle.std.proofs.Common.{[], ◌∷◌, Ok, inl}
use Rattle.std.proofs.lemmas.Result.{err_from_is_err_and}
use Rattle.sqlite.specs.declared.types.Value.TheVariants.{Text}
use Rattle.sqlite.specs.Held.{state}
use Rattle.shelf.specs.declared.kinds.StickerKind.TheVariants.{Playlist}
use Rattle.shelf_database.specs.Tables.{kind_text, shelf_schema, IsShelf}
use Rattle.shelf_database.specs.Opens.{NoReason}
use Rattle.shelf_database.specs.Moves.{ClearsNotes}
use Rattle.shelf_database.proofs.DeleteBlame.{delete_all_whole}
use Rattle.shelf_database.proofs.MakingBlame.{stopped_for}
use Rattle.shelf_database.proofs.MakingLemmas.{leads_by, kept_at}
use Rattle.shelf_database.proofs.Statements.{delete_all_text, delete_all_is}
use Rattle.shelf_database.proofs.StepLemmas.{clearing, clears_notes, clearing_sure}
use Rattle.shelf_database.proofs.moves.clear_notes.Goals as goal

pub returns-clause-leads : goal.returns-clause-leads
returns-clause-leads g c =
    let old = state g.S.Store c.args.transaction.now.conn.now in
    let new = state g.S.Store c.execute.new.self.conn.now in
    leads_by IsShelf (ClearsNotes c.args.name.now) shelf_schema (λ db is. is.schema) delete_all_text (Text (kind_text Playlist) ∷ Text c.args.name.now ∷ []) (clearing c.args.name.now) delete_all_is (λ before after text params count ran. ran) old new (λ tally is does sound. clears_notes old c.args.name.now is tally new.now does sound)
    (Ok c.in_ok-execute.field-0) (rw (c.params-to_sql.ensures, c.params-to_sql-2.ensures, c.kind_text-word.ensures) at c.in_ok-execute.ensures.runs) (λ outside. kept_at g.S.Store c.args.transaction.now.conn.now c.execute.new.self.conn.now (c.in_ok-execute.ensures.ended outside).1) c.execute.ensures.survives

pub returns-in_err-execute-clause-blamed : goal.returns-in_err-execute-clause-blamed
returns-in_err-execute-clause-blamed g c =
    let old = state g.S.Store c.args.transaction.now.conn.now in
    let new = state g.S.Store c.execute.new.self.conn.now in
    let how = err_from_is_err_and c.from_residual.result c.from_residual.ensures.1 in
    rw (how.1, how.2) (stopped_for IsShelf NoReason shelf_schema (λ db is. is.schema) delete_all_text (Text (kind_text Playlist) ∷ Text c.args.name.now ∷ []) (clearing c.args.name.now) tt delete_all_is (delete_all_whole Playlist c.args.name.now) (λ s stop is does. inl (clearing_sure s c.args.name.now is stop does)) old new c.in_err-execute.field-0.0 (rw (c.params-to_sql.ensures, c.params-to_sql-2.ensures, c.kind_text-word.ensures) at c.in_err-execute.ensures.runs))
