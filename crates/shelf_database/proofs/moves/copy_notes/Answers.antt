use Rattle.std.proofs.Common.{[], ◌∷◌, Ok}
use Rattle.std.proofs.lemmas.Result.{err_from_is_err_and}
use Rattle.sqlite.specs.declared.types.Value.TheVariants.{Text}
use Rattle.sqlite.specs.Held.{state}
use Rattle.shelf.specs.declared.kinds.StickerKind.TheVariants.{Playlist}
use Rattle.shelf_database.specs.Tables.{kind_text, shelf_schema}
use Rattle.shelf_database.specs.Moves.{LacksNotes, CopiesNotes, KeepsASticker}
use Rattle.shelf_database.proofs.MakingBlame.{stopped_for}
use Rattle.shelf_database.proofs.CopiedMaps.{copies_notes}
use Rattle.shelf_database.proofs.CopyLemmas.{copying}
use Rattle.shelf_database.proofs.CopyBlame.{copy_refused, copy_whole}
use Rattle.shelf_database.proofs.MakingLemmas.{leads_by, kept_at}
use Rattle.shelf_database.proofs.Statements.{copy_text, copy_is}
use Rattle.shelf_database.proofs.moves.copy_notes.Goals as goal

pub returns-clause-leads : goal.returns-clause-leads
returns-clause-leads g c =
    let old = state g.S.Store c.args.transaction.now.conn.now in
    let new = state g.S.Store c.execute.new.self.conn.now in
    let name = c.args.name.now in
    let other = c.args.new_name.now in
    leads_by (LacksNotes other) (CopiesNotes name other) shelf_schema (λ db lacks. lacks.shelf.schema) copy_text (Text (kind_text Playlist) ∷ Text name ∷ Text other ∷ []) copying copy_is (λ before after text params count ran. ran) old new
    (λ tally lacks does sound. copies_notes old name other c.utf8.new_name lacks tally new.now does sound)
    (Ok c.in_ok-execute.field-0) (rw (c.params-to_sql.ensures, c.params-to_sql-2.ensures, c.params-to_sql-3.ensures, c.kind_text-word.ensures) at c.in_ok-execute.ensures.runs) (λ outside. kept_at g.S.Store c.args.transaction.now.conn.now c.execute.new.self.conn.now (c.in_ok-execute.ensures.ended outside).1) c.execute.ensures.survives

pub returns-in_err-execute-clause-blamed : goal.returns-in_err-execute-clause-blamed
returns-in_err-execute-clause-blamed g c =
    let old = state g.S.Store c.args.transaction.now.conn.now in
    let new = state g.S.Store c.execute.new.self.conn.now in
    let name = c.args.name.now in
    let other = c.args.new_name.now in
    let how = err_from_is_err_and c.from_residual.result c.from_residual.ensures.1 in
    rw (how.1, how.2) (stopped_for (LacksNotes other) (KeepsASticker name other) shelf_schema (λ db lacks. lacks.shelf.schema) copy_text (Text (kind_text Playlist) ∷ Text name ∷ Text other ∷ []) copying tt copy_is (copy_whole name other)
    (λ s stop lacks does. copy_refused s name other lacks stop does) old new c.in_err-execute.field-0.0 (rw (c.params-to_sql.ensures, c.params-to_sql-2.ensures, c.params-to_sql-3.ensures, c.kind_text-word.ensures) at c.in_err-execute.ensures.runs))
