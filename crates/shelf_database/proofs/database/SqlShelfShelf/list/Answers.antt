use Rattle.std.proofs.Common.{◌≡◌, ◌⊎◌, inl, inr, [], ◌∷◌, Some, None, true, false, find, option_map, string_bytes, rules, refl, sym, ap, ◌∙◌}
use Rattle.sqlite.specs.Order.{column, bytes}
use Rattle.sqlite.specs.Held.{state}
use Rattle.shelf.specs.Calls.{ListOf}
use Rattle.shelf.specs.Maps.{refusal_of_list}
use Rattle.shelf.specs.Lines.{lines_of}
use Rattle.shelf_database.specs.Faults.{HasFailed, LacksText, CannotDo, StoreFailed}
use Rattle.shelf_database.specs.Tables.{note_maps, has_text}
use Rattle.shelf_database.proofs.AskLemmas.{handed_on, text_reads, text_refuses, asked_answer, refused_answers}
use Rattle.shelf_database.proofs.BlameLemmas.{uris_asked}
use Rattle.shelf_database.proofs.FoundLemmas.{list_shown, first_is}
use Rattle.shelf_database.proofs.HoldsLemmas.{one_never_lacks, failed_only}
use Rattle.shelf_database.proofs.LacksLemmas.{uris_lack}
use Rattle.shelf_database.proofs.QueryLemmas.{read_changes}
use Rattle.shelf_database.proofs.database.SqlShelfShelf.list.Goals as goal

pub returns-in_err-text-clause-changes : goal.returns-in_err-text-clause-changes
returns-in_err-text-clause-changes g c =
    let old = state g.S.Store c.args.self.now.connection in
    let new = state g.S.Store c.first_text.new.connection in
    let refuses = text_refuses _ _ (uris_asked c.args.name.now) old new (rw c.params-to_sql.ensures at c.first_text.ensures.survives) (LacksText (2 ∷ []) (has_text 1 c.args.name.now) (old.now.trees 1)) c.in_err-text.field-0.0 (λ rows answer lacks. uris_lack old.now.trees rows c.args.name.now answer lacks) (rw c.params-to_sql.ensures at c.in_err-text.ensures.refused) in
    rw (handed_on c.from_residual.result _ c.from_residual.ensures.1) (refuses.changes _)

pub returns-in_err-text-clause-answers : goal.returns-in_err-text-clause-answers
returns-in_err-text-clause-answers g c = λ trusted.
    let old = state g.S.Store c.args.self.now.connection in
    let new = state g.S.Store c.first_text.new.connection in
    let lacking : Type 0 = LacksText (2 ∷ []) (has_text 1 c.args.name.now) (old.now.trees 1) in
    let never : lacking → ⊥ = one_never_lacks (1 ∷ 2 ∷ []) 2 (has_text 1 c.args.name.now) (old.now.trees 1) trusted.1.texts.lists (inr (inl refl)) in
    let refuses = text_refuses _ _ (uris_asked c.args.name.now) old new (rw c.params-to_sql.ensures at c.first_text.ensures.survives) (LacksText (2 ∷ []) (has_text 1 c.args.name.now) (old.now.trees 1)) c.in_err-text.field-0.0 (λ rows answer lacks. uris_lack old.now.trees rows c.args.name.now answer lacks) (rw c.params-to_sql.ensures at c.in_err-text.ensures.refused) in
    rw (handed_on c.from_residual.result _ c.from_residual.ensures.1) (refused_answers (Unit {0}) old new (HasFailed old new ⊎ lacking) (StoreFailed old new (ListOf c.args.name.now)) (refusal_of_list (note_maps old.now.trees) c.args.name.now) c.in_err-text.field-0.0 (failed_only (HasFailed old new) lacking (CannotDo old.now.trees (ListOf c.args.name.now)) never) refuses trusted)

pub returns-in-Some-clause-changes : goal.returns-in-Some-clause-changes
returns-in-Some-clause-changes g c =
    let old = state g.S.Store c.args.self.now.connection in
    let new = state g.S.Store c.first_text.new.connection in
    read_changes old new true (text_reads _ _ (uris_asked c.args.name.now) old new (rw c.params-to_sql.ensures at c.first_text.ensures.survives) (λ clean. let h = (rw c.params-to_sql.ensures at c.in_ok-text.ensures.shown) clean in (h.0, h.1)))

pub returns-in-None-clause-changes : goal.returns-in-None-clause-changes
returns-in-None-clause-changes g c =
    let old = state g.S.Store c.args.self.now.connection in
    let new = state g.S.Store c.first_text.new.connection in
    read_changes old new false (text_reads _ _ (uris_asked c.args.name.now) old new (rw c.params-to_sql.ensures at c.first_text.ensures.survives) (λ clean. let h = (rw c.params-to_sql.ensures at c.in_ok-text.ensures.shown) clean in (h.0, h.1)))

pub returns-in-None-clause-answers : goal.returns-in-None-clause-answers
returns-in-None-clause-answers g c = λ trusted.
    let old = state g.S.Store c.args.self.now.connection in
    let new = state g.S.Store c.first_text.new.connection in
    let h = (rw c.params-to_sql.ensures at c.in_ok-text.ensures.shown) trusted.0 in
    let rows = list_shown 2 c.args.name.now old.now h.0 trusted.1.ready.shelf (asked_answer _ _ (uris_asked c.args.name.now) old new (rw c.params-to_sql.ensures at c.first_text.ensures.survives) h.0 trusted.1.ready h.1) in
    let none : c.in_ok-text.field-0 ≡ None = search rules in
    let missing : option_map (λ r. bytes (column r 2)) (find (has_text 1 c.args.name.now) (old.now.trees 1)) ≡ None = first_is 2 (find (has_text 1 c.args.name.now) (old.now.trees 1)) h.0 _ rows h.2 ∙ ap (option_map string_bytes) none in
    rw missing refl

pub returns-in-Some-clause-answers : goal.returns-in-Some-clause-answers
returns-in-Some-clause-answers g c = λ trusted.
    let old = state g.S.Store c.args.self.now.connection in
    let new = state g.S.Store c.first_text.new.connection in
    let h = (rw c.params-to_sql.ensures at c.in_ok-text.ensures.shown) trusted.0 in
    let rows = list_shown 2 c.args.name.now old.now h.0 trusted.1.ready.shelf (asked_answer _ _ (uris_asked c.args.name.now) old new (rw c.params-to_sql.ensures at c.first_text.ensures.survives) h.0 trusted.1.ready h.1) in
    let some : c.in_ok-text.field-0 ≡ Some c.in-Some.text = search rules in
    let there : option_map (λ r. bytes (column r 2)) (find (has_text 1 c.args.name.now) (old.now.trees 1)) ≡ Some (string_bytes c.in-Some.text) = first_is 2 (find (has_text 1 c.args.name.now) (old.now.trees 1)) h.0 _ rows h.2 ∙ ap (option_map string_bytes) some in
    rw there refl

pub returns-in-Some-clause-uris : goal.returns-in-Some-clause-uris
returns-in-Some-clause-uris g c = λ trusted.
    let old = state g.S.Store c.args.self.now.connection in
    let new = state g.S.Store c.first_text.new.connection in
    let h = (rw c.params-to_sql.ensures at c.in_ok-text.ensures.shown) trusted.0 in
    let rows = list_shown 2 c.args.name.now old.now h.0 trusted.1.ready.shelf (asked_answer _ _ (uris_asked c.args.name.now) old new (rw c.params-to_sql.ensures at c.first_text.ensures.survives) h.0 trusted.1.ready h.1) in
    let some : c.in_ok-text.field-0 ≡ Some c.in-Some.text = search rules in
    let there : option_map (λ r. bytes (column r 2)) (find (has_text 1 c.args.name.now) (old.now.trees 1)) ≡ Some (string_bytes c.in-Some.text) = first_is 2 (find (has_text 1 c.args.name.now) (old.now.trees 1)) h.0 _ rows h.2 ∙ ap (option_map string_bytes) some in
    ap (option_map lines_of) there ∙ ap Some (sym c.of_text.ensures)
