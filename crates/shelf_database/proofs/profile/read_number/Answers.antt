use Rattle.std.proofs.Common.{inl, sym, ap, ◌∙◌, is_ok}
use Rattle.sqlite.specs.Held.{state}
use Rattle.shelf_database.specs.Tables.{number_of}
use Rattle.shelf_database.proofs.MakingBlame.{unread_for}
use Rattle.shelf_database.proofs.OpensLemmas.{on_ok, opens_read}
use Rattle.shelf_database.proofs.profile.read_number.Goals as goal

pub returns-clause-opens : goal.returns-clause-opens
returns-clause-opens g c = λ noted.
    let old = state g.S.Store c.args.connection.now in
    let new = state g.S.Store c.numbers.new.connection in
    opens_read old new (is_ok c.is_number.result) noted (λ trees opened left. g.met.S.Store.settled c.args.connection.now.store trees opened left) c.in_ok-rows.ensures.reads (λ clean ready is.
    sym (c.in_ok-rows.ensures.shown clean (inl ready)) ∙ ap (number_of 0) (sym c.deref.ensures.value) ∙ on_ok c.is_number.result _ is c.is_number.ensures.accepted)

pub returns-clause-blamed : goal.returns-clause-blamed
returns-clause-blamed g c =
    let old = state g.S.Store c.args.connection.now in
    let new = state g.S.Store c.numbers.new.connection in
    unread_for old new c.is_number.result (λ clean ready number. c.is_number.ensures.refused (ap (number_of 0) c.deref.ensures.value ∙ c.in_ok-rows.ensures.shown clean (inl ready) ∙ number))
